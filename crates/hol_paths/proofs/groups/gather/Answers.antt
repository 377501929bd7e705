use Rattle.std.proofs.Common.{true, false, ap, sym, subst, ◌∙◌, ◌≡◌, List, ℕ}
use Rattle.hol_paths.proofs.Gathering.{IsGathering, gathering_ends, gathering_finds, gathering_passes, gathering_starts}
use Rattle.hol_paths.proofs.groups.gather.Goals.{then-has_number+in_ok-push, else-has_number}
use Rattle.hol_paths.proofs.groups.gather.Goals as goal

pub loop-at-init : goal.loop-at-init
loop-at-init c = gathering_starts c.args.chains.now c.args.number c.args.found.now.items c.first-at.result c.first-at.ensures.left c.first-at.ensures.at c.first-at.ensures.whole

pub loop-at-preserved : goal.loop-at-preserved
loop-at-preserved c =
    let before = c.args.found.now.items in
    elim c.if-has_number.branch [
      | then-has_number+in_ok-push w ↦
          gathering_finds c.args.chains.now c.args.number before c.loop-at.found.items c.loop-at.at c.following-at.result c.in-Some.slot c.loop-at.invariant c.in-Some.is
          (c.following-at.ensures.left c.args.number) (c.following-at.ensures.at c.args.number) c.if-has_number.found.items (c.has_number.ensures.0 w.if-has_number.true)
          (ap (λ v. v.items) w.found-is ∙ w.in_ok-push.ensures.items)
      | else-has_number w ↦
          subst (λ (f : List ℕ). IsGathering c.args.chains.now c.args.number before f c.following-at.result) (sym (ap (λ v. v.items) w.found-is))
          (gathering_passes c.args.chains.now c.args.number before c.loop-at.found.items c.loop-at.at c.following-at.result c.in-Some.slot c.loop-at.invariant c.in-Some.is
          (c.following-at.ensures.left c.args.number) (c.following-at.ensures.at c.args.number)
          (λ has. (let both : true ≡ false = sym (c.has_number.ensures.1 has) ∙ w.if-has_number.false in cc)))
    ]

pub returns : goal.returns
returns c = gathering_ends c.args.chains.now c.args.number c.args.found.now.items c.loop-at.found.items c.loop-at.at c.loop-at.invariant c.in_default.is
