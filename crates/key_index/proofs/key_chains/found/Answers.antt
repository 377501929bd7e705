use Rattle.std.proofs.Common.{true, false, ap, sym, subst, ◌∙◌, ◌≡◌, List, ℕ}
use Rattle.key_index.specs.Slots.{slots_in}
use Rattle.key_index.proofs.Walking.{IsWalked, walk_finds, walk_found, walk_once, walk_passes, walk_starts}
use Rattle.key_index.proofs.key_chains.found.Goals.{then-stands_at+in_ok-push, else-stands_at}
use Rattle.key_index.proofs.key_chains.found.Goals as goal

pub loop-at-init : goal.loop-at-init
loop-at-init c =
    walk_starts (slots_in c.args.slots.now) c.args.chains.now c.args.key.now c.values_hash-hash.result c.new-found.result.items c.first-at.result
    c.requires c.values_hash-hash.ensures c.new-found.ensures.items c.first-at.ensures.left c.first-at.ensures.at c.first-at.ensures.whole

pub loop-at-preserved : goal.loop-at-preserved
loop-at-preserved c =
    let hash = c.values_hash-hash.result in
    elim c.if-stands_at.branch [
      | then-stands_at+in_ok-push w ↦
          walk_finds (slots_in c.args.slots.now) c.args.chains.now c.args.key.now hash c.loop-at.found.items c.loop-at.at c.following-at.result c.in-Some.ordinal c.loop-at.invariant c.in-Some.is
          (c.following-at.ensures.left hash) (c.following-at.ensures.at hash) c.if-stands_at.found.items (c.stands_at.ensures.0 w.if-stands_at.true)
          (ap (λ v. v.items) w.found-is ∙ w.in_ok-push.ensures.items)
      | else-stands_at w ↦
          subst (λ (f : List ℕ). IsWalked (slots_in c.args.slots.now) c.args.chains.now c.args.key.now hash f c.following-at.result) (sym (ap (λ v. v.items) w.found-is))
          (walk_passes (slots_in c.args.slots.now) c.args.chains.now c.args.key.now hash c.loop-at.found.items c.loop-at.at c.following-at.result c.in-Some.ordinal c.loop-at.invariant c.in-Some.is
          (c.following-at.ensures.left hash) (c.following-at.ensures.at hash)
          (λ has. (let both : true ≡ false = sym (c.stands_at.ensures.1 has) ∙ w.if-stands_at.false in cc)))
    ]

pub returns-clause-are : goal.returns-clause-are
returns-clause-are c = walk_found (slots_in c.args.slots.now) c.args.chains.now c.args.key.now c.values_hash-hash.result c.loop-at.found.items c.loop-at.at c.loop-at.invariant c.in_default.is

pub returns-clause-once : goal.returns-clause-once
returns-clause-once c = walk_once (slots_in c.args.slots.now) c.args.chains.now c.args.key.now c.values_hash-hash.result c.loop-at.found.items c.loop-at.at c.loop-at.invariant c.in_default.is
