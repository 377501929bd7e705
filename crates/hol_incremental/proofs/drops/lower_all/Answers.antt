use Rattle.std.proofs.Common.{◌≡◌, ◌∙◌, ◌++◌, ◌∷◌, ℕ, List, [], true, false, get_or, refl, sym, ap, subst, take, arith}
use Rattle.hol_incremental.specs.Drops.{FallsFrom, MayFall}
use Rattle.hol_incremental.proofs.CountLists.{taken_push}
use Rattle.hol_incremental.proofs.FallenRows.{falls_more, falls_none, falls_same, lowered_more, next_counted}
use Rattle.hol_incremental.proofs.drops.lower_all.Goals.{then-at-eq0+then-may_fall+in_ok-push, else-at-eq0, else-at-eq0-via-then-at-eq0+else-may_fall, else-at-eq0-via-else-at-eq0}
use Rattle.hol_incremental.proofs.drops.lower_all.Goals as goal

pub loop-row-init : goal.loop-row-init
loop-row-init c = record { types = refl; lowered = λ t o. omega arith; fallen = falls_none (MayFall c.args.model.now c.args.leaving.now) c.args.counts.now c.args.pending.now.items }

pub loop-row-preserved : goal.loop-row-preserved
loop-row-preserved c =
    let named = c.args.named.now in
    let i = c.loop-row.row-index in
    let row = get_or named i (0, 0) in
    let may = MayFall c.args.model.now c.args.leaving.now in
    let inside = c.loop-row-test.true in
    let inv = c.loop-row.invariant in
    let some = next_counted named i (0, 0) c.loop-row.counts c.args.counts.now inside c.requires.enough inv.lowered in
    record {
      types = c.lower.ensures.types ∙ inv.types;
      lowered = lowered_more named i (0, 0) c.loop-row.counts c.lower.new.self c.args.counts.now inside inv.lowered c.lower.ensures.lowered;
      fallen = subst (λ (rows : List (ℕ × ℕ)). FallsFrom may rows c.lower.new.self c.args.pending.now.items c.if-at-eq0.pending.items) (sym (taken_push named i (0, 0) inside))
          (elim c.if-at-eq0.branch [
            | then-at-eq0+then-may_fall+in_ok-push w ↦
                falls_more may (take i named) c.args.pending.now.items c.loop-row.pending.items row c.loop-row.counts c.lower.new.self inv.fallen some c.lower.ensures.lowered c.if-at-eq0.pending.items
                (ap (λ list. list.items) w.pending-is ∙ w.in_ok-push.ensures.items) (sym c.at.ensures ∙ w.if-at-eq0.true) (w.may_fall.ensures.0 w.if-may_fall.true)
            | else-at-eq0 w ↦
                subst (λ (rows : List (ℕ × ℕ)). FallsFrom may (take i named ++ row ∷ []) c.lower.new.self c.args.pending.now.items rows) (sym (ap (λ list. list.items) w.pending-is))
                (falls_same may (take i named) c.args.pending.now.items c.loop-row.pending.items row c.loop-row.counts c.lower.new.self inv.fallen some c.lower.ensures.lowered
                (λ none m.
                (elim w.else-at-eq0.branch [
                  | else-at-eq0-via-then-at-eq0+else-may_fall w' ↦ (let both : true ≡ false = sym (w'.may_fall.ensures.1 m) ∙ w'.if-may_fall.false in absurd cc)
                  | else-at-eq0-via-else-at-eq0 w' ↦ absurd (w'.if-at-eq0.false (c.at.ensures ∙ none))
                ])))
          ]);
    }

pub lower-requires : goal.lower-requires
lower-requires c = next_counted c.args.named.now c.loop-row.row-index (0, 0) c.loop-row.counts c.args.counts.now c.loop-row-test.true c.requires.enough c.loop-row.invariant.lowered
