use Rattle.std.proofs.Common.{◌≡◌, true, false, subst, sym, ◌∙◌, arith}
use Rattle.std.specs.Prelude.{Contains, is_err}
use Rattle.type_rows.specs.Ordinals.{IsLeast, StaysOutside}
use Rattle.type_rows.proofs.Walks.{found_there, not_there, removed_passed, stays_first, stays_nowhere}
use Rattle.type_rows.proofs.ordinals.first_staying_outside.Goals as goal

pub returns-then-is_err : goal.returns-then-is_err
returns-then-is_err c =
    let removed = c.args.removed.now in
    let told : is_err c.binary_search.result ≡ true = sym c.is_err.ensures.value ∙ c.if-is_err.true in
    subst (λ o. IsLeast (StaysOutside c.args.live.now removed c.args.places) o) (sym c.from-then-is_err.ensures)
    (stays_first c.args.live.now removed c.args.places c.loop-ordinal.from c.in-Some.ordinal c.loop-ordinal.invariant c.in-Some.ensures.least
    (subst (λ o. Contains removed o → ⊥) c.from.ensures (not_there removed c.from.result c.binary_search.result c.requires c.binary_search.ensures.position told)))

pub overflow_add-from : goal.overflow_add-from
overflow_add-from c = omega (arith, c.in-Some.ensures.small)

pub loop-ordinal-preserved : goal.loop-ordinal-preserved
loop-ordinal-preserved c =
    let removed = c.args.removed.now in
    let told : is_err c.binary_search.result ≡ false = sym c.is_err.ensures.value ∙ c.if-is_err.false in
    removed_passed c.args.live.now removed c.args.places c.loop-ordinal.from c.in-Some.ordinal c.loop-ordinal.invariant c.in-Some.ensures.least
    (subst (λ o. Contains removed o) c.from.ensures (found_there removed c.from.result c.binary_search.result c.requires c.binary_search.ensures.position told))

pub returns : goal.returns
returns c = stays_nowhere c.args.live.now c.args.removed.now c.args.places c.loop-ordinal.from c.loop-ordinal.invariant c.in_default.ensures.least
