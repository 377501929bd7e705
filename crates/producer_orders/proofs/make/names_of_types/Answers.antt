use Rattle.std.proofs.Common.{◌≡◌, ◌<◌, ℕ, List, Some, length, get_or, ap, subst, arith}
use Rattle.std.specs.List.{slice_get}
use Rattle.producer_orders.proofs.Naming.{named_more}
use Rattle.producer_orders.proofs.make.names_of_types.Goals as goal

pub loop-type_index-preserved : goal.loop-type_index-preserved
loop-type_index-preserved c =
    let i = c.loop-type_index.type_index-index in
    let inside : i < length c.args.types.now = omega (arith, c.loop-type_index-test.true, ap (λ (ts : List ℕ). length ts) c.as_slice-indexes.ensures) in
    let at = ap (λ (ts : List ℕ). get_or ts i 0) c.as_slice-indexes.ensures in
    named_more c.args.model.now c.args.types.now i c.loop-type_index.names c.push.new.self c.schema.result.now c.in_ok-copy.field-0 inside
    (subst (λ (n : ℕ). slice_get c.args.model.now n ≡ Some c.schema.result.now) at c.schema.ensures.value) c.in_ok-copy.ensures c.in_ok-push.ensures.ok c.loop-type_index.invariant
