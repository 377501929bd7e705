use Rattle.std.proofs.Common.{◌≡◌, ℕ, arith, length, subst}
use Rattle.row_packing.specs.Chosen.{shape_at}
use Rattle.row_packing.specs.Measured.{IsMeasured}
use Rattle.row_packing.proofs.ByType.{one_more}
use Rattle.write_engine.specs.Production.{current_of, previous_of}
use Rattle.write_engine.proofs.TypesKept.{MeasuredBelow, measured_there}
use Rattle.write_engine.proofs.limits.measure_types.Goals as goal

pub loop-type_index-preserved : goal.loop-type_index-preserved
loop-type_index-preserved c =
    let model = c.args.model.now in
    let previous = previous_of c.args.maps.now in
    let current = current_of c.args.maps.now in
    let k = c.loop-type_index.type_index in
    one_more (λ t one. IsMeasured (shape_at model t) previous current t one) k c.loop-type_index.measured _ c.in_ok-measure.field-0 c.loop-type_index.invariant
    (measured_there _ model _ previous _ current k c.in_ok-measure.field-0 c.new-current.ensures.schemas c.new-previous.ensures.table c.new-current.ensures.table c.in_ok-measure.ensures)
    c.in_ok-push.ensures.ok

pub returns : goal.returns
returns c =
    let model = c.args.model.now in
    let end : c.loop-type_index.type_index ≡ length model = omega (arith, c.loop-type_index-test.false, c.loop-type_index.auto.type_index-end, c.len-type_index-end.ensures.count) in
    subst (λ (k : ℕ). MeasuredBelow model (previous_of c.args.maps.now) (current_of c.args.maps.now) k c.loop-type_index.measured) end c.loop-type_index.invariant
