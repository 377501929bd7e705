use Rattle.std.proofs.Common.{arith, map, subst, sym}
use Rattle.std.proofs.lemmas.List.{length-map}
use Rattle.std.proofs.lemmas.Result.{err_from_is_err_and}
use Rattle.serde_json.specs.View.{view}
use Rattle.schema_model.specs.Model.{IsModel}
use Rattle.write_engine.specs.Production.{Production}
use Rattle.hollow_machine.specs.Records.{entries_at}
use Rattle.producer_orders.proofs.AddingRecords.{none_behind, values_end, values_step, values_stop}
use Rattle.producer_orders.proofs.Placed.{item_at}
use Rattle.producer_orders.proofs.records.add_values.Goals as goal

pub add_value-requires-clause-model : goal.add_value-requires-clause-model
add_value-requires-clause-model c = subst (λ (p : Production). IsModel p.schemas) (sym c.loop-place.invariant.kept) c.requires.model

pub returns-in_err-full-clause-tells : goal.returns-in_err-full-clause-tells
returns-in_err-full-clause-tells c =
    let values = c.args.values.now in
    let item = c.index-values-place.result in
    let at = item_at view values c.loop-place.place item c.loop-place-test.true c.index-values-place.is in
    let old = c.args.producer.now in
    let p = err_from_is_err_and c.from_residual.result c.from_residual.ensures.1 in
    rw (p.1, p.2) (λ done had. values_stop c.args.type_index (map view values) old c.loop-place.producer c.add_value.new.producer c.args.full_before c.loop-place.full 0 c.loop-place.place (view item) c.in_err-full.field-0.0
    at c.loop-place.invariant c.in_err-full.ensures.tells done (none_behind old.schemas old.previous old.current c.args.full_before done (entries_at c.args.type_index (map view values)) had))

pub loop-place-preserved : goal.loop-place-preserved
loop-place-preserved c =
    let values = c.args.values.now in
    let item = c.index-values-place.result in
    let at = item_at view values c.loop-place.place item c.loop-place-test.true c.index-values-place.is in
    values_step c.args.type_index (map view values) c.args.producer.now c.loop-place.producer c.add_value.new.producer c.args.full_before c.loop-place.full c.in_ok-full.full 0 c.loop-place.place (view item)
    at c.loop-place.invariant c.add_value.ensures.kept c.in_ok-full.ensures.tells

pub returns-clause-tells : goal.returns-clause-tells
returns-clause-tells c = λ done had.
    (let values = c.args.values.now in
    let old = c.args.producer.now in
    let long = length-map values view in
    values_end c.args.type_index (map view values) old c.loop-place.producer c.args.full_before c.loop-place.full 0 c.loop-place.place (omega (arith, long, c.loop-place-test.false)) c.loop-place.invariant
    done (none_behind old.schemas old.previous old.current c.args.full_before done (entries_at c.args.type_index (map view values)) had))
