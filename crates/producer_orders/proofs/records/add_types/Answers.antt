use Rattle.std.proofs.Common.{◌<◌, ap, arith, length, List, refl, subst, sym}
use Rattle.std.proofs.lemmas.Result.{err_from_is_err_and}
use Rattle.schema_model.specs.Model.{IsModel}
use Rattle.schema_model.specs.declared.schema.Schema.{Schema}
use Rattle.write_engine.specs.Production.{Production}
use Rattle.hol_orders.specs.Parts.{added}
use Rattle.hollow_machine.specs.Records.{values_under}
use Rattle.producer_orders.proofs.AddingRecords.{types_end, types_step, types_stop}
use Rattle.producer_orders.proofs.Placed.{some_item}
use Rattle.producer_orders.proofs.records.add_types.Goals as goal

pub add_type-requires-clause-model : goal.add_type-requires-clause-model
add_type-requires-clause-model c =
    subst (λ (p : Production). IsModel p.schemas) (sym c.loop-type_index.invariant.kept) (subst (λ (ss : List Schema). IsModel ss) c.model.ensures c.len-types.ensures.model)

pub returns-in_err-full-clause-tells : goal.returns-in_err-full-clause-tells
returns-in_err-full-clause-tells c =
    let add = added c.args.add.now in
    let now = c.loop-type_index.producer in
    let t = c.loop-type_index.type_index in
    let same = ap (λ (p : Production). length p.schemas) c.loop-type_index.invariant.kept in
    let count = ap length c.model.ensures in
    let within : t < length now.schemas = omega (arith, same, count, c.len-types.ensures.count, c.loop-type_index-test.true) in
    let found = some_item now.schemas t within in
    let p = err_from_is_err_and c.from_residual.result c.from_residual.ensures.1 in
    rw (p.1, p.2)
    (types_stop add c.args.producer.now now c.add_type.new.producer c.loop-type_index.full t found.0 (values_under add found.0.name) c.in_err-full.field-0.0
    found.1 refl c.loop-type_index.invariant (λ done had. c.in_err-full.ensures.tells found.0 done found.1 had))

pub loop-type_index-preserved : goal.loop-type_index-preserved
loop-type_index-preserved c =
    let add = added c.args.add.now in
    let now = c.loop-type_index.producer in
    let t = c.loop-type_index.type_index in
    let same = ap (λ (p : Production). length p.schemas) c.loop-type_index.invariant.kept in
    let count = ap length c.model.ensures in
    let within : t < length now.schemas = omega (arith, same, count, c.len-types.ensures.count, c.loop-type_index-test.true) in
    let found = some_item now.schemas t within in
    types_step add c.args.producer.now now c.add_type.new.producer c.loop-type_index.full c.in_ok-full.full t found.0 (values_under add found.0.name)
    found.1 refl c.loop-type_index.invariant c.add_type.ensures.kept (λ done had. c.in_ok-full.ensures.tells found.0 done found.1 had)

pub returns-clause-tells : goal.returns-clause-tells
returns-clause-tells c =
    let count = ap length c.model.ensures in
    types_end (added c.args.add.now) c.args.producer.now c.loop-type_index.producer c.loop-type_index.full c.loop-type_index.type_index
    (omega (arith, count, c.len-types.ensures.count, c.loop-type_index-test.false)) c.loop-type_index.invariant
