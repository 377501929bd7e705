use Rattle.std.proofs.Common.{List, Option, Ok, Err, subst, sym}
use Rattle.std.proofs.lemmas.Result.{err_from_is_err_and}
use Rattle.json.specs.Token.{Token}
use Rattle.serde_json.specs.Data.{Data}
use Rattle.serde_json.specs.declared.value.Value.{Value}
use Rattle.record_stream.specs.Records.{AreAhead, TellsRecord}
use Rattle.schema_model.specs.Model.{IsModel}
use Rattle.write_engine.specs.Production.{Production}
use Rattle.producer_orders.proofs.AheadRecords.{ahead_end, ahead_first, ahead_step, ahead_stop, next_value, still_ahead}
use Rattle.producer_orders.proofs.line_records.add_ahead.Goals as goal

pub loop-place-init : goal.loop-place-init
loop-place-init c = ahead_first c.args.type_index c.args.reader.now c.args.producer.now c.args.full_before c.args.from

pub next_record-requires : goal.next_record-requires
next_record-requires c =
    still_ahead c.args.type_index c.args.reader.now c.loop-place.reader c.args.producer.now c.loop-place.producer c.args.full_before c.loop-place.full c.args.from c.loop-place.place c.loop-place.invariant c.requires.ahead

pub add_value-requires-clause-model : goal.add_value-requires-clause-model
add_value-requires-clause-model c = subst (λ (p : Production). IsModel p.schemas) (sym c.loop-place.invariant.kept) c.requires.model

pub returns-in-Ok-None-clause-tells : goal.returns-in-Ok-None-clause-tells
returns-in-Ok-None-clause-tells c =
    ahead_end c.args.type_index c.args.reader.now c.loop-place.reader c.next_record.new.reader c.args.producer.now c.loop-place.producer c.args.full_before c.loop-place.full c.args.from c.loop-place.place c.loop-place.invariant
    (subst (λ (o : Option Value). (records : List Data) (rest : List Token) → AreAhead c.loop-place.reader records rest → TellsRecord records rest o c.next_record.new.reader) c.in-Ok-None.field-0-is c.in-Ok-None.ensures)

pub returns-in_err-full-clause-tells : goal.returns-in_err-full-clause-tells
returns-in_err-full-clause-tells c =
    let p = err_from_is_err_and c.from_residual.result c.from_residual.ensures.1 in
    let told = subst (λ (o : Option Value). (records : List Data) (rest : List Token) → AreAhead c.loop-place.reader records rest → TellsRecord records rest o c.next_record.new.reader) c.in-Ok-Some.field-0-is c.in-Ok-Some.ensures in
    rw (p.1, p.2)
    (ahead_stop c.args.type_index c.args.reader.now c.loop-place.reader c.next_record.new.reader c.args.producer.now c.loop-place.producer c.add_value.new.producer c.args.full_before c.loop-place.full c.args.from c.loop-place.place
    c.in_err-full.field-0.0 c.loop-place.invariant
    (next_value c.args.type_index c.loop-place.reader c.next_record.new.reader c.loop-place.producer c.add_value.new.producer c.loop-place.full c.loop-place.place (Err c.in_err-full.field-0.0) c.in-Ok-Some.value told c.in_err-full.ensures.tells))

pub loop-place-preserved : goal.loop-place-preserved
loop-place-preserved c =
    let told = subst (λ (o : Option Value). (records : List Data) (rest : List Token) → AreAhead c.loop-place.reader records rest → TellsRecord records rest o c.next_record.new.reader) c.in-Ok-Some.field-0-is c.in-Ok-Some.ensures in
    ahead_step c.args.type_index c.args.reader.now c.loop-place.reader c.next_record.new.reader c.args.producer.now c.loop-place.producer c.add_value.new.producer c.args.full_before c.loop-place.full c.in_ok-full.full
    c.args.from c.loop-place.place c.loop-place.invariant
    (next_value c.args.type_index c.loop-place.reader c.next_record.new.reader c.loop-place.producer c.add_value.new.producer c.loop-place.full c.loop-place.place (Ok c.in_ok-full.full) c.in-Ok-Some.value told c.in_ok-full.ensures.tells)
    c.add_value.ensures.kept
