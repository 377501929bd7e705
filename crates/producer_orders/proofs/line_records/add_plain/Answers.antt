use Rattle.std.proofs.Common.{List, Ok, Err, subst, sym}
use Rattle.std.proofs.lemmas.Result.{err_from_is_err_and}
use Rattle.json.specs.Token.{Token}
use Rattle.serde_json.specs.Data.{Data}
use Rattle.record_stream.specs.Records.{AreAhead}
use Rattle.record_tokens.specs.Next.{TellsTree}
use Rattle.record_tokens.specs.declared.next.NextTree.{NextTree}
use Rattle.schema_model.specs.Model.{IsModel}
use Rattle.write_engine.specs.Production.{Production}
use Rattle.hollow_machine.specs.Records.{entries_at}
use Rattle.producer_orders.proofs.AddingRecords.{none_behind}
use Rattle.producer_orders.proofs.AheadRecords.{ahead_end, ahead_step, ahead_stop, next_read, read_ahead, still_ahead, there_more}
use Rattle.producer_orders.proofs.line_records.add_plain.Goals as goal

pub returns-in-Ok-End-clause-tells : goal.returns-in-Ok-End-clause-tells
returns-in-Ok-End-clause-tells c = λ records rest done ahead had.
    (let old = c.args.producer.now in
    let told = subst (λ (found : NextTree). (records : List Data) (rest : List Token) → AreAhead c.loop-place.reader records rest → TellsTree c.model.result.now c.args.type_index records rest found c.next_tree.new.reader)
    c.in-Ok-End.field-0-is c.in-Ok-End.ensures in
    ahead_end c.args.type_index c.args.reader.now c.loop-place.reader c.next_tree.new.reader old c.loop-place.producer c.args.full_before c.loop-place.full 0 c.loop-place.place c.loop-place.invariant.0 told
    records rest done ahead (none_behind old.schemas old.previous old.current c.args.full_before done (entries_at c.args.type_index records) had))

pub returns-in-Ok-Other-clause-tells : goal.returns-in-Ok-Other-clause-tells
returns-in-Ok-Other-clause-tells c = λ records rest done ahead had.
    (let old = c.args.producer.now in
    (c.loop-place.invariant.0.others records rest ahead).1.added done (none_behind old.schemas old.previous old.current c.args.full_before done (entries_at c.args.type_index records) had))

pub add_record-requires-clause-given : goal.add_record-requires-clause-given
add_record-requires-clause-given c =
    let told = subst (λ (found : NextTree). (records : List Data) (rest : List Token) → AreAhead c.loop-place.reader records rest → TellsTree c.model.result.now c.args.type_index records rest found c.next_tree.new.reader)
    c.in-Ok-Record.field-0-is c.in-Ok-Record.ensures in
    let ahead = still_ahead c.args.type_index c.args.reader.now c.loop-place.reader c.args.producer.now c.loop-place.producer c.args.full_before c.loop-place.full 0 c.loop-place.place c.loop-place.invariant.0 c.requires.ahead in
    read_ahead c.model.result.now c.loop-place.producer.schemas c.args.type_index c.loop-place.reader c.next_tree.new.reader c.in-Ok-Record.record c.model.ensures ahead told

pub add_record-requires-clause-model : goal.add_record-requires-clause-model
add_record-requires-clause-model c = subst (λ (p : Production). IsModel p.schemas) (sym c.loop-place.invariant.0.kept) c.requires.model

pub returns-in_err-full-clause-tells : goal.returns-in_err-full-clause-tells
returns-in_err-full-clause-tells c =
    let old = c.args.producer.now in
    let p = err_from_is_err_and c.from_residual.result c.from_residual.ensures.1 in
    let told = subst (λ (found : NextTree). (records : List Data) (rest : List Token) → AreAhead c.loop-place.reader records rest → TellsTree c.model.result.now c.args.type_index records rest found c.next_tree.new.reader)
    c.in-Ok-Record.field-0-is c.in-Ok-Record.ensures in
    let next = next_read c.model.result.now c.args.type_index c.loop-place.reader c.next_tree.new.reader c.loop-place.producer c.add_record.new.producer c.loop-place.full c.loop-place.place (Err c.in_err-full.field-0.0) c.in-Ok-Record.record
    c.model.ensures told c.in_err-full.ensures.tells in
    rw (p.1, p.2) (λ records rest done ahead had.
    ahead_stop c.args.type_index c.args.reader.now c.loop-place.reader c.next_tree.new.reader old c.loop-place.producer c.add_record.new.producer c.args.full_before c.loop-place.full 0 c.loop-place.place c.in_err-full.field-0.0
    c.loop-place.invariant.0 next records rest done ahead (none_behind old.schemas old.previous old.current c.args.full_before done (entries_at c.args.type_index records) had))

pub loop-place-preserved : goal.loop-place-preserved
loop-place-preserved c =
    let old = c.args.producer.now in
    let told = subst (λ (found : NextTree). (records : List Data) (rest : List Token) → AreAhead c.loop-place.reader records rest → TellsTree c.model.result.now c.args.type_index records rest found c.next_tree.new.reader)
    c.in-Ok-Record.field-0-is c.in-Ok-Record.ensures in
    let next = next_read c.model.result.now c.args.type_index c.loop-place.reader c.next_tree.new.reader c.loop-place.producer c.add_record.new.producer c.loop-place.full c.loop-place.place (Ok c.in_ok-full.full) c.in-Ok-Record.record
    c.model.ensures told c.in_ok-full.ensures.tells in (
      ahead_step c.args.type_index c.args.reader.now c.loop-place.reader c.next_tree.new.reader old c.loop-place.producer c.add_record.new.producer c.args.full_before c.loop-place.full c.in_ok-full.full 0 c.loop-place.place
          c.loop-place.invariant.0 next c.add_record.ensures.kept,
      there_more c.args.type_index c.args.reader.now c.loop-place.reader c.next_tree.new.reader old c.loop-place.producer c.add_record.new.producer c.args.full_before c.loop-place.full c.loop-place.place (Ok c.in_ok-full.full)
          c.loop-place.invariant.0 next,
    )
