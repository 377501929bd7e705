use Rattle.std.proofs.Common.{◌∙◌, ◌≡◌, ◌++◌, Ok, Some, ap, subst, sym, take}
use Rattle.std.specs.Prelude.{slice_get}
use Rattle.std.proofs.lemmas.Result.{err_from_is_err_and}
use Rattle.record_stream.specs.RecordLine.{added_by}
use Rattle.schema_model.specs.Model.{IsModel}
use Rattle.write_engine.specs.Production.{Production}
use Rattle.hollow_machine.specs.Records.{entries_at, values_under}
use Rattle.producer_orders.specs.Parts.{IsThere, TellsPlain}
use Rattle.producer_orders.specs.declared.line_records.Plain.{Plain}
use Rattle.producer_orders.proofs.AddingRecords.{told_before}
use Rattle.producer_orders.proofs.AheadRecords.{ahead_under}
use Rattle.producer_orders.proofs.line_records.add_from_line.Goals as goal

pub returns-in_err-full-in-Ok-Some-clause-tells : goal.returns-in_err-full-in-Ok-Some-clause-tells
returns-in_err-full-in-Ok-Some-clause-tells c =
    let p = err_from_is_err_and c.from_residual.result c.from_residual.ensures.1 in
    rw (p.1, p.2) (λ schema done at had.
    (let old = c.args.producer.now in
    let add = added_by c.args.line.now in
    let ahead = ahead_under c.model.result.now old.schemas c.args.type_index c.schema.result.now schema add c.text-name.result.now c.in-Ok-Some.field-0 c.in-Ok-Some.reader c.model.ensures c.schema.ensures.value c.text-name.ensures
    c.in-Ok-Some.field-0-is c.in-Ok-Some.ensures at in
    c.in_err-full-in-Ok-Some.ensures.tells (values_under add schema.name) ahead.0 done ahead.1 had))

pub returns-in-All-clause-tells : goal.returns-in-All-clause-tells
returns-in-All-clause-tells c = λ schema done at had.
    (let old = c.args.producer.now in
    let add = added_by c.args.line.now in
    let values = values_under add schema.name in
    let ahead = ahead_under c.model.result.now old.schemas c.args.type_index c.schema.result.now schema add c.text-name.result.now c.in-Ok-Some.field-0 c.in-Ok-Some.reader c.model.ensures c.schema.ensures.value c.text-name.ensures
    c.in-Ok-Some.field-0-is c.in-Ok-Some.ensures at in
    subst (λ (plain : Plain). TellsPlain old.schemas old.previous done (entries_at c.args.type_index values) c.add_plain.new.producer.current (Ok plain)) c.in-All.is
    (c.in_ok-full-in-Ok-Some.ensures.tells values ahead.0 done ahead.1 had))

pub add_behind-requires-clause-there : goal.add_behind-requires-clause-there
add_behind-requires-clause-there c = λ schema at.
    (let old = c.args.producer.now in
    let add = added_by c.args.line.now in
    let values = values_under add schema.name in
    let at_old : slice_get old.schemas c.args.type_index ≡ Some schema = sym (ap (λ (p : Production). slice_get p.schemas c.args.type_index) c.add_plain.ensures.kept) ∙ at in
    let ahead = ahead_under c.model.result.now old.schemas c.args.type_index c.schema.result.now schema add c.text-name.result.now c.in-Ok-Some.field-0 c.in-Ok-Some.reader c.model.ensures c.schema.ensures.value c.text-name.ensures
    c.in-Ok-Some.field-0-is c.in-Ok-Some.ensures at_old in
    subst (λ (plain : Plain). IsThere values plain) c.in-Front.is (c.in_ok-full-in-Ok-Some.ensures.there values ahead.0 ahead.1))

pub add_behind-requires-clause-model : goal.add_behind-requires-clause-model
add_behind-requires-clause-model c = subst (λ (p : Production). IsModel p.schemas) (sym c.add_plain.ensures.kept) c.requires.model

pub returns-in-Ok-Some-clause-tells : goal.returns-in-Ok-Some-clause-tells
returns-in-Ok-Some-clause-tells c = λ schema done at had.
    (let old = c.args.producer.now in
    let front = c.add_plain.new.producer in
    let add = added_by c.args.line.now in
    let recorded = entries_at c.args.type_index (values_under add schema.name) in
    let ahead = ahead_under c.model.result.now old.schemas c.args.type_index c.schema.result.now schema add c.text-name.result.now c.in-Ok-Some.field-0 c.in-Ok-Some.reader c.model.ensures c.schema.ensures.value c.text-name.ensures
    c.in-Ok-Some.field-0-is c.in-Ok-Some.ensures at in
    let told = subst (λ (plain : Plain). TellsPlain old.schemas old.previous done recorded front.current (Ok plain)) c.in-Front.is (c.in_ok-full-in-Ok-Some.ensures.tells (values_under add schema.name) ahead.0 done ahead.1 had) in
    let at_now : slice_get front.schemas c.args.type_index ≡ Some schema = ap (λ (p : Production). slice_get p.schemas c.args.type_index) c.add_plain.ensures.kept ∙ at in
    told_before old front (done ++ take c.in-Front.place recorded) front.current c.add_behind.new.producer.current (done ++ recorded) c.in-Front.full c.add_behind.result c.add_plain.ensures.kept
    (c.add_behind.ensures.tells schema done at_now) told)
