use Rattle.std.proofs.Common.{◌∙◌, ◌≡◌, List, Some, ap, sym}
use Rattle.std.specs.Prelude.{slice_get}
use Rattle.record_stream.specs.RecordLine.{added_by}
use Rattle.schema_model.specs.declared.schema.Schema.{Schema}
use Rattle.hollow_machine.specs.Records.{values_under}
use Rattle.producer_orders.proofs.AheadRecords.{ahead_under}
use Rattle.producer_orders.proofs.line_records.add_behind.Goals as goal

pub pass_records-requires : goal.pass_records-requires
pass_records-requires c =
    let old = c.args.producer.now in
    let add = added_by c.args.line.now in
    let schema = c.schema.result.now in
    let at : slice_get old.schemas c.args.type_index ≡ Some schema = sym (ap (λ (ss : List Schema). slice_get ss c.args.type_index) c.model.ensures) ∙ c.schema.ensures.value in
    let ahead = ahead_under c.model.result.now old.schemas c.args.type_index schema schema add c.text-name.result.now c.in-Ok-Some.field-0 c.in-Ok-Some.reader c.model.ensures c.schema.ensures.value c.text-name.ensures
    c.in-Ok-Some.field-0-is c.in-Ok-Some.ensures at in
    (values_under add schema.name, ahead.0, ahead.1, c.requires.there schema at)

pub add_ahead-requires-clause-ahead : goal.add_ahead-requires-clause-ahead
add_ahead-requires-clause-ahead c =
    let old = c.args.producer.now in
    let add = added_by c.args.line.now in
    let schema = c.schema.result.now in
    let at : slice_get old.schemas c.args.type_index ≡ Some schema = sym (ap (λ (ss : List Schema). slice_get ss c.args.type_index) c.model.ensures) ∙ c.schema.ensures.value in
    let ahead = ahead_under c.model.result.now old.schemas c.args.type_index schema schema add c.text-name.result.now c.in-Ok-Some.field-0 c.in-Ok-Some.reader c.model.ensures c.schema.ensures.value c.text-name.ensures
    c.in-Ok-Some.field-0-is c.in-Ok-Some.ensures at in
    (values_under add schema.name, ahead.0, c.pass_records.ensures (values_under add schema.name) ahead.0 ahead.1 (c.requires.there schema at))

pub returns-in-Ok-Some-clause-tells : goal.returns-in-Ok-Some-clause-tells
returns-in-Ok-Some-clause-tells c = λ schema done at had.
    (let old = c.args.producer.now in
    let add = added_by c.args.line.now in
    let values = values_under add schema.name in
    let ahead = ahead_under c.model.result.now old.schemas c.args.type_index c.schema.result.now schema add c.text-name.result.now c.in-Ok-Some.field-0 c.in-Ok-Some.reader c.model.ensures c.schema.ensures.value c.text-name.ensures
    c.in-Ok-Some.field-0-is c.in-Ok-Some.ensures at in
    c.add_ahead.ensures.tells values ahead.0 done (c.pass_records.ensures values ahead.0 ahead.1 (c.requires.there schema at)) had)
