use Rattle.std.proofs.Common.{◌∙◌, ap, map}
use Rattle.serde_json.specs.View.{view}
use Rattle.record_stream.specs.RecordLine.{added_by}
use Rattle.hollow_machine.specs.Records.{values_under}
use Rattle.change_orders.proofs.LineRecords.{ahead_under, none_under}
use Rattle.change_orders.proofs.line_records.values_in.Goals as goal

pub returns-in-Ok-Some : goal.returns-in-Ok-Some
returns-in-Ok-Some c = λ schema at.
    (let add = added_by c.args.line.now in
    let ahead = ahead_under c.args.model.now c.args.type_index c.schema.result.now schema add c.text-name.result.now c.in-Ok-Some.field-0 c.in-Ok-Some.reader c.schema.ensures.value c.text-name.ensures c.in-Ok-Some.field-0-is c.in-Ok-Some.ensures at in
    c.values_ahead.ensures (values_under add schema.name) ahead.0 ahead.1)

pub returns-in-Ok-None : goal.returns-in-Ok-None
returns-in-Ok-None c = λ schema at.
    (let add = added_by c.args.line.now in
    let none = none_under c.args.model.now c.args.type_index c.schema.result.now schema add c.text-name.result.now c.in-Ok-None.field-0 c.schema.ensures.value c.text-name.ensures c.in-Ok-None.field-0-is c.in-Ok-None.ensures at in
    ap (map view) c.new.ensures.items ∙ none)
