use Rattle.record_stream.specs.RecordLine.{added_by}
use Rattle.hollow_machine.specs.Records.{values_under}
use Rattle.change_orders.proofs.LineRecords.{ahead_under, none_more, none_under}
use Rattle.change_orders.proofs.line_records.trees_in.Goals as goal

pub returns-in-Ok-Some : goal.returns-in-Ok-Some
returns-in-Ok-Some c = λ schema before at had.
    (let add = added_by c.args.line.now in
    let ahead = ahead_under c.args.model.now c.args.type_index c.schema.result.now schema add c.text-name.result.now c.in-Ok-Some.field-0 c.in-Ok-Some.reader c.schema.ensures.value c.text-name.ensures c.in-Ok-Some.field-0-is c.in-Ok-Some.ensures at in
    c.trees_ahead.ensures (values_under add schema.name) ahead.0 before ahead.1 had)

pub returns-in-Ok-None : goal.returns-in-Ok-None
returns-in-Ok-None c = λ schema before at had.
    (let add = added_by c.args.line.now in
    let none = none_under c.args.model.now c.args.type_index c.schema.result.now schema add c.text-name.result.now c.in-Ok-None.field-0 c.schema.ensures.value c.text-name.ensures c.in-Ok-None.field-0-is c.in-Ok-None.ensures at in
    none_more c.args.model.now c.args.type_index before (values_under add schema.name) c.args.found.now none had)
