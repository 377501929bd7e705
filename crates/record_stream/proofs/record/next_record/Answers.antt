use Rattle.std.proofs.Common.{◌∙◌, Err, ap, sym}
use Rattle.json.specs.Json.{value}
use Rattle.serde_json.specs.Read.{converted, of_json}
use Rattle.serde_json.specs.View.{view}
use Rattle.record_stream.specs.Records.{record_depth}
use Rattle.record_stream.proofs.Records.{ended, stepped, unread}
use Rattle.record_stream.proofs.record.next_record.Goals as goal

pub returns-then-take_end_array : goal.returns-then-take_end_array
returns-then-take_end_array c = λ records rest. ended c.args.reader.now c.take_end_array.new.self records rest c.if-take_end_array.ensures

pub unreachable-requires : goal.unreachable-requires
unreachable-requires c =
    let going = c.if-take_end_array.ensures in
    let bad = c.read_value.ensures.invalid (c.in-Err-Invalid.is ∙ ap Err c.in-Err-Invalid.field-0-is) in
    unread c.args.reader.now c.requires.0 c.requires.1 going.0 (ap (λ ts. converted of_json (value record_depth ts)) (sym going.1) ∙ bad) c.requires.2

pub returns-in-Ok : goal.returns-in-Ok
returns-in-Ok c = λ records rest.
    (let going = c.if-take_end_array.ensures in
    stepped c.args.reader.now c.read_value.new.reader (view c.in-Ok.value) records rest going.0 (ap (λ ts. converted of_json (value record_depth ts)) (sym going.1) ∙ c.in-Ok.ensures.ok))
