use Rattle.std.proofs.Common.{IfSome, subst}
use Rattle.serde_json.specs.View.{view}
use Rattle.record_stream.specs.PlainFind.{IsScalar}
use Rattle.record_stream.proofs.PlainParts.{list_part, string_part}
use Rattle.record_stream.proofs.plain_line.part_of.Goals as goal

pub returns-in-Some : goal.returns-in-Some
returns-in-Some c =
    string_part c.args.text.now c.in-Some.rest.now c.in-Some-take_plain.taken.now c.in-Some-take_plain.behind.now (view c.in_ok-string_of.field-0) c.in-Some.ensures
    c.in-Some-take_plain.ensures c.in_ok-string_of.ensures

pub returns-in-Some-text_after : goal.returns-in-Some-text_after
returns-in-Some-text_after c =
    let cut = c.in-Some-split_once in
    let scalar = subst (λ found. IfSome found (λ value. IsScalar (view value) cut.inside.now)) c.in-Some-2.is c.in_ok-value.ensures in
    list_part (view c.in-Some-2.value) (view c.in_ok-array_of.field-0) c.args.text.now c.in-Some-text_after.rest.now c.split_once.result cut.inside cut.behind c.in-Some-text_after.ensures
    c.split_once.ensures.cases cut.is scalar c.in_ok-array_of.ensures
