use Rattle.std.proofs.Common.{IfSome, string_bytes, subst}
use Rattle.serde_json.specs.View.{view}
use Rattle.record_stream.specs.PlainFind.{IsScalar}
use Rattle.record_stream.proofs.PlainLines.{plain_read}
use Rattle.record_stream.proofs.plain_find.plain_find.Goals as goal

pub returns : goal.returns
returns c =
    let cut = c.in-Some.cut in
    let scalar = subst (λ found. IfSome found (λ value. IsScalar (view value) cut.value.now)) c.in-Some-2.is c.in_ok-value.ensures in
    plain_read c.args.line.now cut.type_name.now cut.path.now cut.value.now (string_bytes c.in_ok-from_str.field-0) (view c.in-Some-2.value) (view c.in_ok-array_of_text.field-0)
    (view c.in_ok-array_of.field-0) c.in-Some.ensures scalar c.in_ok-from_str.ensures.ok c.in_ok-array_of_text.ensures c.in_ok-array_of.ensures
