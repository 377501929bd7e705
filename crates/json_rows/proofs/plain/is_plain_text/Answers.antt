use Rattle.std.proofs.Common.{All, get_or, subst, arith, rules}
use Rattle.std.proofs.lemmas.List.{take_all}
use Rattle.object_codec.proofs.BytesInWords.{bytes_long}
use Rattle.object_codec.specs.Bytes.{bytes_of}
use Rattle.json_rows.specs.PlainText.{IsPlainUnit}
use Rattle.json_rows.proofs.PlainTexts.{plain_more}
use Rattle.json_rows.proofs.plain.is_plain_text.Goals as goal

pub loop-at-preserved : goal.loop-at-preserved
loop-at-preserved c =
    let l = c.loop-at in
    let bytes = c.args.bytes in
    let plain : IsPlainUnit (get_or (bytes_of bytes) l.at 0) = search rules in
    plain_more (bytes_of bytes) l.at 0 (omega (arith, bytes_long bytes.words.now bytes.start bytes.len)) plain l.invariant

pub returns : goal.returns
returns c = λ yes.
    let bytes = c.args.bytes in
    subst (All IsPlainUnit) (take_all c.loop-at.at (bytes_of bytes) (omega (arith, bytes_long bytes.words.now bytes.start bytes.len))) c.loop-at.invariant
