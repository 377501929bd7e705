use Rattle.std.proofs.Common.{arith}
use Rattle.hol_varint.proofs.JavaTexts.{text_more, text_refused}
use Rattle.hol_varint.proofs.java_utf.text.Goals as goal

pub returns-in_default : goal.returns-in_default
returns-in_default c = text_refused c.args.bytes.now c.loop-place.place c.loop-place.units.items c.loop-place.invariant (omega arith) c.in_default.ensures

pub loop-place-preserved : goal.loop-place-preserved
loop-place-preserved c =
    rw c.in_ok-push.ensures.items
    (text_more c.args.bytes.now c.loop-place.place c.loop-place.units.items c.loop-place.invariant (omega arith) c.in-Some.unit c.in-Some.count c.in-Some.ensures)
