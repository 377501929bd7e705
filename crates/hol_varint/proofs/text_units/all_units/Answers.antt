use Rattle.std.proofs.Common.{arith}
use Rattle.hol_varint.specs.Varint.{varint_bytes}
use Rattle.hol_varint.proofs.Runs.{read_more, read_refused}
use Rattle.hol_varint.proofs.VarWriting.{varint_code, stands_begins}
use Rattle.hol_varint.proofs.text_units.all_units.Goals as goal

pub returns-in_default : goal.returns-in_default
returns-in_default c = read_refused varint_bytes c.args.bytes.now c.loop-place.place c.loop-place.units.items c.loop-place.invariant (omega arith) c.in_default.ensures

pub loop-place-preserved : goal.loop-place-preserved
loop-place-preserved c =
    let stands = c.in-Some.ensures in
    rw c.in_ok-push.ensures.items
    (read_more varint_bytes varint_code c.args.bytes.now c.loop-place.place c.loop-place.units.items c.in-Some.unit c.in-Some.next c.loop-place.invariant (omega arith) stands.within stands.below
    (stands_begins 65536 c.args.bytes.now c.loop-place.place c.in-Some.unit c.in-Some.next stands))
