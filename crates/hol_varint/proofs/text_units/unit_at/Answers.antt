use Rattle.std.proofs.Common.{◌+◌, length, arith}
use Rattle.hol_varint.proofs.StringUnits.{unit_over}
use Rattle.hol_varint.specs.Varint.{varint_bytes}
use Rattle.hol_varint.proofs.VarWriting.{begins_stands}
use Rattle.hol_varint.proofs.text_units.unit_at.Goals as goal

pub returns-then-number-ge-UNIT_LIMIT : goal.returns-then-number-ge-UNIT_LIMIT
returns-then-number-ge-UNIT_LIMIT c = unit_over c.args.bytes.now c.args.place c.in-Ok.number c.in-Ok.next (omega arith) c.in-Ok.ensures.tells (omega arith)

pub returns-in-Err : goal.returns-in-Err
returns-in-Err c = λ unit behind small begins.
    (let place = c.args.place in
    let found = (c.in-Err.ensures.found unit (place + length (varint_bytes unit))).1 (begins_stands 4294967296 c.args.bytes.now place unit behind (omega arith) begins (omega arith)) in
    absurd (cc found))
