use Rattle.std.proofs.Common.{◌+◌, length, slice_index_or, arith}
use Rattle.hol_varint.specs.Varint.{varint_bytes}
use Rattle.hol_varint.proofs.StringUnits.{unit_over}
use Rattle.hol_varint.proofs.VarWriting.{begins_stands}
use Rattle.object_codec.proofs.Texts.{one_byte}
use Rattle.object_codec.proofs.text.behind_unit.Goals as goal

pub returns-then-bytes-place-lt128 : goal.returns-then-bytes-place-lt128
returns-then-bytes-place-lt128 c =
    let bytes = c.args.bytes.now in
    (slice_index_or bytes c.args.place 0, one_byte bytes c.args.place c.requires c.if-bytes-place-lt128.true)

pub returns-in_default : goal.returns-in_default
returns-in_default c =
    unit_over c.args.bytes.now c.args.place c.in-Ok.number c.in-Ok.next (omega arith) c.in-Ok.ensures.tells c.if-number-lt-UNIT_LIMIT.false

pub returns-in_default-2 : goal.returns-in_default-2
returns-in_default-2 c = λ unit behind small begins.
    (let place = c.args.place in
    let found = (c.get_vint.ensures.found unit (place + length (varint_bytes unit))).1 (begins_stands 4294967296 c.args.bytes.now place unit behind (omega arith) begins (omega arith)) in
    absurd (cc found))
