use Rattle.std.proofs.Common.{arith}
use Rattle.hol_varint.specs.Varint.{varint_bytes}
use Rattle.hol_varint.proofs.Runs.{read_refused}
use Rattle.object_codec.proofs.Texts.{one_more}
use Rattle.object_codec.proofs.text.are_units.Goals as goal

pub returns-in_default : goal.returns-in_default
returns-in_default c = read_refused varint_bytes c.args.bytes.now c.loop-place.place c.loop-place.invariant.0 c.loop-place.invariant.1 (omega arith) c.in_default.ensures

pub loop-place-preserved : goal.loop-place-preserved
loop-place-preserved c = one_more c.args.bytes.now c.loop-place.place c.in-Some.next (omega arith) c.loop-place.invariant c.in-Some.ensures
