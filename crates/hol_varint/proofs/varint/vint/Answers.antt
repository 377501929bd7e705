use Rattle.std.proofs.Common.{arith}
use Rattle.hol_varint.proofs.Varints.{stands_over}
use Rattle.hol_varint.proofs.varint.vint.Goals as goal

pub returns-then-number-ge-VINT_LIMIT : goal.returns-then-number-ge-VINT_LIMIT
returns-then-number-ge-VINT_LIMIT c = stands_over _ _ _ _ _ _ c.in_ok-number.ensures (omega arith)
