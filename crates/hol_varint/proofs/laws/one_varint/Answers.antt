use Rattle.hol_varint.proofs.Varints.{varint_once}
use Rattle.hol_varint.proofs.VarWriting.{varint_is, varint_only}
use Rattle.hol_varint.proofs.laws.one_varint.Goals as goal

pub returns-clause-spelled : goal.returns-clause-spelled
returns-clause-spelled c = varint_is

pub returns-clause-only : goal.returns-clause-only
returns-clause-only c = varint_only

pub returns-clause-apart : goal.returns-clause-apart
returns-clause-apart c = varint_once
