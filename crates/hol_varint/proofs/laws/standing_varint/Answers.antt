use Rattle.hol_varint.proofs.VarWriting.{stands_begins, stands_between}
use Rattle.hol_varint.proofs.laws.standing_varint.Goals as goal

pub returns-clause-begins : goal.returns-clause-begins
returns-clause-begins c = stands_begins

pub returns-clause-stands : goal.returns-clause-stands
returns-clause-stands c = stands_between
