use Rattle.hol_varint.proofs.JavaTexts.{utf_stands_begins, utf_stands_between}
use Rattle.hol_varint.proofs.laws.standing_utf.Goals as goal

pub returns-clause-begins : goal.returns-clause-begins
returns-clause-begins c = utf_stands_begins

pub returns-clause-stands : goal.returns-clause-stands
returns-clause-stands c = utf_stands_between
