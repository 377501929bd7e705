use Rattle.hol_varint.proofs.JavaTexts.{found, short, bad}
use Rattle.hol_varint.proofs.java_utf.get_utf.Goals as goal

pub returns-clause-found : goal.returns-clause-found
returns-clause-found c = found _ _ _ c.utf.ensures

pub returns-clause-short : goal.returns-clause-short
returns-clause-short c = short _ _ _ c.utf.ensures

pub returns-clause-bad : goal.returns-clause-bad
returns-clause-bad c = bad _ _ _ c.utf.ensures
