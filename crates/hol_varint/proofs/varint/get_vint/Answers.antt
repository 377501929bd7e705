use Rattle.hol_varint.proofs.Varints.{found, short, null, long}
use Rattle.hol_varint.proofs.varint.get_vint.Goals as goal

pub returns-clause-found : goal.returns-clause-found
returns-clause-found c = found _ _ _ _ c.vint.ensures

pub returns-clause-short : goal.returns-clause-short
returns-clause-short c = short _ _ _ _ c.vint.ensures

pub returns-clause-null : goal.returns-clause-null
returns-clause-null c = null _ _ _ _ c.vint.ensures

pub returns-clause-long : goal.returns-clause-long
returns-clause-long c = long _ _ _ _ c.vint.ensures
