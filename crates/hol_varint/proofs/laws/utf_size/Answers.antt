use Rattle.hol_varint.proofs.JavaUnits.{java_size}
use Rattle.hol_varint.proofs.laws.utf_size.Goals as goal

pub returns : goal.returns
returns c = java_size
