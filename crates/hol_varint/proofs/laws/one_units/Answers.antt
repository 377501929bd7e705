use Rattle.hol_varint.specs.Varint.{varint_bytes}
use Rattle.hol_varint.proofs.Runs.{codes_once}
use Rattle.hol_varint.proofs.VarWriting.{varint_code}
use Rattle.hol_varint.proofs.laws.one_units.Goals as goal

pub returns : goal.returns
returns c = codes_once varint_bytes varint_code
