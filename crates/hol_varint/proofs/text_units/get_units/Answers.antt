use Rattle.hol_varint.proofs.StringUnits.{found_units}
use Rattle.hol_varint.proofs.text_units.get_units.Goals as goal

pub returns-clause-found : goal.returns-clause-found
returns-clause-found c = found_units c.args.bytes.now _ c.all_units.ensures
