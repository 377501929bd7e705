use Rattle.std.proofs.Common.{arith}
use Rattle.std.proofs.lemmas.Grind.{common_steps}
use Rattle.hol_varint.proofs.UnitCounts.{units_counted}
use Rattle.hol_varint.proofs.text_units.units_len.Goals as goal

pub returns : goal.returns
returns c = let counted = units_counted c.args.units.now in grind (arith, common_steps, counted)
