use Rattle.std.proofs.Common.{subst, sym}
use Rattle.std.specs.List.{flat_map}
use Rattle.hol_paths.specs.Reached.{AreOnceOf, values_by}
use Rattle.hol_paths.proofs.Pieces.{none_once}
use Rattle.hol_paths.proofs.levels.values_of.Goals as goal

pub returns-in_default : goal.returns-in_default
returns-in_default g c =
    let table = g.R.Rows.table c.args.rows.now in
    subst (AreOnceOf (flat_map (values_by table c.args.type_index c.args.part) c.args.level.now)) (sym c.new.ensures) (none_once table c.args.type_index c.args.part c.args.level.now c.in_default.not-Field)
