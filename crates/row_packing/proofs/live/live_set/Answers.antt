use Rattle.row_packing.proofs.LiveRows.{members_live}
use Rattle.row_packing.proofs.Suiting.{answer_same}
use Rattle.row_packing.proofs.live.live_set.Goals as goal

pub returns : goal.returns
returns g c =
    answer_same c.copy.result _ _ (members_live (g.R.Rows.table c.args.rows.now) c.args.type_index c.ordinals-set.result.now c.contains-rises.ensures.ordinals.rising c.ordinals-set.ensures) c.copy.ensures
