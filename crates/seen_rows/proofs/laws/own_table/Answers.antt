use Rattle.seen_rows.proofs.Views.{own_view}
use Rattle.seen_rows.proofs.laws.own_table.Goals as goal

pub returns : goal.returns
returns c = own_view
