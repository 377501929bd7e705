use Rattle.type_rows.proofs.SameRows as same
use Rattle.type_rows.proofs.spelled.same_rows.Goals as goal

pub returns : goal.returns
returns c = record { fixed = same.record_same; parts = same.parts_move; list = same.list_same; set = same.set_same; map = same.map_same }
