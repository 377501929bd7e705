use Rattle.type_rows.proofs.LiveRows as rows
use Rattle.type_rows.proofs.spelled.live_rows.Goals as goal

pub returns : goal.returns
returns c = record { keys = rows.keys_in; live = rows.live_found; none = rows.none_found }
