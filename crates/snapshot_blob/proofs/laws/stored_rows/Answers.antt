use Rattle.snapshot_blob.proofs.StoredRows.{stored_rows}
use Rattle.snapshot_blob.proofs.laws.stored_rows.Goals as goal

pub returns : goal.returns
returns c = stored_rows
