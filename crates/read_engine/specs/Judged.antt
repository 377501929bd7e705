-- What is tried of the blob of a load or a step, one thing after another, so that its fault is that of the first which fails.
use Rattle.std.specs.Prelude.{◌≡◌, ℕ, ℤ, List, Option, Some, None, length}
use Rattle.hol_io.specs.declared.name.BlobName.{BlobName}
use Rattle.row_model.specs.Table.{Table}
use Rattle.blob_frame.specs.declared.fault.BlobFault.{BlobFault}
use Rattle.blob_frame.specs.declared.fault.BlobFault.TheVariants as fault
use Rattle.blob_faults.specs.Judge.{Judge, ◌>>=◌, nothing}
use Rattle.snapshot_blob.specs.Judged.{snapshot_of}
use Rattle.delta_blob.specs.Judged.{delta_of}
use Rattle.state_moves.specs.Judged.{state_moved}
use Rattle.read_engine.specs.Position.{Position, rows_now}

-- A delta that moves the rows of a position: the tag that it leads to, and the rows.
unfoldable pub step_of : List ℕ → Position → Judge (ℤ × Table)
step_of blob from = do
  found ← delta_of blob from.tag from.schemas
  rows ← state_moved from.schemas found.1 (length blob) (rows_now from)
  nothing (found.0.destination, rows)

-- Why what a name holds is not loaded: there is no blob, or the first thing that fails of a snapshot.
abbrev pub RefusesLoad : BlobName → Option (List ℕ) → BlobFault → Type 0
RefusesLoad name None found = found ≡ fault.NoBlob name
RefusesLoad name (Some blob) found = (snapshot_of blob).Fails found

-- Why what a name holds does not move a consumer from a position: there is no blob, or the first thing that fails of a delta that moves it.
abbrev pub RefusesStep : BlobName → Option (List ℕ) → Position → BlobFault → Type 0
RefusesStep name None from found = found ≡ fault.NoBlob name
RefusesStep name (Some blob) from found = (step_of blob from).Fails found
