-- What `show` writes: a line for each row of the snapshot of a version, or the one line of a refusal.
use Rattle.std.specs.Prelude.{◌≡◌, ℕ, List, Bool, true, false, Option, Some}
use Rattle.hol_io.specs.declared.name.BlobName.{BlobName}
use Rattle.hol_io.specs.declared.name.BlobName.TheVariants.{Snapshot}
use Rattle.hol_io.specs.Store.{Store, told}
use Rattle.schema_model.specs.declared.schema.Schema.{Schema}
use Rattle.type_state.specs.State.{Half}
use Rattle.type_state.specs.Views.{table_of}
use Rattle.blob_frame.specs.declared.header.Header.{Header}
use Rattle.snapshot_blob.specs.Snapshot.{IsAccepted}
use Rattle.hol_answers.specs.declared.refusal.Refusal.{Refusal}
use Rattle.hollow_machine.specs.Blobs.{SnapshotRefusal}
use Rattle.hol_answers.specs.Refusal.{refusal_line}
use Rattle.hollow_top.specs.RowLines.{AreRowLines}

-- What a name holds is a snapshot within the limits, and the text has a line for each of its rows.
abbrev pub ShowsRows : Option (List ℕ) → List ℕ → Type 0
ShowsRows content text =
    (blob : List ℕ) × (head : Header) × (schemas : List Schema) × (halves : List Half)
    × (content ≡ Some blob) × IsAccepted blob head schemas halves × AreRowLines schemas (table_of halves) text

-- What `show` writes for what a name holds, and whether that is a refusal.
abbrev pub ShowsContent : BlobName → Option (List ℕ) → List ℕ → Bool → Type 0
ShowsContent name content text false = ShowsRows content text
ShowsContent name content text true = (refusal : Refusal) × SnapshotRefusal name content refusal × (text ≡ refusal_line refusal)

-- What `show` writes over a store for the snapshot of a version, and whether that is a refusal.
abbrev pub Shows : Store → ℕ → List ℕ → Bool → Type 0
Shows store version text refused = ShowsContent (Snapshot version) (told (Some store) (Snapshot version)) text refused
