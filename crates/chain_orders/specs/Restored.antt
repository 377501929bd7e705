-- What the snapshot of a version tells, and what the restoring of a producer from it does.
use Rattle.std.specs.Prelude.{◌≡◌, ℕ, Option, Some, Result, Ok, Err}
use Rattle.hol_io.specs.declared.name.BlobName.TheVariants.{Snapshot}
use Rattle.hol_io.specs.Store.{Store, told}
use Rattle.snapshot_blob.specs.declared.body.Body.{Body}
use Rattle.snapshot_blob.specs.declared.loaded.Loaded.{Loaded}
use Rattle.write_engine.specs.Agreement.{HoldsOnce}
use Rattle.write_engine.specs.Production.{Production}
use Rattle.write_engine.specs.Restoring.{restored_of}
use Rattle.read_engine.specs.Position.{Position, rows_now}
use Rattle.read_engine.specs.Taking.{loaded_position}
use Rattle.hol_answers.specs.declared.refusal.Refusal.{Refusal}
use Rattle.hol_answers.specs.declared.refusal.Refusal.TheVariants.{DuplicateRow}
use Rattle.hol_answers.specs.declared.reply.Reply.{Reply}
use Rattle.hol_answers.specs.declared.reply.Reply.TheVariants.{Refused, Restore}
use Rattle.hollow_machine.specs.Blobs.{SnapshotRefusal}
use Rattle.hollow_machine.specs.RestoreOrder.{IsStored, NamesDuplicate}

-- the body of a snapshot that was read
abbrev pub body_of : Loaded → Body
body_of loaded = record { model = loaded.model; states = loaded.states }

-- where a consumer stands that loads it
abbrev pub position_of : Loaded → Position
position_of loaded = loaded_position loaded.header.destination (body_of loaded)

-- The snapshot that was read is that of the version in the store, or this is why there is none that can be loaded.
abbrev pub TellsStored : Store → ℕ → Result Loaded Refusal → Type 0
TellsStored store version (Ok loaded) = IsStored store version (position_of loaded)
TellsStored store version (Err refusal) = SnapshotRefusal (Snapshot version) (told (Some store) (Snapshot version)) refusal

-- What is answered of a position, and the producer behind it: the one that has its rows, in which none stands twice; or the one before, and the
-- first equal rows.
abbrev pub RestoresFrom : Position → ℕ → Option Production → Option Production → Reply → Type 0
RestoresFrom position version before now (Restore tag restored) =
    (restored ≡ version) × (tag ≡ position.tag) × HoldsOnce (rows_now position)
    × (now ≡ Some (restored_of position.schemas (rows_now position) position.tag version))
RestoresFrom position version before now (Refused (DuplicateRow rows)) = NamesDuplicate position rows × (now ≡ before)
RestoresFrom position version before now _ = ⊥
