-- Runs of buckets: what each answer tells of the reader of a run's pairs.
use Rattle.std.specs.Prelude.{◌≡◌, ℕ, List, length, All, Result, Ok, Err}
use Rattle.schema_model.specs.declared.reason.Reason.{Reason}
use Rattle.row_model.specs.declared.packed.PlaceFault.{PlaceFault}
use Rattle.bucket_codec.specs.Run.{Bucket, taken_of, IsPairInRange, SpellsRun}

-- An element, key or value of a taken bucket is no ordinal.
abbrev pub HasBadValue : List Bucket → Type 0
HasBadValue run = All IsPairInRange (taken_of run) → ⊥

-- The pairs of the set or map that the run spells, of which there are to be so many.
abbrev pub TellsPairs : List Bucket → ℕ → Result (List (ℕ × ℕ)) PlaceFault → Type 0
TellsPairs run count (Ok pairs) = SpellsRun run pairs × (count ≡ length pairs)
TellsPairs run count (Err (PlaceFault.Bad Reason.BadValue)) = HasBadValue run
TellsPairs run count (Err (PlaceFault.Bad Reason.BadBuckets)) = All IsPairInRange (taken_of run) × ((pairs : List (ℕ × ℕ)) → SpellsRun run pairs → count ≡ length pairs → ⊥)
TellsPairs run count (Err (PlaceFault.Bad _)) = ⊥
TellsPairs run count (Err PlaceFault.Memory) = Unit {0}
