-- The sets or maps of a type where they stand packed: what a place is to have to be looked at, and what it spells.
use Rattle.std.specs.Prelude.{ℕ, ◌*◌, ◌^◌, ◌<◌, ◌≤◌, List, length}
use Rattle.schema_model.specs.declared.reason.Reason.{Reason}
use Rattle.bucket_codec.specs.BucketPlace.{HoldsPointers, IsSpan, SpellsPairs, FailsBucketRow}
use Rattle.bucket_codec.specs.declared.bucket_rows.BucketRows.{BucketRows}

-- There are the widths and the words for the set or map at a place.
pub record HoldsBuckets (widths first second : List ℕ) (place : ℕ) : Type 0 where
  pub three : 3 ≤ length widths
  pub holds : HoldsPointers widths first place
  pub few : 64 * length second < 2 ^ 64

abbrev pub HoldsAt : BucketRows → ℕ → Type 0
HoldsAt rows place = HoldsBuckets rows.widths.now rows.first.now rows.second.now place

-- The pointers of a place bound a run of the buckets that there are.
abbrev pub IsSpanAt : BucketRows → ℕ → Type 0
IsSpanAt rows place = IsSpan rows.widths.now rows.total rows.first.now rows.second.now place

-- The place spells the set or map of these pairs.
abbrev pub SpellsAt : BucketRows → ℕ → List (ℕ × ℕ) → Type 0
SpellsAt rows place pairs = SpellsPairs rows.widths.now rows.total rows.first.now rows.second.now place pairs

-- The place spells none, for this reason.
abbrev pub FailsAt : BucketRows → ℕ → Reason → Type 0
FailsAt rows place reason = FailsBucketRow rows.widths.now rows.total rows.first.now rows.second.now place reason
