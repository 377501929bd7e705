-- What a cycle puts into the store when it publishes: the blobs that lead to the new state and back, its snapshot where it is asked for, and then its
-- version as the announced one.
use Rattle.std.specs.Prelude.{Bool, true, false, ◌≡◌, ◌≢◌, ◌≤◌, ◌⊎◌, ◌^◌, ℕ, ℤ, List, [], ◌∷◌, ◌++◌, length}
use Rattle.std.specs.Fmt.{decimal}
use Rattle.std.specs.FinMap.{insert}
use Rattle.hol_io.specs.declared.name.BlobName.{BlobName}
use Rattle.hol_io.specs.declared.name.BlobName.TheVariants.{Snapshot, Delta, Reverse, Announced}
use Rattle.hol_io.specs.Store.{Store}
use Rattle.row_model.specs.Table.{Table}
use Rattle.blob_writing.specs.Snapshot.{IsWrittenSnapshot}
use Rattle.blob_writing.specs.Changes.{IsDeltaBetween}
use Rattle.state_blobs.specs.Published.{Published}

-- a name and what it is to hold
abbrev pub Put : Type 0
Put = BlobName × List ℕ

-- The blobs of a first state: its snapshot.
abbrev pub AreFirst : Published → Table → ℕ → ℤ → List Put → Type 0
AreFirst last rows version tag blobs =
    (snapshot : List ℕ) × IsWrittenSnapshot last.model last.rows rows last.tag tag snapshot × (blobs ≡ (Snapshot version, snapshot) ∷ [])

-- The snapshot of a later state, where it is asked for, and else nothing.
abbrev pub AreWhole : Bool → Published → Table → ℕ → ℤ → List Put → Type 0
AreWhole true last rows version tag whole = AreFirst last rows version tag whole
AreWhole false last rows version tag whole = whole ≡ []

-- The blobs of a later state: the delta from the last state to it, the delta back, and its snapshot where it is asked for.
abbrev pub AreLater : Published → Table → ℕ → ℤ → Bool → List Put → Type 0
AreLater last rows version tag with_snapshot blobs =
    (delta reverse : List ℕ) × (whole : List Put) × IsDeltaBetween last.model last.rows rows last.tag tag delta
    × IsDeltaBetween last.model rows last.rows tag last.tag reverse × AreWhole with_snapshot last rows version tag whole
    × (blobs ≡ (Delta last.version version, delta) ∷ (Reverse version last.version, reverse) ∷ whole)

-- The blobs that are put for a state of these rows, version and tag that follows the last one. A first state has its snapshot in any case.
abbrev pub AreBlobs : Published → Table → ℕ → ℤ → Bool → List Put → Type 0
AreBlobs last rows version tag with_snapshot blobs =
    ((last.version ≡ 0) × AreFirst last rows version tag blobs) ⊎ ((last.version ≢ 0) × AreLater last rows version tag with_snapshot blobs)

-- All that is put: the blobs, and behind them the version that is announced.
abbrev pub puts_of : List Put → ℕ → List Put
puts_of blobs version = blobs ++ (Announced, decimal version) ∷ []

-- The blob has 2^28 bytes at most.
abbrev pub IsShort : Put → Type 0
IsShort put = length put.1 ≤ 2 ^ 28

-- The store after some puts, one after another.
abbrev pub put_all : Store → List Put → Store
put_all store [] = store
put_all store (put ∷ puts) = put_all (insert store put.0 put.1) puts
