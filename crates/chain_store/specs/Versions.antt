-- The versions that the names of blobs name.
use Rattle.std.specs.Prelude.{ℕ, List, map, fold, max}
use Rattle.hol_io.specs.declared.name.BlobName.{BlobName}
use Rattle.hol_io.specs.declared.name.BlobName.TheVariants.{Snapshot, Delta, Reverse, Announced}
use Rattle.hol_io.specs.Store.{Store, names}

-- The greatest version of a name: that of a snapshot, and the later one of a delta or a reverse delta; 0 where it names none.
abbrev pub newest : BlobName → ℕ
newest (Snapshot version) = version
newest (Delta from to) = max from to
newest (Reverse from to) = max from to
newest Announced = 0

-- The greatest version in some names, 0 for none.
abbrev pub greatest_version : List BlobName → ℕ
greatest_version listed = fold max 0 (map newest listed)

-- The greatest version in the names of a store's blobs, 0 for none.
abbrev pub last_version : Store → ℕ
last_version store = greatest_version (names store)
