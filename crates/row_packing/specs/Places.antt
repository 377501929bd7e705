-- The places of a type in a blob: which rows of a state stand at them.
use Rattle.std.specs.Prelude.{◌≡◌, ℕ, List, map, Option, Some, All}
use Rattle.std.specs.List.{range_with_len}
use Rattle.std.specs.List.Sorted.{IsStrictlyIncreasing}
use Rattle.row_model.specs.declared.row.Row.{Row}
use Rattle.row_model.specs.Table.{Table, IsLive, row_at}
use Rattle.type_rows.specs.Layout.{places_of}

-- Each place has the row under its ordinal, and none where no row is live there.
abbrev pub places_under : Table → ℕ → List ℕ → List (Option Row)
places_under table type_index ordinals = map (row_at table type_index) ordinals

-- The places of a snapshot: place k is that of ordinal k, up to the max ordinal.
abbrev pub snapshot_places : Table → ℕ → Option ℕ → List (Option Row)
snapshot_places table type_index max = places_under table type_index (range_with_len 0 (places_of max))

-- The states agree: an ordinal under which both have a row has the same row in both.
abbrev pub Agree : Table → Table → ℕ → Type 0
Agree old new type_index = (ordinal : ℕ) (a b : Row) → row_at old type_index ordinal ≡ Some a → row_at new type_index ordinal ≡ Some b → a ≡ b

-- Ordinals that a delta may add: they rise, and each is live.
pub record AreAdded (table : Table) (type_index : ℕ) (ordinals : List ℕ) : Type 0 where
  pub rising : IsStrictlyIncreasing ordinals
  pub live : All (IsLive table type_index) ordinals
