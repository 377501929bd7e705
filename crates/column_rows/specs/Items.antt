-- The lists, sets and maps of a type, where they stand packed.
use Rattle.std.specs.Prelude.{◌≡◌, ℕ, List, Some}
use Rattle.row_model.specs.declared.row.Row.{Row}
use Rattle.row_model.specs.Table.{Table, row_at}
use Rattle.list_codec.specs.ListPlace.{HoldsListPlace, SpellsList}
use Rattle.bucket_codec.specs.Run.{keys_of}
use Rattle.bucket_codec.specs.BucketPlace.{SpellsPairs}
use Rattle.bucket_codec.specs.BucketRows.{HoldsBuckets}
use Rattle.column_rows.specs.declared.items.PackedItems.{PackedItems}

-- There are the widths and the words for the list at a place.
abbrev pub HoldsListAt : PackedItems → ℕ → Type 0
HoldsListAt items place = HoldsListPlace items.widths.now items.first.now place

-- The same for the set or map at a place.
abbrev pub HoldsRunAt : PackedItems → ℕ → Type 0
HoldsRunAt items place = HoldsBuckets items.widths.now items.first.now items.second.now place

-- The list at a place is this one.
abbrev pub SpellsListAt : PackedItems → ℕ → List ℕ → Type 0
SpellsListAt items place ordinals = SpellsList items.widths.now items.total items.first.now items.second.now place ordinals

-- The set or map at a place is that of these pairs.
abbrev pub SpellsPairsAt : PackedItems → ℕ → List (ℕ × ℕ) → Type 0
SpellsPairsAt items place pairs = SpellsPairs items.widths.now items.total items.first.now items.second.now place pairs

-- The row is the set or map of these pairs: an element of a set is a key.
abbrev pub IsOfPairs : Row → List (ℕ × ℕ) → Type 0
IsOfPairs (Row.Set ordinals) pairs = ordinals ≡ keys_of pairs
IsOfPairs (Row.Map entries) pairs = entries ≡ pairs
IsOfPairs _ pairs = ⊥

-- The row stands at a place as a list.
abbrev pub IsListThere : PackedItems → ℕ → Row → Type 0
IsListThere items place row = (ordinals : List ℕ) × (row ≡ Row.List ordinals) × HoldsListAt items place × SpellsListAt items place ordinals

-- The row stands at a place as a set or map.
abbrev pub IsRunThere : PackedItems → ℕ → Row → Type 0
IsRunThere items place row = (pairs : List (ℕ × ℕ)) × IsOfPairs row pairs × HoldsRunAt items place × SpellsPairsAt items place pairs

-- The items are those of the lists of a type: each row is a list that stands under its ordinal.
abbrev pub AreListsOf : Table → ℕ → PackedItems → Type 0
AreListsOf table type_index items = (ordinal : ℕ) (row : Row) → row_at table type_index ordinal ≡ Some row → IsListThere items ordinal row

-- The items are those of the sets or maps of a type: each row is one that stands under its ordinal.
abbrev pub AreRunsOf : Table → ℕ → PackedItems → Type 0
AreRunsOf table type_index items = (ordinal : ℕ) (row : Row) → row_at table type_index ordinal ≡ Some row → IsRunThere items ordinal row
