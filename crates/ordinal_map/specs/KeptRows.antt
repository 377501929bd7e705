-- The rows under their ordinals, the rows of the two states that sets of ordinals make of them, and the chains of the rows' hashes.
use Rattle.std.specs.Prelude.{List, [], ◌∷◌, ℕ, ◌≡◌, ◌+◌, ◌*◌, ◌<◌, ◌≤◌, ◌^◌, ◌↔◌, ◌⊎◌, Contains, Option, Some, None, IsSome, MatchOption, nat_eq, if◌then◌else◌, slice_get, option_and_then, option_map, length}
use Rattle.std.specs.FinMap.{from_entries}
use Rattle.row_model.specs.declared.row.Row.{Row}
use Rattle.row_model.specs.Table.{RowMap}
use Rattle.linked_slots.specs.Chained.{Chained, hash_of}
use Rattle.row_hash.specs.Hash.{row_hash}

-- the row under an ordinal, if there is one
abbrev pub row_under : List (Option Row) → ℕ → Option Row
row_under rows ordinal = option_and_then (λ row. row) (slice_get rows ordinal)

-- the row, if there is one, with its ordinal
abbrev pub with_entry : ℕ → Option Row → List (ℕ × Row) → List (ℕ × Row)
with_entry ordinal None entries = entries
with_entry ordinal (Some row) entries = (ordinal, row) ∷ entries

-- the rows under the ordinals of a set, each with its ordinal
abbrev pub entries_of : List (Option Row) → List ℕ → List (ℕ × Row)
entries_of rows [] = []
entries_of rows (ordinal ∷ set) = with_entry ordinal (row_under rows ordinal) (entries_of rows set)

-- the rows of the state that has these ordinals
unfoldable pub rows_of : List (Option Row) → List ℕ → RowMap
rows_of rows set = from_entries (entries_of rows set)

-- A search for a row answers the ordinal under which it stands, and nothing exactly where it stands under none.
abbrev pub Finds : List (Option Row) → Row → Option ℕ → Type 0
Finds rows row found = MatchOption found ((ordinal : ℕ) → ¬ (row_under rows ordinal ≡ Some row)) (λ ordinal. row_under rows ordinal ≡ Some row)

-- There are as many buckets as slots, or twice as many.
abbrev pub IsRoomy : Chained → Type 0
IsRoomy chains = (chains.slots ≤ length chains.chains) × (length chains.chains ≤ 2 * chains.slots + 1)

-- the rows' hashes are linked under the rows' ordinals
abbrev pub AreHashed : List (Option Row) → Chained → Type 0
AreHashed rows chains = (ordinal : ℕ) → hash_of chains ordinal ≡ option_map row_hash (row_under rows ordinal)

-- the same rows and hashes stand under each ordinal
pub record AreAlike (rows : List (Option Row)) (chains : Chained) (rows' : List (Option Row)) (chains' : Chained) : Type 0 where
  pub row : (ordinal : ℕ) → row_under rows' ordinal ≡ row_under rows ordinal
  pub hash : (ordinal : ℕ) → hash_of chains' ordinal ≡ hash_of chains ordinal

-- a row and its hash have come to stand under an ordinal, and those under all others stay
pub record IsPlaced (rows : List (Option Row)) (chains : Chained) (ordinal hash : ℕ) (row : Row) (rows' : List (Option Row)) (chains' : Chained) : Type 0 where
  pub rows_are : (other : ℕ) → row_under rows' other ≡ (if nat_eq other ordinal then Some row else row_under rows other)
  pub hashes_are : (other : ℕ) → hash_of chains' other ≡ (if nat_eq other ordinal then Some hash else hash_of chains other)

-- the rows and hashes under some ordinals have left, and those under all others stay
pub record AreFreed (leaves : ℕ → Type 0) (rows : List (Option Row)) (chains : Chained) (rows' : List (Option Row)) (chains' : Chained) : Type 0 where
  pub left : (ordinal : ℕ) → leaves ordinal → (row_under rows' ordinal ≡ None) × (hash_of chains' ordinal ≡ None)
  pub stayed : (ordinal : ℕ) → ¬ leaves ordinal → (row_under rows' ordinal ≡ row_under rows ordinal) × (hash_of chains' ordinal ≡ hash_of chains ordinal)

-- A row stands under each ordinal of the two states, and under no other one; no row stands twice; the rows' hashes are linked; and the ordinals below
-- one are taken.
pub record AreKept (rows : List (Option Row)) (chains : Chained) (previous current : List ℕ) (filled : ℕ) : Type 0 where
  pub few : length rows ≤ 2 ^ 22
  pub roomy : IsRoomy chains
  pub hashed : AreHashed rows chains
  pub once : (row : Row) (first second : ℕ) → row_under rows first ≡ Some row → row_under rows second ≡ Some row → first ≡ second
  pub live : (ordinal : ℕ) → IsSome (row_under rows ordinal) ↔ (Contains previous ordinal ⊎ Contains current ordinal)
  pub taken : (ordinal : ℕ) → ordinal < filled → IsSome (row_under rows ordinal)
