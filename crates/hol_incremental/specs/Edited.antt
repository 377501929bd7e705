-- The edited list of a state: its roots without those whose primary key is removed or put, and the records that are put; and the state that it makes next.
use Rattle.std.specs.Prelude.{List, ℕ, ◌≡◌, ◌⊎◌, ◌++◌, Contains, Some, filter, flat_map, length, map, nat_eq, slice_get}
use Rattle.std.specs.List.{range_with_len}
use Rattle.schema_model.specs.declared.schema.Schema.{Schema}
use Rattle.row_model.specs.declared.row.Value.{Value}
use Rattle.row_model.specs.PlainTree.{PlainTree}
use Rattle.row_model.specs.Row.{Rises}
use Rattle.row_model.specs.Table.{Table}
use Rattle.row_model.specs.Unfold.{unfold_row}
use Rattle.write_engine.specs.Cycle.{Next}
use Rattle.hol_incremental.specs.Roots.{IsRoot, IsRowKey, IsTreeKey}

-- records, each with its type
abbrev pub Records : Type 0
Records = List (ℕ × PlainTree)

-- primary keys, each with its type
abbrev pub Keys : Type 0
Keys = List (ℕ × List Value)

-- the records of a type, in their order
abbrev pub of_type : {A : Type 0} → ℕ → List (ℕ × A) → List (ℕ × A)
of_type t entries = filter (λ entry. nat_eq entry.0 t) entries

-- those of the first so many types, types in model order
abbrev pub of_first : {A : Type 0} → ℕ → List (ℕ × A) → List (ℕ × A)
of_first count entries = flat_map (λ t. of_type t entries) (range_with_len 0 count)

-- the key is a removed one, or that of a record that is put
abbrev pub IsGivenKey : List Schema → Records → Keys → ℕ → List Value → Type 0
IsGivenKey schemas puts removes t key = Contains removes (t, key) ⊎ ((tree : PlainTree) × Contains puts (t, tree) × IsTreeKey schemas t tree key)

-- The row is a root of the state, and stays in the list: it has no primary key that is removed or put.
pub record StaysRoot (schemas : List Schema) (previous : Table) (puts : Records) (removes : Keys) (type_index ordinal : ℕ) : Type 0 where
  pub root : IsRoot schemas previous type_index ordinal
  pub other : (key : List Value) → IsRowKey schemas previous type_index ordinal key → ¬ IsGivenKey schemas puts removes type_index key

-- the records of the rows of a type under some ordinals
abbrev pub records_of : List Schema → Table → ℕ → List ℕ → Records
records_of schemas table t ordinals = map (λ ordinal. (t, unfold_row schemas table t ordinal)) ordinals

-- A type's part of the edited list: the records of its roots that stay, by rising ordinal, and then those that are put, in their order.
pub record IsEditedType (schemas : List Schema) (previous : Table) (puts : Records) (removes : Keys) (type_index : ℕ) (part : Records) : Type 0 where
  pub roots : List ℕ
  pub rising : Rises roots
  pub are : (ordinal : ℕ) → (Contains roots ordinal → StaysRoot schemas previous puts removes type_index ordinal) × (StaysRoot schemas previous puts removes type_index ordinal → Contains roots ordinal)
  pub records_are : part ≡ records_of schemas previous type_index roots ++ of_type type_index puts

-- The edited list: the parts of the types in model order.
pub record IsEdited (schemas : List Schema) (previous : Table) (puts : Records) (removes : Keys) (records : Records) : Type 0 where
  pub parts : List Records
  pub many : length parts ≡ length schemas
  pub each : (type_index : ℕ) (part : Records) → slice_get parts type_index ≡ Some part → IsEditedType schemas previous puts removes type_index part
  pub records_are : records ≡ flat_map (λ part. part) parts

-- The table is the state that the edited list makes next.
abbrev pub IsNextEdited : List Schema → Table → Records → Keys → Table → Type 0
IsNextEdited schemas previous puts removes next = (records : Records) × IsEdited schemas previous puts removes records × Next schemas previous records next
