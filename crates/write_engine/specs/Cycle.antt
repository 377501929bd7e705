-- How a cycle's records make the next state: each entrys rows are added children first, each under the ordinal that it gets.
use Rattle.std.specs.Prelude.{List, [], ◌∷◌, ℕ, ◌≡◌, ◌<◌, ◌^◌, nat_eq, ◌↔◌, Some, Contains, map as images, option_and_then, slice_set, replicate, length, slice_get}
use Rattle.std.specs.Option.{unwrap_or}
use Rattle.std.specs.FinMap.{insert, empty}
use Rattle.std.specs.Map.{lookup}
use Rattle.schema_model.specs.declared.schema.Field.{Field}
use Rattle.schema_model.specs.declared.schema.Schema.{Schema}
use Rattle.row_model.specs.declared.row.Value.{Value}
use Rattle.row_model.specs.declared.row.Row.{Row}
use Rattle.row_model.specs.Row.{IsValueInRange, Rises, stored_value}
use Rattle.row_model.specs.Table.{Table, RowMap}
use Rattle.row_model.specs.PlainTree.{PlainTree, PlainTrees, PlainPairs, leaf, object, list, set, map, no_trees, tree_then, no_pairs, pair_then}
use Rattle.ordinal_map.specs.Assign.{IsPut}
use Rattle.record_trees.specs.FitsTree.{FitsLeaf, IsLeafOr}
use Rattle.record_trees.specs.Types.{object_fields, list_element, set_element, map_types, referred, shape_at}

-- the rows of a type
abbrev pub rows_in : Table → ℕ → RowMap
rows_in table t = unwrap_or (slice_get table t) empty

-- the table with a row more
abbrev pub with_row : Table → ℕ → ℕ → Row → Table
with_row table t ordinal row = slice_set table t (insert (rows_in table t) ordinal row)

-- The row is put: it gets its ordinal, which is below 2^22, and stands there afterwards.
pub record PutsRow (previous : Table) (type_index : ℕ) (row : Row) (before : Table) (ordinal : ℕ) (after : Table) : Type 0 where
  pub put : IsPut (rows_in previous type_index) (rows_in before type_index) row ordinal
  pub low : ordinal < 2 ^ 22
  pub after_is : after ≡ with_row before type_index ordinal row

-- the ordinals of a set: each of the elements' once, rising
pub record IsSetOf (elements ordinals : List ℕ) : Type 0 where
  pub rising : Rises ordinals
  pub same : (ordinal : ℕ) → Contains ordinals ordinal ↔ Contains elements ordinal

-- the pairs of a map: each key once, rising, with the value beside it where it stands first
pub record IsMapOf (added pairs : List (ℕ × ℕ)) : Type 0 where
  pub rising : Rises (images (λ pair. pair.0) pairs)
  pub same : (key : ℕ) → lookup (nat_eq key) pairs ≡ lookup (nat_eq key) added

abbrev mutual
  -- Adding a tree to a type gives its row an ordinal, and changes the table of the rows so far.
  pub Adds : List Schema → Table → ℕ → PlainTree → Table → ℕ → Table → Type 0
  Adds schemas previous type_index (leaf value) before ordinal after = ⊥
  Adds schemas previous type_index (object trees) before ordinal after =
      (fields : List Field) × (values : List Value) × (middle : Table) × (option_and_then object_fields (shape_at schemas type_index) ≡ Some fields)
      × AddsFields schemas previous fields trees before values middle × PutsRow previous type_index (Row.Object values) middle ordinal after
  Adds schemas previous type_index (list trees) before ordinal after =
      (element : ℕ) × (ordinals : List ℕ) × (middle : Table) × (option_and_then (list_element schemas) (shape_at schemas type_index) ≡ Some element)
      × AddsAll schemas previous element trees before ordinals middle × PutsRow previous type_index (Row.List ordinals) middle ordinal after
  Adds schemas previous type_index (set trees) before ordinal after =
      (element : ℕ) × (ordinals : List ℕ) × (middle : Table) × (option_and_then (set_element schemas) (shape_at schemas type_index) ≡ Some element)
      × AddsAll schemas previous element trees before ordinals middle
      × ((members : List ℕ) × IsSetOf ordinals members × PutsRow previous type_index (Row.Set members) middle ordinal after)
  Adds schemas previous type_index (map pairs) before ordinal after =
      (types : ℕ × ℕ) × (added : List (ℕ × ℕ)) × (middle : Table) × (option_and_then (map_types schemas) (shape_at schemas type_index) ≡ Some types)
      × AddsPairs schemas previous types pairs before added middle
      × ((members : List (ℕ × ℕ)) × IsMapOf added members × PutsRow previous type_index (Row.Map members) middle ordinal after)

  -- The fields in schema order: a value as a blob holds it, or the ordinal of what a REFERENCE refers to.
  pub AddsFields : List Schema → Table → List Field → PlainTrees → Table → List Value → Table → Type 0
  AddsFields schemas previous fields no_trees before values after = (fields ≡ []) × (values ≡ []) × (after ≡ before)
  AddsFields schemas previous fields (tree_then tree trees) before values after =
      (field : Field) × (others : List Field) × (value : Value) × (rest : List Value) × (middle : Table) × (fields ≡ field ∷ others) × (values ≡ value ∷ rest)
      × IsLeafOr tree (λ found. FitsLeaf field.kind found × IsValueInRange found × (value ≡ stored_value found) × (middle ≡ before))
      ((type_index : ℕ) × (ordinal : ℕ) × (referred schemas field.kind ≡ Some type_index) × Adds schemas previous type_index tree before ordinal middle × (value ≡ Value.Ref ordinal))
      × AddsFields schemas previous others trees middle rest after

  -- The elements in their order.
  pub AddsAll : List Schema → Table → ℕ → PlainTrees → Table → List ℕ → Table → Type 0
  AddsAll schemas previous type_index no_trees before ordinals after = (ordinals ≡ []) × (after ≡ before)
  AddsAll schemas previous type_index (tree_then tree trees) before ordinals after =
      (ordinal : ℕ) × (rest : List ℕ) × (middle : Table) × (ordinals ≡ ordinal ∷ rest) × Adds schemas previous type_index tree before ordinal middle
      × AddsAll schemas previous type_index trees middle rest after

  -- The pairs in their order, each key before its value.
  pub AddsPairs : List Schema → Table → ℕ × ℕ → PlainPairs → Table → List (ℕ × ℕ) → Table → Type 0
  AddsPairs schemas previous types no_pairs before added after = (added ≡ []) × (after ≡ before)
  AddsPairs schemas previous types (pair_then key value pairs) before added after =
      (key_ordinal : ℕ) × (value_ordinal : ℕ) × (rest : List (ℕ × ℕ)) × (keyed : Table) × (middle : Table)
      × (added ≡ (key_ordinal, value_ordinal) ∷ rest) × Adds schemas previous types.0 key before key_ordinal keyed
      × Adds schemas previous types.1 value keyed value_ordinal middle × AddsPairs schemas previous types pairs middle rest after

-- The records, each with its type, are added one after another.
abbrev pub AddsRecords : List Schema → Table → List (ℕ × PlainTree) → Table → Table → Type 0
AddsRecords schemas previous [] before after = after ≡ before
AddsRecords schemas previous (entry ∷ records) before after =
    (ordinal : ℕ) × (middle : Table) × Adds schemas previous entry.0 entry.1 before ordinal middle × AddsRecords schemas previous records middle after

-- no rows, for so many types
abbrev pub no_rows : ℕ → Table
no_rows count = replicate count empty

-- The next state: the records are added to no rows, by model order of their types and then in their order.
abbrev pub Next : List Schema → Table → List (ℕ × PlainTree) → Table → Type 0
Next schemas previous records next = AddsRecords schemas previous records (no_rows (length schemas)) next
