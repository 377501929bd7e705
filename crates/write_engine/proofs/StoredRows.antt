-- A blob can hold the rows of a producer: a value that it cannot hold was taken as null.
use Rattle.std.proofs.Common.{◌≡◌, ℕ, ℤ, zero, suc, List, [], ◌∷◌, Bool, true, false, if◌then◌else◌, length, Some, inl, inr, refl, sym, ap, subst, ◌∙◌, map as images}
use Rattle.std.specs.Prelude.{drop, get_or, slice_set}
use Rattle.std.specs.Str.{bytes_eq}
use Rattle.std.specs.FinMap.{get, insert, get-empty}
use Rattle.std.specs.Ordering.{nat_cmp}
use Rattle.std.proofs.lemmas.Bool.{cases_eq}
use Rattle.row_model.specs.declared.row.Row.{Row}
use Rattle.row_model.specs.declared.row.Value.{Value}
use Rattle.schema_model.specs.declared.schema.Field.{Field}
use Rattle.schema_model.specs.declared.schema.Schema.{Schema}
use Rattle.schema_model.specs.declared.schema.Shape.{Shape}
use Rattle.schema_model.specs.Parts.{shape_fields}
use Rattle.row_model.specs.PlainTree.{PlainTree, PlainTrees, PlainPairs, leaf, object, list, set, map, no_trees, tree_then, no_pairs, pair_then}
use Rattle.row_model.specs.Row.{stored_value, is_least}
use Rattle.row_model.specs.Table.{Table, RowMap, row_at}
use Rattle.row_model.specs.View.{seen_row, seen_values, value_named}
use Rattle.ordinal_map.proofs.SetRows.{get_inserted, get_beside}
use Rattle.row_model.proofs.RowsFrom.{get_in}
use Rattle.row_packing.specs.Written.{IsStored}
use Rattle.write_engine.specs.Cycle.{Adds, AddsFields, AddsAll, AddsPairs, AddsRecords, Next, PutsRow, no_rows, rows_in}
use Rattle.write_engine.specs.StoredRows.{AreStored}
use Rattle.write_engine.proofs.NextStates.{leaf_or}

-- ---- values

int_twice : (b : Bool) (n : ℤ) → is_least 32 n ≡ b → stored_value (if b then Value.Null else Value.Int n) ≡ (if b then Value.Null else Value.Int n)
int_twice true n is = refl
int_twice false n is = ap (λ c. (if c then Value.Null else Value.Int n)) is

long_twice : (b : Bool) (n : ℤ) → is_least 64 n ≡ b → stored_value (if b then Value.Null else Value.Long n) ≡ (if b then Value.Null else Value.Long n)
long_twice true n is = refl
long_twice false n is = ap (λ c. (if c then Value.Null else Value.Long n)) is

stored_twice : (value : Value) → stored_value (stored_value value) ≡ stored_value value
stored_twice (Value.Int n) = int_twice (is_least 32 n) n refl
stored_twice (Value.Long n) = long_twice (is_least 64 n) n refl
stored_twice Value.Null = refl
stored_twice (Value.Bool flag) = refl
stored_twice (Value.Text units) = refl
stored_twice (Value.Bytes bytes) = refl
stored_twice (Value.Ref ordinal) = refl

-- ---- a row is put

set_stored : (table : Table) (t : ℕ) (rows : RowMap) → AreStored table → ((ordinal : ℕ) (row : Row) → get rows ordinal ≡ Some row → IsStored row) → AreStored (slice_set table t rows)
set_stored [] t rows each there u o row is = each u o row is
set_stored (r ∷ table) zero rows each there zero o row is = there o row is
set_stored (r ∷ table) zero rows each there (suc u) o row is = each (suc u) o row is
set_stored (r ∷ table) (suc t) rows each there zero o row is = each 0 o row is
set_stored (r ∷ table) (suc t) rows each there (suc u) o row is = set_stored table t rows (λ w. each (suc w)) there u o row is

pub put_stored : (previous before after : Table) (t ordinal : ℕ) (row : Row) → PutsRow previous t row before ordinal after → IsStored row → AreStored before → AreStored after
put_stored previous before after t ordinal row puts stored each =
    subst AreStored (sym puts.after_is) (set_stored before t (insert (rows_in before t) ordinal row) each found)
  where
    found : (o : ℕ) (r : Row) → get (insert (rows_in before t) ordinal row) o ≡ Some r → IsStored r
    found o r is =
        elim (cases_eq o ordinal) [
          | inl same ↦
              (let here : Some row ≡ Some r = sym (get_inserted (rows_in before t) ordinal row) ∙ ap (get (insert (rows_in before t) ordinal row)) (sym same) ∙ is in
              let one : row ≡ r = cc in
              subst IsStored one stored)
          | inr apart ↦ each t o r (sym (get_in before t o) ∙ sym (get_beside (rows_in before t) ordinal o row apart) ∙ is)
        ]

-- ---- trees, children first

module _ (schemas : List Schema) (previous : Table) where
  mutual
    pub adds_stored : (tree : PlainTree) (t : ℕ) (before after : Table) (ordinal : ℕ) → Adds schemas previous t tree before ordinal after → AreStored before → AreStored after
    adds_stored (leaf value) t before after ordinal adds each = absurd adds
    adds_stored (object trees) t before after ordinal adds each =
        let made = fields_stored trees adds.0 before adds.2 adds.1 adds.4 each in
        put_stored previous adds.2 after t ordinal (Row.Object adds.1) adds.5 (ap (λ (values : List Value). Row.Object values) made.0) made.1
    adds_stored (list trees) t before after ordinal adds each =
        put_stored previous adds.2 after t ordinal (Row.List adds.1) adds.5 refl (all_stored trees adds.0 before adds.2 adds.1 adds.4 each)
    adds_stored (set trees) t before after ordinal adds each =
        put_stored previous adds.2 after t ordinal (Row.Set adds.5.0) adds.5.2 refl (all_stored trees adds.0 before adds.2 adds.1 adds.4 each)
    adds_stored (map pairs) t before after ordinal adds each =
        put_stored previous adds.2 after t ordinal (Row.Map adds.5.0) adds.5.2 refl (pairs_stored pairs adds.0 before adds.2 adds.1 adds.4 each)

    fields_stored : (trees : PlainTrees) (fields : List Field) (before after : Table) (values : List Value) → AddsFields schemas previous fields trees before values after → AreStored before
        → (images stored_value values ≡ values) × AreStored after
    fields_stored no_trees fields before after values adds each =
        (subst (λ (vs : List Value). images stored_value vs ≡ vs) (sym adds.1) refl, subst AreStored (sym adds.2) each)
    fields_stored (tree_then tree trees) fields before after values adds each =
        let one : (stored_value adds.2 ≡ adds.2) × AreStored adds.4 =
        leaf_or tree _ _ ((stored_value adds.2 ≡ adds.2) × AreStored adds.4)
        (λ found is. (subst (λ (v : Value). stored_value v ≡ v) (sym is.2) (stored_twice found), subst AreStored (sym is.3) each))
        (λ row. (subst (λ (v : Value). stored_value v ≡ v) (sym row.4) refl, adds_stored tree row.0 before adds.4 row.1 row.3 each)) adds.7 in
        let rest = fields_stored trees adds.1 adds.4 after adds.3 adds.8 one.1 in (
          subst (λ (vs : List Value). images stored_value vs ≡ vs) (sym adds.6) (λ i. one.0 i ∷ rest.0 i),
          rest.1,
        )

    all_stored : (trees : PlainTrees) (t : ℕ) (before after : Table) (ordinals : List ℕ) → AddsAll schemas previous t trees before ordinals after → AreStored before → AreStored after
    all_stored no_trees t before after ordinals adds each = subst AreStored (sym adds.1) each
    all_stored (tree_then tree trees) t before after ordinals adds each = all_stored trees t adds.2 after adds.1 adds.5 (adds_stored tree t before adds.2 adds.0 adds.4 each)

    pairs_stored : (pairs : PlainPairs) (types : ℕ × ℕ) (before after : Table) (added : List (ℕ × ℕ)) → AddsPairs schemas previous types pairs before added after → AreStored before → AreStored after
    pairs_stored no_pairs types before after added adds each = subst AreStored (sym adds.1) each
    pairs_stored (pair_then key value pairs) types before after added adds each =
        pairs_stored pairs types adds.4 after adds.2 adds.8 (adds_stored value types.1 adds.3 adds.4 adds.1 adds.7 (adds_stored key types.0 before adds.3 adds.0 adds.6 each))

  records_stored : (records : List (ℕ × PlainTree)) (before after : Table) → AddsRecords schemas previous records before after → AreStored before → AreStored after
  records_stored [] before after adds each = subst AreStored (sym adds) each
  records_stored (entry ∷ records) before after adds each = records_stored records adds.1 after adds.3 (adds_stored entry.1 entry.0 before adds.1 adds.0 adds.2 each)

pub none_stored : (count : ℕ) → AreStored (no_rows count)
none_stored zero t o row is = absurd cc
none_stored (suc count) zero o row is = let none = sym (get-empty nat_cmp o) ∙ is in absurd cc
none_stored (suc count) (suc t) o row is = none_stored count t o row is

pub next_stored : (schemas : List Schema) (previous next : Table) (records : List (ℕ × PlainTree)) → Next schemas previous records next → AreStored next
next_stored schemas previous next records made = records_stored schemas previous records (no_rows (length schemas)) next made (none_stored (length schemas))

-- ---- a row that is seen through another model

value_stored : (fields : List Field) (values : List Value) (name : List ℕ) → images stored_value values ≡ values → stored_value (value_named fields values name) ≡ value_named fields values name
unfolding value_named
value_stored [] values name stored = refl
value_stored (field ∷ fields) [] name stored = refl
value_stored (field ∷ fields) (value ∷ values) name stored =
    elim (bytes_eq field.name name) as (λ b. stored_value (if b then value else value_named fields values name) ≡ (if b then value else value_named fields values name)) [
      | true ↦ ap (λ (vs : List Value). get_or vs 0 value) stored
      | false ↦ value_stored fields values name (ap (λ (vs : List Value). drop 1 vs) stored)
    ]

values_seen : (own mine : List Field) (values : List Value) → images stored_value values ≡ values → images stored_value (seen_values own mine values) ≡ seen_values own mine values
values_seen own [] values stored = refl
values_seen own (field ∷ mine) values stored = λ i. value_stored own values field.name stored i ∷ values_seen own mine values stored i

abbrev values_of : Row → List Value
values_of (Row.Object values) = values
values_of _ = []

pub seen_stored : (own mine : Shape) (row : Row) → IsStored row → IsStored (seen_row own mine row)
seen_stored own mine (Row.Object values) stored = ap (λ (vs : List Value). Row.Object vs) (values_seen (shape_fields own) (shape_fields mine) values (ap values_of stored))
seen_stored own mine (Row.List ordinals) stored = refl
seen_stored own mine (Row.Set ordinals) stored = refl
seen_stored own mine (Row.Map pairs) stored = refl
