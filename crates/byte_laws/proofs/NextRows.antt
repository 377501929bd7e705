-- The rows that a cycle makes of trees whose BYTES are bytes.
use Rattle.std.proofs.Common.{◌≡◌, ◌∙◌, ℕ, ℤ, zero, suc, List, [], ◌∷◌, Bool, true, false, if◌then◌else◌, length, Some, inl, inr, sym, ap, subst}
use Rattle.std.specs.Prelude.{All, slice_set}
use Rattle.std.specs.FinMap.{get, get-empty, insert}
use Rattle.std.specs.Ordering.{nat_cmp}
use Rattle.std.proofs.lemmas.Bool.{cases_eq}
use Rattle.std.proofs.lemmas.List.Elements.{All-cons, All-head, All-nil, All-tail}
use Rattle.ordinal_map.proofs.SetRows.{get_beside, get_inserted}
use Rattle.schema_model.specs.declared.schema.Field.{Field}
use Rattle.schema_model.specs.declared.schema.Schema.{Schema}
use Rattle.row_model.specs.declared.row.Row.{Row}
use Rattle.row_model.specs.declared.row.Value.{Value}
use Rattle.row_model.specs.PlainTree.{PlainTree, PlainTrees, PlainPairs, leaf, object, list, set, map, no_trees, tree_then, no_pairs, pair_then}
use Rattle.row_model.specs.Row.{is_least, stored_value}
use Rattle.row_model.specs.Table.{RowMap, Table}
use Rattle.row_model.proofs.RowsFrom.{get_in}
use Rattle.record_trees.specs.FitsTree.{IsLeafOr}
use Rattle.write_engine.specs.Cycle.{Adds, AddsAll, AddsFields, AddsPairs, AddsRecords, Next, PutsRow, no_rows, rows_in}
use Rattle.byte_laws.specs.Bytes.{AreBytePairs, AreByteTrees, IsByteRow, IsByteTable, IsByteTree, IsByteValue}

-- ---- values

int_stored : (least : Bool) (n : ℤ) → IsByteValue (if least then Value.Null else Value.Int n)
int_stored true n = tt
int_stored false n = tt

long_stored : (least : Bool) (n : ℤ) → IsByteValue (if least then Value.Null else Value.Long n)
long_stored true n = tt
long_stored false n = tt

stored_bytes : (value : Value) → IsByteValue value → IsByteValue (stored_value value)
stored_bytes (Value.Int n) is = int_stored (is_least 32 n) n
stored_bytes (Value.Long n) is = long_stored (is_least 64 n) n
stored_bytes Value.Null is = tt
stored_bytes (Value.Bool flag) is = tt
stored_bytes (Value.Text units) is = tt
stored_bytes (Value.Bytes bytes) is = is
stored_bytes (Value.Ref ordinal) is = tt

-- ---- a row is put

set_bytes : (table : Table) (t : ℕ) (rows : RowMap) → IsByteTable table → ((ordinal : ℕ) (row : Row) → get rows ordinal ≡ Some row → IsByteRow row) → IsByteTable (slice_set table t rows)
set_bytes [] t rows each there u o row is = each u o row is
set_bytes (r ∷ table) zero rows each there zero o row is = there o row is
set_bytes (r ∷ table) zero rows each there (suc u) o row is = each (suc u) o row is
set_bytes (r ∷ table) (suc t) rows each there zero o row is = each 0 o row is
set_bytes (r ∷ table) (suc t) rows each there (suc u) o row is = set_bytes table t rows (λ w. each (suc w)) there u o row is

put_bytes : (previous before after : Table) (t ordinal : ℕ) (row : Row) → PutsRow previous t row before ordinal after → IsByteRow row → IsByteTable before → IsByteTable after
put_bytes previous before after t ordinal row puts bytes each =
    subst IsByteTable (sym puts.after_is) (set_bytes before t (insert (rows_in before t) ordinal row) each found)
  where
    found : (o : ℕ) (r : Row) → get (insert (rows_in before t) ordinal row) o ≡ Some r → IsByteRow r
    found o r is =
        elim (cases_eq o ordinal) [
          | inl same ↦
              (let here : Some row ≡ Some r = sym (get_inserted (rows_in before t) ordinal row) ∙ ap (get (insert (rows_in before t) ordinal row)) (sym same) ∙ is in
              let one : row ≡ r = cc in
              subst IsByteRow one bytes)
          | inr apart ↦ each t o r (sym (get_in before t o) ∙ sym (get_beside (rows_in before t) ordinal o row apart) ∙ is)
        ]

-- ---- trees, children first

leaf_or : (tree : PlainTree) (P : Value → Type 0) (Q R : Type 0) → IsByteTree tree → ((value : Value) → IsByteValue value → P value → R) → (Q → R) → IsLeafOr tree P Q → R
leaf_or (leaf value) P Q R is f g h = f value is h
leaf_or (object trees) P Q R is f g h = g h
leaf_or (list trees) P Q R is f g h = g h
leaf_or (set trees) P Q R is f g h = g h
leaf_or (map pairs) P Q R is f g h = g h

module _ (schemas : List Schema) (previous : Table) where
  mutual
    adds_bytes : (tree : PlainTree) (t : ℕ) (before after : Table) (ordinal : ℕ) → IsByteTree tree → Adds schemas previous t tree before ordinal after → IsByteTable before → IsByteTable after
    adds_bytes (leaf value) t before after ordinal is adds each = absurd adds
    adds_bytes (object trees) t before after ordinal is adds each =
        let made = fields_bytes trees adds.0 before adds.2 adds.1 is adds.4 each in
        put_bytes previous adds.2 after t ordinal (Row.Object adds.1) adds.5 made.0 made.1
    adds_bytes (list trees) t before after ordinal is adds each =
        put_bytes previous adds.2 after t ordinal (Row.List adds.1) adds.5 tt (all_bytes trees adds.0 before adds.2 adds.1 is adds.4 each)
    adds_bytes (set trees) t before after ordinal is adds each =
        put_bytes previous adds.2 after t ordinal (Row.Set adds.5.0) adds.5.2 tt (all_bytes trees adds.0 before adds.2 adds.1 is adds.4 each)
    adds_bytes (map pairs) t before after ordinal is adds each =
        put_bytes previous adds.2 after t ordinal (Row.Map adds.5.0) adds.5.2 tt (pairs_bytes pairs adds.0 before adds.2 adds.1 is adds.4 each)

    fields_bytes : (trees : PlainTrees) (fields : List Field) (before after : Table) (values : List Value) → AreByteTrees trees → AddsFields schemas previous fields trees before values after → IsByteTable before
        → All IsByteValue values × IsByteTable after
    fields_bytes no_trees fields before after values is adds each =
        (subst (All IsByteValue) (sym adds.1) (All-nil IsByteValue), subst IsByteTable (sym adds.2) each)
    fields_bytes (tree_then tree trees) fields before after values is adds each =
        let one : IsByteValue adds.2 × IsByteTable adds.4 =
        leaf_or tree _ _ (IsByteValue adds.2 × IsByteTable adds.4) is.0
        (λ found bytes of. (subst IsByteValue (sym of.2) (stored_bytes found bytes), subst IsByteTable (sym of.3) each))
        (λ row. (subst IsByteValue (sym row.4) tt, adds_bytes tree row.0 before adds.4 row.1 is.0 row.3 each)) adds.7 in
        let rest = fields_bytes trees adds.1 adds.4 after adds.3 is.1 adds.8 one.1 in (
          subst (All IsByteValue) (sym adds.6) (All-cons IsByteValue adds.2 adds.3 one.0 rest.0),
          rest.1,
        )

    all_bytes : (trees : PlainTrees) (t : ℕ) (before after : Table) (ordinals : List ℕ) → AreByteTrees trees → AddsAll schemas previous t trees before ordinals after → IsByteTable before → IsByteTable after
    all_bytes no_trees t before after ordinals is adds each = subst IsByteTable (sym adds.1) each
    all_bytes (tree_then tree trees) t before after ordinals is adds each = all_bytes trees t adds.2 after adds.1 is.1 adds.5 (adds_bytes tree t before adds.2 adds.0 is.0 adds.4 each)

    pairs_bytes : (pairs : PlainPairs) (types : ℕ × ℕ) (before after : Table) (added : List (ℕ × ℕ)) → AreBytePairs pairs → AddsPairs schemas previous types pairs before added after → IsByteTable before → IsByteTable after
    pairs_bytes no_pairs types before after added is adds each = subst IsByteTable (sym adds.1) each
    pairs_bytes (pair_then key value pairs) types before after added is adds each =
        pairs_bytes pairs types adds.4 after adds.2 is.2 adds.8 (adds_bytes value types.1 adds.3 adds.4 adds.1 is.1 adds.7 (adds_bytes key types.0 before adds.3 adds.0 is.0 adds.6 each))

  -- The tree of a record has bytes.
  abbrev IsByteRecord : ℕ × PlainTree → Type 0
  IsByteRecord record_of = IsByteTree record_of.1

  records_bytes : (records : List (ℕ × PlainTree)) (before after : Table) → All IsByteRecord records → AddsRecords schemas previous records before after → IsByteTable before → IsByteTable after
  records_bytes [] before after is adds each = subst IsByteTable (sym adds) each
  records_bytes (entry ∷ records) before after is adds each =
      records_bytes records adds.1 after (All-tail IsByteRecord entry records is) adds.3 (adds_bytes entry.1 entry.0 before adds.1 adds.0 (All-head IsByteRecord entry records is) adds.2 each)

-- no rows have bytes
pub none_bytes : (count : ℕ) → IsByteTable (no_rows count)
none_bytes zero t o row is = absurd cc
none_bytes (suc count) zero o row is = let none = sym (get-empty nat_cmp o) ∙ is in absurd cc
none_bytes (suc count) (suc t) o row is = none_bytes count t o row is

-- the next state
pub next_bytes : (schemas : List Schema) (previous next : Table) (records : List (ℕ × PlainTree)) → All (λ (entry : ℕ × PlainTree). IsByteTree entry.1) records → Next schemas previous records next → IsByteTable next
next_bytes schemas previous next records is made = records_bytes schemas previous records (no_rows (length schemas)) next is made (none_bytes (length schemas))
