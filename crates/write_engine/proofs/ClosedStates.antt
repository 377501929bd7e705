-- A cycle makes a closed table, whose rows fit their types and are in range.
use Rattle.std.proofs.Common.{◌≡◌, ℕ, zero, suc, ◌<◌, ◌^◌, List, [], ◌∷◌, length, Option, Some, None, refl, sym, ap, subst, ◌∙◌, inl, inr, arith, ◌⊎◌, map as images, flat_map, zip}
use Rattle.std.specs.Prelude.{slice_set, slice_get, IsSome, IsSomeAnd, is_some, option_map, option_and_then, All, slice_index_or, true, false, if◌then◌else◌}
use Rattle.std.specs.List.{AllZip}
use Rattle.std.specs.FinMap.{get, insert, empty, get-empty}
use Rattle.std.specs.Ordering.{nat_cmp}
use Rattle.std.proofs.lemmas.Bool.{cases_eq}
use Rattle.std.proofs.lemmas.List.{length-replicate}
use Rattle.std.proofs.lemmas.List.Elements.{All-nil, All-cons, All-weaker, All-map, All-append}
use Rattle.std.proofs.lemmas.Option.{slice_get_within}
use Rattle.row_model.specs.declared.row.Row.{Row}
use Rattle.row_model.specs.declared.row.Value.{Value}
use Rattle.schema_model.specs.declared.schema.name.Name.{Name}
use Rattle.schema_model.specs.declared.schema.Field.{Field}
use Rattle.schema_model.specs.declared.schema.FieldKind.{FieldKind}
use Rattle.schema_model.specs.declared.schema.Schema.{Schema}
use Rattle.schema_model.specs.declared.schema.Shape.{Shape}
use Rattle.schema_model.specs.Parts.{index_of_type}
use Rattle.row_model.specs.PlainTree.{PlainTree, PlainTrees, PlainPairs, leaf, object, list, set, map, no_trees, tree_then, no_pairs, pair_then}
use Rattle.row_model.specs.Row.{FitsKind, FitsShape, IsValueInRange, IsRowInRange, references_of_row, references_of_value, stored_value, is_least}
use Rattle.row_model.specs.Table.{Table, RowMap, row_at, IsLive, IsLiveByName}
use Rattle.ordinal_map.proofs.SetRows.{get_inserted, get_beside}
use Rattle.write_engine.specs.Cycle.{Adds, AddsFields, AddsAll, AddsPairs, AddsRecords, Next, PutsRow, no_rows, rows_in, with_row}
use Rattle.record_trees.specs.FitsTree.{FitsLeaf, IsLeafOr}
use Rattle.write_engine.specs.RowPuts.{FitsRow}
use Rattle.write_engine.specs.Soundness.{IsClosedTableOf}
use Rattle.record_trees.specs.Types.{object_fields, list_element, set_element, map_types, referred, shape_at}
use Rattle.write_engine.proofs.Members.{all_members, all_entries}

-- what holds of a row in its type and table
record Stands (schemas : List Schema) (table : Table) (shape : Shape) (row : Row) : Type 0 where
  fits : FitsShape shape row
  range : IsRowInRange row
  live : All (λ (named : Name × ℕ). IsLiveByName schemas table named.0 named.1) (references_of_row shape row)

-- each row stands, and there are rows of each type
record IsSound (schemas : List Schema) (table : Table) : Type 0 where
  types : length table ≡ length schemas
  each : (t ordinal : ℕ) (schema : Schema) (row : Row) → slice_get schemas t ≡ Some schema → row_at table t ordinal ≡ Some row → Stands schemas table schema.shape row

-- what was live stays live
abbrev Grows : Table → Table → Type 0
Grows before after = (t ordinal : ℕ) → IsLive before t ordinal → IsLive after t ordinal

-- ---- a row is put

pub at_set : (table : Table) (t ordinal : ℕ) (rows : RowMap) → t < length table → row_at (slice_set table t rows) t ordinal ≡ get rows ordinal
at_set [] t ordinal rows inside = absurd (omega arith)
at_set (r ∷ table) zero ordinal rows inside = refl
at_set (r ∷ table) (suc t) ordinal rows inside = at_set table t ordinal rows (omega arith)

pub at_rows : (table : Table) (t ordinal : ℕ) → t < length table → get (rows_in table t) ordinal ≡ row_at table t ordinal
at_rows [] t ordinal inside = absurd (omega arith)
at_rows (r ∷ table) zero ordinal inside = refl
at_rows (r ∷ table) (suc t) ordinal inside = at_rows table t ordinal (omega arith)

pub beside_set : (table : Table) (t u ordinal : ℕ) (rows : RowMap) → (u ≡ t → ⊥) → row_at (slice_set table t rows) u ordinal ≡ row_at table u ordinal
beside_set [] t u ordinal rows apart = refl
beside_set (r ∷ table) zero zero ordinal rows apart = absurd (apart refl)
beside_set (r ∷ table) zero (suc u) ordinal rows apart = refl
beside_set (r ∷ table) (suc t) zero ordinal rows apart = refl
beside_set (r ∷ table) (suc t) (suc u) ordinal rows apart = beside_set table t u ordinal rows (λ e. apart (omega arith))

pub length_set : (table : Table) (t : ℕ) (rows : RowMap) → length (slice_set table t rows) ≡ length table
length_set [] t rows = refl
length_set (r ∷ table) zero rows = refl
length_set (r ∷ table) (suc t) rows = ap suc (length_set table t rows)

module _ (table : Table) (t ordinal : ℕ) (row : Row) (inside : t < length table) where
  pub row_here : row_at (with_row table t ordinal row) t ordinal ≡ Some row
  row_here = at_set table t ordinal (insert (rows_in table t) ordinal row) inside ∙ get_inserted (rows_in table t) ordinal row

  pub row_beside : (o : ℕ) → (o ≡ ordinal → ⊥) → row_at (with_row table t ordinal row) t o ≡ row_at table t o
  row_beside o apart = at_set table t o (insert (rows_in table t) ordinal row) inside ∙ get_beside (rows_in table t) ordinal o row apart ∙ at_rows table t o inside

  -- a row after the put is the one that was put, or stood before
  row_after : (u o : ℕ) (r : Row) → row_at (with_row table t ordinal row) u o ≡ Some r → ((u ≡ t) × (r ≡ row)) ⊎ (row_at table u o ≡ Some r)
  row_after u o r is =
      elim (cases_eq u t) [
        | inr apart ↦ inr (sym (beside_set table t u o (insert (rows_in table t) ordinal row) apart) ∙ is)
        | inl same ↦
            elim (cases_eq o ordinal) [
              | inl here ↦ (let e : Some r ≡ Some row = sym is ∙ ap (λ n. row_at (with_row table t ordinal row) n o) same ∙ ap (λ n. row_at (with_row table t ordinal row) t n) here ∙ row_here in
                  inl (same, (let value : r ≡ row = cc in value)))
              | inr beside ↦ inr (ap (λ n. row_at table n o) same ∙ sym (row_beside o beside) ∙ sym (ap (λ n. row_at (with_row table t ordinal row) n o) same) ∙ is)
            ]
      ]

  put_grows : Grows table (with_row table t ordinal row)
  put_grows u o live =
      elim (cases_eq u t) [
        | inr apart ↦ subst IsSome (sym (beside_set table t u o (insert (rows_in table t) ordinal row) apart)) live
        | inl same ↦
            elim (cases_eq o ordinal) [
              | inl here ↦ subst (λ n. IsSome (row_at (with_row table t ordinal row) n o)) (sym same) (subst (λ n. IsSome (row_at (with_row table t ordinal row) t n)) (sym here) (ap is_some row_here))
              | inr beside ↦ subst (λ n. IsSome (row_at (with_row table t ordinal row) n o)) (sym same) (subst IsSome (sym (row_beside o beside)) (subst (λ n. IsSome (row_at table n o)) same live))
            ]
      ]

grown_name : (schemas : List Schema) (before after : Table) → Grows before after → (index : Option ℕ) (o : ℕ) → IsSomeAnd index (λ t. IsLive before t o) → IsSomeAnd index (λ t. IsLive after t o)
grown_name schemas before after grows None o h = absurd h
grown_name schemas before after grows (Some t) o h = grows t o h

grown : (schemas : List Schema) (before after : Table) (shape : Shape) (row : Row) → Grows before after → Stands schemas before shape row → Stands schemas after shape row
grown schemas before after shape row grows stands = record {
  fits = stands.fits;
  range = stands.range;
  live = λ k d within. grown_name schemas before after grows (index_of_type schemas _) _ (stands.live k d within);
}

-- what an addition leaves
record Adding (schemas : List Schema) (before after : Table) : Type 0 where
  sound : IsSound schemas after
  grows : Grows before after

-- a child: live, and an ordinal that fits a row
abbrev IsChild : Table → ℕ → ℕ → Type 0
IsChild table t ordinal = IsLive table t ordinal × (ordinal < 2 ^ 32)

put_sound : (schemas : List Schema) (previous before after : Table) (t ordinal : ℕ) (schema : Schema) (row : Row) → slice_get schemas t ≡ Some schema → IsSound schemas before → Stands schemas before schema.shape row → PutsRow previous t row before ordinal after
    → Adding schemas before after × IsChild after t ordinal
put_sound schemas previous before after t ordinal schema row type sound stands puts =
    let inside : t < length before = omega (arith, slice_get_within schemas t schema type, sound.types) in
    let grows = put_grows before t ordinal row inside in
    subst (λ (table : Table). Adding schemas before table × IsChild table t ordinal) (sym puts.after_is) (
      record {
        sound = record {
          types = length_set before t (insert (rows_in before t) ordinal row) ∙ sound.types;
          each = λ u o s r here is.
              (elim (row_after before t ordinal row inside u o r is) [
                | inl put ↦
                    (let e : Some s ≡ Some schema = sym here ∙ ap (slice_get schemas) put.0 ∙ type in
                    let same : s ≡ schema = cc in
                    grown schemas before (with_row before t ordinal row) s.shape r grows
                    (subst (λ x. Stands schemas before x.shape r) (sym same) (subst (λ x. Stands schemas before schema.shape x) (sym put.1) stands)))
                | inr stood ↦ grown schemas before (with_row before t ordinal row) s.shape r grows (sound.each u o s r here stood)
              ]);
        };
        grows = grows;
      },
      (ap is_some (row_here before t ordinal row inside), omega (arith, puts.low)),
    )

-- ---- rows of each kind

by_name : (schemas : List Schema) (table : Table) (name : Name) (t o : ℕ) → index_of_type schemas name ≡ Some t → IsLive table t o → IsLiveByName schemas table name o
by_name schemas table name t o is live = subst (λ index. IsSomeAnd index (λ u. IsLive table u o)) (sym is) live

named_all : (schemas : List Schema) (table : Table) (name : Name) (t : ℕ) (os : List ℕ) → index_of_type schemas name ≡ Some t → All (IsChild table t) os → All (λ (named : Name × ℕ). IsLiveByName schemas table named.0 named.1) (images (λ (o : ℕ). (name, o)) os)
named_all schemas table name t os is all =
    All-map (λ (named : Name × ℕ). IsLiveByName schemas table named.0 named.1) (λ (o : ℕ). (name, o)) os (All-weaker (IsChild table t) (λ o. IsLiveByName schemas table name o) (λ o child. by_name schemas table name t o is child.0) os all)

list_stands : (schemas : List Schema) (table : Table) (shape : Shape) (t : ℕ) (os : List ℕ) → list_element schemas shape ≡ Some t → All (IsChild table t) os → Stands schemas table shape (Row.List os)
list_stands schemas table (Shape.List name) t os is all = record { fits = tt; range = All-weaker (IsChild table t) (λ o. o < 2 ^ 32) (λ o child. child.1) os all; live = named_all schemas table name t os is all }
list_stands schemas table (Shape.Object key fields) t os is all = absurd cc
list_stands schemas table (Shape.Set name) t os is all = absurd cc
list_stands schemas table (Shape.Map key value) t os is all = absurd cc

set_stands : (schemas : List Schema) (table : Table) (shape : Shape) (t : ℕ) (os : List ℕ) → set_element schemas shape ≡ Some t → All (IsChild table t) os → FitsShape (Shape.Set []) (Row.Set os) → Stands schemas table shape (Row.Set os)
set_stands schemas table (Shape.Set name) t os is all rises = record { fits = rises; range = All-weaker (IsChild table t) (λ o. o < 2 ^ 32) (λ o child. child.1) os all; live = named_all schemas table name t os is all }
set_stands schemas table (Shape.Object key fields) t os is all rises = absurd cc
set_stands schemas table (Shape.List name) t os is all rises = absurd cc
set_stands schemas table (Shape.Map key value) t os is all rises = absurd cc

-- both parts of a pair
abbrev AreChildren : Table → ℕ × ℕ → ℕ × ℕ → Type 0
AreChildren table types pair = IsChild table types.0 pair.0 × IsChild table types.1 pair.1

both_types : (k v : Option ℕ) (types : ℕ × ℕ) → option_and_then (λ key. option_map (λ value. (key, value)) v) k ≡ Some types → (k ≡ Some types.0) × (v ≡ Some types.1)
both_types None v types is = absurd cc
both_types (Some k) None types is = absurd cc
both_types (Some k) (Some v) types is =
    let same : ◌≡◌ {A = ℕ × ℕ} (k, v) types = cc in
    (ap (λ (p : ℕ × ℕ). Some p.0) same, ap (λ (p : ℕ × ℕ). Some p.1) same)

named_pairs : (schemas : List Schema) (table : Table) (key value : Name) (types : ℕ × ℕ) (ps : List (ℕ × ℕ)) → index_of_type schemas key ≡ Some types.0 → index_of_type schemas value ≡ Some types.1 → ((k : ℕ) (d : ℕ × ℕ) → k < length ps → AreChildren table types (slice_index_or ps k d))
    → All (λ (named : Name × ℕ). IsLiveByName schemas table named.0 named.1) (flat_map (λ (pair : ℕ × ℕ). (key, pair.0) ∷ (value, pair.1) ∷ []) ps)
named_pairs schemas table key value types [] is_key is_value all = All-nil (λ (named : Name × ℕ). IsLiveByName schemas table named.0 named.1)
named_pairs schemas table key value types (p ∷ ps) is_key is_value all =
    let P = λ (named : Name × ℕ). IsLiveByName schemas table named.0 named.1 in
    let first = all 0 p (omega arith) in
    All-cons P (key, p.0) ((value, p.1) ∷ flat_map (λ (pair : ℕ × ℕ). (key, pair.0) ∷ (value, pair.1) ∷ []) ps) (by_name schemas table key types.0 p.0 is_key first.0.0)
    (All-cons P (value, p.1) (flat_map (λ (pair : ℕ × ℕ). (key, pair.0) ∷ (value, pair.1) ∷ []) ps) (by_name schemas table value types.1 p.1 is_value first.1.0)
    (named_pairs schemas table key value types ps is_key is_value (λ k d within. all (suc k) d (omega arith))))

map_stands : (schemas : List Schema) (table : Table) (shape : Shape) (types : ℕ × ℕ) (ps : List (ℕ × ℕ)) → map_types schemas shape ≡ Some types → All (AreChildren table types) ps → FitsShape (Shape.Map [] []) (Row.Map ps) → Stands schemas table shape (Row.Map ps)
map_stands schemas table (Shape.Map key value) types ps is all rises =
    let both = both_types (index_of_type schemas key) (index_of_type schemas value) types is in
    record {
      fits = rises;
      range = All-weaker (AreChildren table types) (λ pair. (pair.0 < 2 ^ 32) × (pair.1 < 2 ^ 32)) (λ pair child. (child.0.1, child.1.1)) ps all;
      live = named_pairs schemas table key value types ps both.0 both.1 all;
    }
map_stands schemas table (Shape.Object key fields) types ps is all rises = absurd cc
map_stands schemas table (Shape.List name) types ps is all rises = absurd cc
map_stands schemas table (Shape.Set name) types ps is all rises = absurd cc

-- the values of a record
record ValuesStand (schemas : List Schema) (table : Table) (fields : List Field) (values : List Value) : Type 0 where
  fit : AllZip (λ field value. FitsKind field.kind value) fields values
  range : All IsValueInRange values
  live : All (λ (named : Name × ℕ). IsLiveByName schemas table named.0 named.1) (flat_map (λ part. references_of_value part.0.kind part.1) (zip fields values))

object_stands : (schemas : List Schema) (table : Table) (shape : Shape) (fields : List Field) (values : List Value) → object_fields shape ≡ Some fields → ValuesStand schemas table fields values → Stands schemas table shape (Row.Object values)
object_stands schemas table (Shape.Object key fs) fields values is stand =
    let same : fs ≡ fields = cc in
    subst (λ x. Stands schemas table (Shape.Object key x) (Row.Object values)) (sym same) (record { fits = stand.fit; range = stand.range; live = stand.live })
object_stands schemas table (Shape.List name) fields values is stand = absurd cc
object_stands schemas table (Shape.Set name) fields values is stand = absurd cc
object_stands schemas table (Shape.Map key value) fields values is stand = absurd cc

-- what the type at an index asks for, by its schema
type_of : {A : Type 0} (schemas : List Schema) (t : ℕ) (ask : Shape → Option A) (x : A) → option_and_then ask (shape_at schemas t) ≡ Some x → (schema : Schema) × (slice_get schemas t ≡ Some schema) × (ask schema.shape ≡ Some x)
type_of schemas t ask x is = of_schema (slice_get schemas t) refl is
  where
    of_schema : (found : Option Schema) → slice_get schemas t ≡ found → option_and_then ask (option_map (λ schema. schema.shape) found) ≡ Some x → (schema : Schema) × (slice_get schemas t ≡ Some schema) × (ask schema.shape ≡ Some x)
    of_schema None e is = absurd cc
    of_schema (Some schema) e is = (schema, e, is)

-- a value as a blob holds it still fits, is in range and names no row
fits_stored : (kind : FieldKind) (found : Value) → FitsLeaf kind found → FitsKind kind (stored_value found)
fits_stored (FieldKind.Reference name) Value.Null fits = tt
fits_stored (FieldKind.Reference name) _ fits = absurd fits
fits_stored FieldKind.Int (Value.Int number) fits = elim (is_least 32 number) as (λ b. FitsKind FieldKind.Int (if b then Value.Null else Value.Int number)) [ true ↦ tt | false ↦ tt ]
fits_stored FieldKind.Long (Value.Long number) fits = elim (is_least 64 number) as (λ b. FitsKind FieldKind.Long (if b then Value.Null else Value.Long number)) [ true ↦ tt | false ↦ tt ]
fits_stored FieldKind.Int Value.Null fits = tt
fits_stored FieldKind.Long Value.Null fits = tt
fits_stored FieldKind.Boolean Value.Null fits = tt
fits_stored FieldKind.Text Value.Null fits = tt
fits_stored FieldKind.Bytes Value.Null fits = tt
fits_stored FieldKind.Boolean (Value.Bool flag) fits = tt
fits_stored FieldKind.Text (Value.Text units) fits = tt
fits_stored FieldKind.Bytes (Value.Bytes bytes) fits = tt
fits_stored _ _ fits = absurd fits

range_stored : (found : Value) → IsValueInRange found → IsValueInRange (stored_value found)
range_stored Value.Null range = tt
range_stored (Value.Int number) range = elim (is_least 32 number) as (λ b. IsValueInRange (if b then Value.Null else Value.Int number)) [ true ↦ tt | false ↦ range ]
range_stored (Value.Long number) range = elim (is_least 64 number) as (λ b. IsValueInRange (if b then Value.Null else Value.Long number)) [ true ↦ tt | false ↦ range ]
range_stored (Value.Bool flag) range = tt
range_stored (Value.Text units) range = range
range_stored (Value.Bytes bytes) range = tt
range_stored (Value.Ref ordinal) range = range

names_none : (kind : FieldKind) (found : Value) → FitsLeaf kind found → references_of_value kind (stored_value found) ≡ []
names_none (FieldKind.Reference name) Value.Null fits = refl
names_none (FieldKind.Reference name) _ fits = absurd fits
names_none FieldKind.Int found fits = refl
names_none FieldKind.Long found fits = refl
names_none FieldKind.Boolean found fits = refl
names_none FieldKind.Text found fits = refl
names_none FieldKind.Bytes found fits = refl

-- a value of a field
record ValueStands (schemas : List Schema) (table : Table) (field : Field) (value : Value) : Type 0 where
  fit : FitsKind field.kind value
  range : IsValueInRange value
  live : All (λ (named : Name × ℕ). IsLiveByName schemas table named.0 named.1) (references_of_value field.kind value)

leaf_stands : (schemas : List Schema) (table : Table) (field : Field) (found value : Value) → FitsLeaf field.kind found → IsValueInRange found → value ≡ stored_value found → ValueStands schemas table field value
leaf_stands schemas table field found value fits range is = subst (ValueStands schemas table field) (sym is) record {
  fit = fits_stored field.kind found fits;
  range = range_stored found range;
  live = subst (All (λ (named : Name × ℕ). IsLiveByName schemas table named.0 named.1)) (sym (names_none field.kind found fits)) (All-nil (λ (named : Name × ℕ). IsLiveByName schemas table named.0 named.1));
}

reference_fits : (schemas : List Schema) (table : Table) (kind : FieldKind) (t ordinal : ℕ) → referred schemas kind ≡ Some t → IsLive table t ordinal → FitsKind kind (Value.Ref ordinal) × All (λ (named : Name × ℕ). IsLiveByName schemas table named.0 named.1) (references_of_value kind (Value.Ref ordinal))
reference_fits schemas table (FieldKind.Reference name) t ordinal is live =
    let P = λ (named : Name × ℕ). IsLiveByName schemas table named.0 named.1 in
    (tt, All-cons P (name, ordinal) [] (by_name schemas table name t ordinal is live) (All-nil P))
reference_fits schemas table FieldKind.Int t ordinal is live = absurd cc
reference_fits schemas table FieldKind.Long t ordinal is live = absurd cc
reference_fits schemas table FieldKind.Boolean t ordinal is live = absurd cc
reference_fits schemas table FieldKind.Text t ordinal is live = absurd cc
reference_fits schemas table FieldKind.Bytes t ordinal is live = absurd cc

row_stands : (schemas : List Schema) (table : Table) (field : Field) (t ordinal : ℕ) (value : Value) → referred schemas field.kind ≡ Some t → IsChild table t ordinal → value ≡ Value.Ref ordinal → ValueStands schemas table field value
row_stands schemas table field t ordinal value is child same =
    let fits = reference_fits schemas table field.kind t ordinal is child.0 in
    subst (ValueStands schemas table field) (sym same) record { fit = fits.0; range = child.1; live = fits.1 }

value_grown : (schemas : List Schema) (before after : Table) (field : Field) (value : Value) → Grows before after → ValueStands schemas before field value → ValueStands schemas after field value
value_grown schemas before after field value grows stands = record {
  fit = stands.fit;
  range = stands.range;
  live = λ k d within. grown_name schemas before after grows (index_of_type schemas _) _ (stands.live k d within);
}

values_then : (schemas : List Schema) (table : Table) (field : Field) (value : Value) (fields : List Field) (values : List Value) → ValueStands schemas table field value → ValuesStand schemas table fields values → ValuesStand schemas table (field ∷ fields) (value ∷ values)
values_then schemas table field value fields values head rest = record {
  fit = (head.fit, rest.fit);
  range = All-cons IsValueInRange value values head.range rest.range;
  live = All-append (λ (named : Name × ℕ). IsLiveByName schemas table named.0 named.1) (references_of_value field.kind value) (flat_map (λ part. references_of_value part.0.kind part.1) (zip fields values)) head.live rest.live;
}

no_values : (schemas : List Schema) (table : Table) → ValuesStand schemas table [] []
no_values schemas table = record { fit = tt; range = All-nil IsValueInRange; live = All-nil (λ (named : Name × ℕ). IsLiveByName schemas table named.0 named.1) }

both_adding : (schemas : List Schema) (before middle after : Table) → Adding schemas before middle → Adding schemas middle after → Adding schemas before after
both_adding schemas before middle after first then' = record { sound = then'.sound; grows = λ t o live. then'.grows t o (first.grows t o live) }

unchanged : (schemas : List Schema) (before after : Table) → IsSound schemas before → after ≡ before → Adding schemas before after
unchanged schemas before after sound same = subst (Adding schemas before) (sym same) record { sound = sound; grows = λ t o live. live }

child_grown : (before after : Table) (t o : ℕ) → Grows before after → IsChild before t o → IsChild after t o
child_grown before after t o grows child = (grows t o child.0, child.1)

leaf_or : (tree : PlainTree) (P : Value → Type 0) (Q R : Type 0) → ((value : Value) → P value → R) → (Q → R) → IsLeafOr tree P Q → R
leaf_or (leaf value) P Q R f g h = f value h
leaf_or (object trees) P Q R f g h = g h
leaf_or (list trees) P Q R f g h = g h
leaf_or (set trees) P Q R f g h = g h
leaf_or (map pairs) P Q R f g h = g h

-- ---- trees, children first

module _ (schemas : List Schema) (previous : Table) where
  -- the children were added, and the row is put
  finish : (before middle after : Table) (t ordinal : ℕ) (schema : Schema) (row : Row) → slice_get schemas t ≡ Some schema → Adding schemas before middle → Stands schemas middle schema.shape row → PutsRow previous t row middle ordinal after → Adding schemas before after × IsChild after t ordinal
  finish before middle after t ordinal schema row type children stands puts =
      let put = put_sound schemas previous middle after t ordinal schema row type children.sound stands puts in
      (both_adding schemas before middle after children put.0, put.1)

  mutual
    adds_sound : (tree : PlainTree) (t : ℕ) (before after : Table) (ordinal : ℕ) → Adds schemas previous t tree before ordinal after → IsSound schemas before → Adding schemas before after × IsChild after t ordinal
    adds_sound (leaf value) t before after ordinal adds sound = absurd adds
    adds_sound (object trees) t before after ordinal adds sound =
        let type = type_of schemas t object_fields adds.0 adds.3 in
        let children = fields_sound trees adds.0 before adds.2 adds.1 adds.4 sound in
        finish before adds.2 after t ordinal type.0 (Row.Object adds.1) type.1 children.0 (object_stands schemas adds.2 type.0.shape adds.0 adds.1 type.2 children.1) adds.5
    adds_sound (list trees) t before after ordinal adds sound =
        let type = type_of schemas t (list_element schemas) adds.0 adds.3 in
        let children = all_sound trees adds.0 before adds.2 adds.1 adds.4 sound in
        finish before adds.2 after t ordinal type.0 (Row.List adds.1) type.1 children.0 (list_stands schemas adds.2 type.0.shape adds.0 adds.1 type.2 children.1) adds.5
    adds_sound (set trees) t before after ordinal adds sound =
        let type = type_of schemas t (set_element schemas) adds.0 adds.3 in
        let children = all_sound trees adds.0 before adds.2 adds.1 adds.4 sound in
        finish before adds.2 after t ordinal type.0 (Row.Set adds.5.0) type.1 children.0
        (set_stands schemas adds.2 type.0.shape adds.0 adds.5.0 type.2 (all_members (IsChild adds.2 adds.0) adds.1 adds.5.0 adds.5.1 children.1) adds.5.1.rising) adds.5.2
    adds_sound (map pairs) t before after ordinal adds sound =
        let type = type_of schemas t (map_types schemas) adds.0 adds.3 in
        let children = pairs_sound pairs adds.0 before adds.2 adds.1 adds.4 sound in
        finish before adds.2 after t ordinal type.0 (Row.Map adds.5.0) type.1 children.0
        (map_stands schemas adds.2 type.0.shape adds.0 adds.5.0 type.2 (all_entries (AreChildren adds.2 adds.0) adds.1 adds.5.0 adds.5.1 children.1) adds.5.1.rising) adds.5.2

    fields_sound : (trees : PlainTrees) (fields : List Field) (before after : Table) (values : List Value) → AddsFields schemas previous fields trees before values after → IsSound schemas before → Adding schemas before after × ValuesStand schemas after fields values
    fields_sound no_trees fields before after values adds sound = (
      unchanged schemas before after sound adds.2,
      subst (λ fs. ValuesStand schemas after fs values) (sym adds.0) (subst (ValuesStand schemas after []) (sym adds.1) (no_values schemas after)),
    )
    fields_sound (tree_then tree trees) fields before after values adds sound =
        let first = leaf_or tree _ _ (Adding schemas before adds.4 × ValueStands schemas adds.4 adds.0 adds.2)
        (λ found is. (unchanged schemas before adds.4 sound is.3, leaf_stands schemas adds.4 adds.0 found adds.2 is.0 is.1 is.2))
        (λ row. (let added = adds_sound tree row.0 before adds.4 row.1 row.3 sound in (added.0, row_stands schemas adds.4 adds.0 row.0 row.1 adds.2 row.2 added.1 row.4))) adds.7 in
        let rest = fields_sound trees adds.1 adds.4 after adds.3 adds.8 first.0.sound in (
          both_adding schemas before adds.4 after first.0 rest.0,
          subst (λ fs. ValuesStand schemas after fs values) (sym adds.5)
              (subst (ValuesStand schemas after (adds.0 ∷ adds.1)) (sym adds.6) (values_then schemas after adds.0 adds.2 adds.1 adds.3 (value_grown schemas adds.4 after adds.0 adds.2 rest.0.grows first.1) rest.1)),
        )

    all_sound : (trees : PlainTrees) (t : ℕ) (before after : Table) (ordinals : List ℕ) → AddsAll schemas previous t trees before ordinals after → IsSound schemas before → Adding schemas before after × All (IsChild after t) ordinals
    all_sound no_trees t before after ordinals adds sound = (unchanged schemas before after sound adds.1, subst (All (IsChild after t)) (sym adds.0) (All-nil (IsChild after t)))
    all_sound (tree_then tree trees) t before after ordinals adds sound =
        let first = adds_sound tree t before adds.2 adds.0 adds.4 sound in
        let rest = all_sound trees t adds.2 after adds.1 adds.5 first.0.sound in (
          both_adding schemas before adds.2 after first.0 rest.0,
          subst (All (IsChild after t)) (sym adds.3) (All-cons (IsChild after t) adds.0 adds.1 (child_grown adds.2 after t adds.0 rest.0.grows first.1) rest.1),
        )

    pairs_sound : (pairs : PlainPairs) (types : ℕ × ℕ) (before after : Table) (added : List (ℕ × ℕ)) → AddsPairs schemas previous types pairs before added after → IsSound schemas before → Adding schemas before after × All (AreChildren after types) added
    pairs_sound no_pairs types before after added adds sound = (unchanged schemas before after sound adds.1, subst (All (AreChildren after types)) (sym adds.0) (All-nil (AreChildren after types)))
    pairs_sound (pair_then key value pairs) types before after added adds sound =
        let first = adds_sound key types.0 before adds.3 adds.0 adds.6 sound in
        let second = adds_sound value types.1 adds.3 adds.4 adds.1 adds.7 first.0.sound in
        let rest = pairs_sound pairs types adds.4 after adds.2 adds.8 second.0.sound in (
          both_adding schemas before adds.4 after (both_adding schemas before adds.3 adds.4 first.0 second.0) rest.0,
          subst (All (AreChildren after types)) (sym adds.5) (All-cons (AreChildren after types) (adds.0, adds.1) adds.2 (
            child_grown adds.4 after types.0 adds.0 rest.0.grows (child_grown adds.3 adds.4 types.0 adds.0 second.0.grows first.1),
            child_grown adds.4 after types.1 adds.1 rest.0.grows second.1,
          ) rest.1),
        )

  records_sound : (records : List (ℕ × PlainTree)) (before after : Table) → AddsRecords schemas previous records before after → IsSound schemas before → IsSound schemas after
  records_sound [] before after adds sound = subst (IsSound schemas) (sym adds) sound
  records_sound (entry ∷ records) before after adds sound = records_sound records adds.1 after adds.3 (adds_sound entry.1 entry.0 before adds.1 adds.0 adds.2 sound).0.sound

none_at : (count t ordinal : ℕ) → row_at (no_rows count) t ordinal ≡ None
none_at zero t ordinal = refl
none_at (suc count) zero ordinal = get-empty nat_cmp ordinal
none_at (suc count) (suc t) ordinal = none_at count t ordinal

of_sound : (schemas : List Schema) (table : Table) → IsSound schemas table → IsClosedTableOf schemas table
of_sound schemas table sound = record {
  fits = record {
    types = sound.types;
    rows = λ t o schema row here is. (sound.each t o schema row here is).fits;
    ranges = λ t o schema row here is. (sound.each t o schema row here is).range;
  };
  closed = λ t o schema row here is. (sound.each t o schema row here is).live;
}

none_sound : (schemas : List Schema) → IsSound schemas (no_rows (length schemas))
none_sound schemas = record {
  types = length-replicate (length schemas) empty;
  each = λ t o schema row here is. absurd (let e = sym (none_at (length schemas) t o) ∙ is in cc);
}

-- the table without rows
pub none_closed : (schemas : List Schema) → IsClosedTableOf schemas (no_rows (length schemas))
none_closed schemas = of_sound schemas (no_rows (length schemas)) (none_sound schemas)

to_sound : (schemas : List Schema) (table : Table) → IsClosedTableOf schemas table → IsSound schemas table
to_sound schemas table closed = record {
  types = closed.fits.types;
  each = λ t o schema row here is. record { fits = closed.fits.rows t o schema row here is; range = closed.fits.ranges t o schema row here is; live = closed.closed t o schema row here is };
}

pub added_closed : (schemas : List Schema) (previous before after : Table) (t ordinal : ℕ) (tree : PlainTree) → Adds schemas previous t tree before ordinal after → IsClosedTableOf schemas before → IsClosedTableOf schemas after
added_closed schemas previous before after t ordinal tree adds closed =
    of_sound schemas after (adds_sound schemas previous tree t before after ordinal adds (to_sound schemas before closed)).0.sound

-- the table with a row more that may stand there
pub row_closed : (schemas : List Schema) (previous before after : Table) (t ordinal : ℕ) (row : Row) → FitsRow schemas before t row → PutsRow previous t row before ordinal after → IsClosedTableOf schemas before → IsClosedTableOf schemas after
row_closed schemas previous before after t ordinal row may puts closed =
    of_sound schemas after (put_sound schemas previous before after t ordinal may.schema row may.type (to_sound schemas before closed) (record { fits = may.fits; range = may.range; live = may.live }) puts).0.sound

pub next_closed : (schemas : List Schema) (previous next : Table) (records : List (ℕ × PlainTree)) → Next schemas previous records next → IsClosedTableOf schemas next
next_closed schemas previous next records made = of_sound schemas next (records_sound schemas previous records (no_rows (length schemas)) next made (none_sound schemas))
