-- The tree of a live row of a closed table fits its type, where the keys of each map in it are apart.
use Rattle.std.proofs.Common.{◌≡◌, ℕ, zero, suc, ◌≤◌, ◌∙◌, refl, sym, ap, subst, List, [], ◌∷◌, length, map, zip, slice_get, Option, Some, None, inl, inr, arith}
use Rattle.std.specs.FinMap.{get}
use Rattle.std.specs.Prelude.{All, IsSome, IsSomeAnd, option_and_then, option_map}
use Rattle.std.proofs.lemmas.List.Elements.{All-head, All-tail}
use Rattle.std.proofs.lemmas.Slice.Zip.{AllZip-long}
use Rattle.std.proofs.lemmas.Option.{slice_get_cases, slice_get_past, slice_get_within}
use Rattle.schema_model.specs.declared.schema.name.Name.{Name}
use Rattle.schema_model.specs.declared.schema.Field.{Field}
use Rattle.schema_model.specs.declared.schema.FieldKind.{FieldKind}
use Rattle.schema_model.specs.declared.schema.Schema.{Schema}
use Rattle.schema_model.specs.declared.schema.Shape.{Shape}
use Rattle.row_model.specs.declared.row.Row.{Row}
use Rattle.row_model.specs.declared.row.Value.{Value}
use Rattle.schema_model.specs.declared.model.rule.Rule.TheVariants.{UnknownType}
use Rattle.schema_model.specs.Model.{IsModel}
use Rattle.schema_model.specs.Parts.{index_of_type}
use Rattle.row_model.specs.PlainTree.{PlainTree, leaf, object, list, set, map as map_tree, pairs_of_list, trees_of_list}
use Rattle.row_model.specs.Row.{FitsKind, FitsShape, references_of_row}
use Rattle.row_model.specs.Table.{IsClosed, IsLive, IsTableOf, Table, row_at}
use Rattle.row_model.specs.Unfold.{tree_of_live, tree_of_row, tree_of_type, tree_of_value, unfold_within}
use Rattle.schema_model.proofs.Ways.{deep_enough}
use Rattle.record_trees.specs.FitsTree.{FitAll, FitFields, FitPairs, FitsTree}
use Rattle.record_trees.specs.Types.{list_element, map_types, object_fields, set_element}
use Rattle.record_json.specs.KeysApart.{HasKeysApart, HaveKeysApart, HaveKeysApartEach}
use Rattle.record_json.specs.Printing.{CanPrint, CanPrintPair, CanPrintValue, IsShallow, unfold_named}
use Rattle.record_json.proofs.Fitting.{AreNamed, FitsField, FitsNamed, null_fits, pairs_of_types, record_fits, some_and, some_type}
use Rattle.record_json.proofs.PrintingNames.{ordinals_can, pairs_can, reference_can, row_fits, row_reached, values_can}
use Rattle.record_json.proofs.ReadingBack.{FitsShaped}

-- what fits the shape of a type fits the type
of_shape : (schemas : List Schema) (t : ℕ) (schema : Schema) (tree : PlainTree) → slice_get schemas t ≡ Some schema → FitsShaped schemas schema.shape tree → FitsTree schemas t tree
of_shape schemas t schema (leaf value) found fits = absurd fits
of_shape schemas t schema (object trees) found fits = subst (λ o. IsSomeAnd (option_and_then object_fields (option_map (λ (s : Schema). s.shape) o)) (λ fields. FitFields schemas fields trees)) (sym found) fits
of_shape schemas t schema (list trees) found fits = subst (λ o. IsSomeAnd (option_and_then (list_element schemas) (option_map (λ (s : Schema). s.shape) o)) (λ element. FitAll schemas element trees)) (sym found) fits
of_shape schemas t schema (set trees) found fits = subst (λ o. IsSomeAnd (option_and_then (set_element schemas) (option_map (λ (s : Schema). s.shape) o)) (λ element. FitAll schemas element trees)) (sym found) fits
of_shape schemas t schema (map_tree pairs) found fits =
    (subst (λ o. IsSomeAnd (option_and_then (map_types schemas) (option_map (λ (s : Schema). s.shape) o)) (λ types. FitPairs schemas types pairs)) (sym found) fits.0, fits.1)

at_type : (P : ℕ → Type 0) (o : Option ℕ) (u : ℕ) → o ≡ Some u → IsSomeAnd o P → P u
at_type P o u is holds = subst (λ x. IsSomeAnd x P) is holds

-- the parts of a row fit, where the rows that it names do
module _ (schemas : List Schema) (table : Table) (depth : ℕ)
    (each : (name : Name) (ordinal : ℕ) → CanPrint schemas table depth name ordinal → HasKeysApart (unfold_named schemas table depth name ordinal) → FitsNamed schemas name (unfold_named schemas table depth name ordinal)) where
  value_fits : (kind : FieldKind) (value : Value) → CanPrintValue schemas table depth kind value → HasKeysApart (tree_of_value (unfold_named schemas table depth) kind value)
      → FitsField schemas kind (tree_of_value (unfold_named schemas table depth) kind value)
  value_fits (FieldKind.Reference name) (Value.Ref ordinal) can apart =
      record_fits schemas name (unfold_named schemas table depth name ordinal)
      (each name ordinal (reference_can schemas table depth name ordinal (FieldKind.Reference name) (Value.Ref ordinal) refl refl can) apart)
  value_fits kind Value.Null can apart = null_fits kind
  value_fits FieldKind.Int (Value.Int n) can apart = tt
  value_fits FieldKind.Long (Value.Long n) can apart = tt
  value_fits FieldKind.Boolean (Value.Bool flag) can apart = tt
  value_fits FieldKind.Text (Value.Text units) can apart = tt
  value_fits FieldKind.Bytes (Value.Bytes bytes) can apart = tt
  value_fits kind value can apart = absurd can.0

  values_fit : (fields : List Field) (values : List Value) → length fields ≡ length values → All (λ valued. CanPrintValue schemas table depth valued.0.kind valued.1) (zip fields values)
      → HaveKeysApart (trees_of_list (map (λ part. tree_of_value (unfold_named schemas table depth) part.0.kind part.1) (zip fields values)))
      → FitFields schemas fields (trees_of_list (map (λ part. tree_of_value (unfold_named schemas table depth) part.0.kind part.1) (zip fields values)))
  values_fit [] values long can apart = refl
  values_fit (field ∷ fields) [] long can apart = absurd (omega arith)
  values_fit (field ∷ fields) (value ∷ values) long can apart =
      let Can : Field × Value → Type 0 = λ valued. CanPrintValue schemas table depth valued.0.kind valued.1 in
      (value_fits field.kind value (All-head Can (field, value) (zip fields values) can) apart.0, values_fit fields values (omega arith) (All-tail Can (field, value) (zip fields values) can) apart.1)

  elements_fit : (element : Name) (u : ℕ) → index_of_type schemas element ≡ Some u → (ordinals : List ℕ) → All (CanPrint schemas table depth element) ordinals
      → HaveKeysApart (trees_of_list (map (unfold_named schemas table depth element) ordinals)) → FitAll schemas u (trees_of_list (map (unfold_named schemas table depth element) ordinals))
  elements_fit element u is [] can apart = tt
  elements_fit element u is (ordinal ∷ ordinals) can apart = (
    at_type (λ t. FitsTree schemas t (unfold_named schemas table depth element ordinal)) (index_of_type schemas element) u is (each element ordinal (All-head (CanPrint schemas table depth element) ordinal ordinals can) apart.0),
    elements_fit element u is ordinals (All-tail (CanPrint schemas table depth element) ordinal ordinals can) apart.1,
  )

  entries_fit : (key value : Name) (k v : ℕ) → index_of_type schemas key ≡ Some k → index_of_type schemas value ≡ Some v → (pairs : List (ℕ × ℕ)) → All (CanPrintPair schemas table depth key value) pairs
      → HaveKeysApartEach (pairs_of_list (map (λ pair. (unfold_named schemas table depth key pair.0, unfold_named schemas table depth value pair.1)) pairs))
      → FitPairs schemas (k, v) (pairs_of_list (map (λ pair. (unfold_named schemas table depth key pair.0, unfold_named schemas table depth value pair.1)) pairs))
  entries_fit key value k v is_key is_value [] can apart = tt
  entries_fit key value k v is_key is_value (pair ∷ pairs) can apart =
      let both = All-head (CanPrintPair schemas table depth key value) pair pairs can in (
        at_type (λ t. FitsTree schemas t (unfold_named schemas table depth key pair.0)) (index_of_type schemas key) k is_key (each key pair.0 both.0 apart.0),
        at_type (λ t. FitsTree schemas t (unfold_named schemas table depth value pair.1)) (index_of_type schemas value) v is_value (each value pair.1 both.1 apart.1),
        entries_fit key value k v is_key is_value pairs (All-tail (CanPrintPair schemas table depth key value) pair pairs can) apart.2,
      )

  shape_fits : (shape : Shape) (row : Row) → AreNamed schemas shape → FitsShape shape row → All (λ named. CanPrint schemas table depth named.0 named.1) (references_of_row shape row)
      → HasKeysApart (tree_of_row (unfold_named schemas table depth) shape row) → FitsShaped schemas shape (tree_of_row (unfold_named schemas table depth) shape row)
  shape_fits (Shape.Object key fields) (Row.Object values) named fits can apart =
      values_fit fields values (sym (AllZip-long (λ field value. FitsKind field.kind value) fields values fits))
      (values_can schemas table depth (Shape.Object key fields) (Row.Object values) fits can key fields fields values values refl refl refl refl) apart
  shape_fits (Shape.List element) (Row.List ordinals) named fits can apart =
      let found = some_type (index_of_type schemas element) (λ e. named (0, element, omega arith, refl, e)) in
      some_and (λ u. FitAll schemas u (trees_of_list (map (unfold_named schemas table depth element) ordinals))) (index_of_type schemas element) found.0 found.1
      (elements_fit element found.0 found.1 ordinals (ordinals_can schemas table depth (Shape.List element) (Row.List ordinals) fits can element ordinals ordinals refl refl) apart)
  shape_fits (Shape.Set element) (Row.Set ordinals) named fits can apart =
      let found = some_type (index_of_type schemas element) (λ e. named (0, element, omega arith, refl, e)) in
      some_and (λ u. FitAll schemas u (trees_of_list (map (unfold_named schemas table depth element) ordinals))) (index_of_type schemas element) found.0 found.1
      (elements_fit element found.0 found.1 ordinals (ordinals_can schemas table depth (Shape.Set element) (Row.Set ordinals) fits can element ordinals ordinals refl refl) apart)
  shape_fits (Shape.Map key value) (Row.Map pairs) named fits can apart =
      let k = some_type (index_of_type schemas key) (λ e. named (0, key, omega arith, refl, e)) in
      let v = some_type (index_of_type schemas value) (λ e. named (1, value, omega arith, refl, e)) in (
        some_and (λ types. FitPairs schemas types (pairs_of_list (map (λ pair. (unfold_named schemas table depth key pair.0, unfold_named schemas table depth value pair.1)) pairs)))
            (map_types schemas (Shape.Map key value)) (k.0, v.0) (pairs_of_types schemas key value k.0 v.0 k.1 v.1)
            (entries_fit key value k.0 v.0 k.1 v.1 pairs (pairs_can schemas table depth (Shape.Map key value) (Row.Map pairs) fits can key value pairs pairs refl refl refl) apart.1),
        apart.0,
      )
  shape_fits shape row named fits can apart = absurd fits

-- ---- by induction on how deep the type may be

live_row : (o : Option Row) → IsSome o → (row : Row) × (o ≡ Some row)
live_row None live = absurd cc
live_row (Some row) live = (row, refl)

past_end : {A : Type 0} (xs : List A) (i : ℕ) → slice_get xs i ≡ None → length xs ≤ i
past_end xs i none = elim (slice_get_cases xs i).1 [ inl there ↦ absurd (let e : Some there.0 ≡ None = sym there.2 ∙ none in cc) | inr past ↦ past.0 ]

pub known_type : (schemas : List Schema) (table : Table) (t ordinal : ℕ) → IsTableOf schemas table → IsLive table t ordinal → (schema : Schema) × (slice_get schemas t ≡ Some schema)
known_type schemas table t ordinal fits live = found (slice_get schemas t) refl
  where
    none_there : slice_get schemas t ≡ None → ⊥
    none_there none =
        let past = past_end schemas t none in
        let same = fits.types in
        let empty : slice_get table t ≡ None = slice_get_past table t (omega (arith, same, past)) in
        let row = live_row (row_at table t ordinal) live in
        let dead : row_at table t ordinal ≡ None = ap (option_and_then (λ rows. get rows ordinal)) empty in
        absurd (let e : Some row.0 ≡ None = sym row.1 ∙ dead in cc)

    found : (o : Option Schema) → slice_get schemas t ≡ o → (schema : Schema) × (slice_get schemas t ≡ Some schema)
    found None is = absurd (none_there is)
    found (Some schema) is = (schema, is)

named_fits : (schemas : List Schema) (table : Table) (depth ordinal : ℕ)
    → ((t : ℕ) → IsLive table t ordinal → IsShallow schemas depth t → HasKeysApart (unfold_within schemas table depth t ordinal) → FitsTree schemas t (unfold_within schemas table depth t ordinal))
    → (type : Option ℕ) → IsSomeAnd type (λ t. IsLive table t ordinal × IsShallow schemas depth t) → HasKeysApart (tree_of_type type (λ u. unfold_within schemas table depth u ordinal))
    → IsSomeAnd type (λ t. FitsTree schemas t (tree_of_type type (λ u. unfold_within schemas table depth u ordinal)))
named_fits schemas table depth ordinal each None can apart = absurd can
named_fits schemas table depth ordinal each (Some t) can apart = each t can.0 can.1 apart

pub within_fits : (schemas : List Schema) (table : Table) → IsModel schemas → IsTableOf schemas table → IsClosed schemas table
    → (depth t ordinal : ℕ) → IsLive table t ordinal → IsShallow schemas depth t → HasKeysApart (unfold_within schemas table depth t ordinal) → FitsTree schemas t (unfold_within schemas table depth t ordinal)
within_fits schemas table model fits closed zero t ordinal live shallow apart =
    let (schema, found) = known_type schemas table t ordinal fits live in
    absurd (let none = deep_enough schemas 0 t (slice_get_within schemas t schema found) shallow in omega (arith, none))
within_fits schemas table model fits closed (suc depth) t ordinal live shallow apart =
    let (schema, found) = known_type schemas table t ordinal fits live in
    let (row, at) = live_row (row_at table t ordinal) live in
    let shaped : IsSomeAnd (slice_get schemas t) (λ (s : Schema). s.shape ≡ schema.shape) = subst (λ o. IsSomeAnd o (λ (s : Schema). s.shape ≡ schema.shape)) (sym found) refl in
    let tree : unfold_within schemas table (suc depth) t ordinal ≡ tree_of_row (unfold_named schemas table depth) schema.shape row =
    ap (λ o. tree_of_live (unfold_named schemas table depth) o (row_at table t ordinal)) found ∙ ap (tree_of_live (unfold_named schemas table depth) (Some schema)) at in
    subst (FitsTree schemas t) (sym tree)
    (of_shape schemas t schema (tree_of_row (unfold_named schemas table depth) schema.shape row) found
    (shape_fits schemas table depth
    (λ name named can keys. named_fits schemas table depth named (λ u there. within_fits schemas table model fits closed depth u named there) (index_of_type schemas name) can keys)
    schema.shape row (λ unknown. model UnknownType t (schema, found, unknown))
    (row_fits schemas table depth t ordinal schema.shape row fits shaped at)
    (row_reached schemas table depth t ordinal schema.shape row closed shallow shaped at)
    (subst HasKeysApart tree apart)))
