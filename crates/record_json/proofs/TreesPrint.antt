-- The record of a live row of a closed table prints as some JSON data; and what the parts of a row print as is told from what it prints as.
use Rattle.std.proofs.Common.{◌≡◌, ◌∙◌, ℕ, zero, suc, ◌+◌, List, [], ◌∷◌, length, map, zip, Option, None, Some, Result, inl, inr, refl, sym, ap, subst, arith, slice_get}
use Rattle.std.specs.Prelude.{All, IsSome, IsSomeAnd}
use Rattle.std.specs.List.{AllZip}
use Rattle.std.proofs.lemmas.List.Elements.{All-head, All-tail}
use Rattle.std.proofs.lemmas.Option.{slice_get_within}
use Rattle.std.proofs.lemmas.Slice.Zip.{AllZip-long}
use Rattle.serde_json.specs.Data.{Data, null, array, object as object_data, no_items, item}
use Rattle.serde_json.specs.View.{items_of}
use Rattle.schema_model.specs.declared.model.rule.Rule.TheVariants.{TooDeep}
use Rattle.schema_model.specs.declared.schema.name.Name.{Name}
use Rattle.schema_model.specs.declared.schema.Field.{Field}
use Rattle.schema_model.specs.declared.schema.FieldKind.{FieldKind}
use Rattle.schema_model.specs.declared.schema.Schema.{Schema}
use Rattle.schema_model.specs.declared.schema.Shape.{Shape}
use Rattle.schema_model.specs.Model.{IsModel}
use Rattle.schema_model.specs.Parts.{field_names, index_of_type}
use Rattle.schema_model.proofs.Ways.{deep_enough}
use Rattle.row_model.specs.declared.row.Row.{Row}
use Rattle.row_model.specs.declared.row.Value.{Value}
use Rattle.row_model.specs.PlainTree.{PlainTree, leaf, object, list, set, map as map_tree, list_of_pairs, list_of_trees, pairs_of_list, trees_of_list}
use Rattle.row_model.specs.Row.{FitsKind, FitsShape, references_of_row}
use Rattle.row_model.specs.Table.{IsClosed, IsLive, IsTableOf, Table, row_at}
use Rattle.row_model.specs.Unfold.{tree_of_live, tree_of_row, tree_of_type, tree_of_value, unfold_within}
use Rattle.json_rows.specs.StoredRow.{IsValueData, members_of_fields}
use Rattle.json_rows.proofs.Printed.{value_prints}
use Rattle.record_json.specs.Printing.{CanPrint, CanPrintPair, CanPrintValue, IsShallow, PrintsNamed, unfold_named}
use Rattle.record_json.specs.PrintTree.{PrintsAt, PrintsField, PrintsFields, PrintsPair, PrintsReference, PrintsShape, PrintsTyped, PrintsWithin}
use Rattle.record_json.proofs.PrintingNames.{ordinals_can, pairs_can, reference_can, row_fits, row_reached, values_can}
use Rattle.record_json.proofs.PrintingRows.{reference_prints}
use Rattle.record_json.proofs.UnfoldingFits.{known_type}

-- ---- trees

pub trees_back : (trees : List PlainTree) → list_of_trees (trees_of_list trees) ≡ trees
trees_back [] = refl
trees_back (tree ∷ trees) = ap (λ rest. tree ∷ rest) (trees_back trees)

pub pairs_back : (pairs : List (PlainTree × PlainTree)) → list_of_pairs (pairs_of_list pairs) ≡ pairs
pairs_back [] = refl
pairs_back (pair ∷ pairs) = ap (λ rest. pair ∷ rest) (pairs_back pairs)

-- ---- the parts of a row, where the rows that it names print

module _ (schemas : List Schema) (table : Table) (depth : ℕ)
    (each : (name : Name) (ordinal : ℕ) → CanPrint schemas table depth name ordinal → (printed : Data) × PrintsNamed schemas depth name (unfold_named schemas table depth name ordinal) printed) where
  abbrev Follow : Name → PlainTree → Data → Type 0
  Follow = PrintsNamed schemas depth

  abbrev follow : Name → ℕ → PlainTree
  follow = unfold_named schemas table depth

  field_prints : (kind : FieldKind) (value : Value) → CanPrintValue schemas table depth kind value → (printed : Data) × PrintsField Follow kind (tree_of_value follow kind value) printed
  field_prints (FieldKind.Reference name) (Value.Ref ordinal) can =
      let (printed, prints) = each name ordinal (reference_can schemas table depth name ordinal (FieldKind.Reference name) (Value.Ref ordinal) refl refl can) in
      (printed, reference_prints schemas depth name (follow name ordinal) printed prints)
  field_prints (FieldKind.Reference name) Value.Null can = (null, refl)
  field_prints (FieldKind.Reference name) value can = absurd can.0
  field_prints FieldKind.Int value can = value_prints value
  field_prints FieldKind.Long value can = value_prints value
  field_prints FieldKind.Boolean value can = value_prints value
  field_prints FieldKind.Text value can = value_prints value
  field_prints FieldKind.Bytes value can = value_prints value

  -- the tree of the value of a field
  abbrev tree_at : Field × Value → PlainTree
  tree_at part = tree_of_value follow part.0.kind part.1

  trees_long : (fields : List Field) (values : List Value) → length fields ≡ length values → length (map tree_at (zip fields values)) ≡ length fields
  trees_long [] values long = refl
  trees_long (field ∷ fields) [] long = absurd (omega (arith, long))
  trees_long (field ∷ fields) (value ∷ values) long = ap suc (trees_long fields values (omega (arith, long)))

  values_print : (fields : List Field) (values : List Value) → length fields ≡ length values → All (λ valued. CanPrintValue schemas table depth valued.0.kind valued.1) (zip fields values)
      → (parts : List Data) × AllZip (λ (valued : Field × PlainTree) part. PrintsField Follow valued.0.kind valued.1 part) (zip fields (map tree_at (zip fields values))) parts
  values_print [] values long can = ([], tt)
  values_print (field ∷ fields) [] long can = absurd (omega (arith, long))
  values_print (field ∷ fields) (value ∷ values) long can =
      let Can : Field × Value → Type 0 = λ valued. CanPrintValue schemas table depth valued.0.kind valued.1 in
      let (printed, prints) = field_prints field.kind value (All-head Can (field, value) (zip fields values) can) in
      let (parts, rest) = values_print fields values (omega (arith, long)) (All-tail Can (field, value) (zip fields values) can) in
      (printed ∷ parts, (prints, rest))

  elements_print : (element : Name) (ordinals : List ℕ) → All (CanPrint schemas table depth element) ordinals → (parts : List Data) × AllZip (Follow element) (map (follow element) ordinals) parts
  elements_print element [] can = ([], tt)
  elements_print element (ordinal ∷ ordinals) can =
      let (printed, prints) = each element ordinal (All-head (CanPrint schemas table depth element) ordinal ordinals can) in
      let (parts, rest) = elements_print element ordinals (All-tail (CanPrint schemas table depth element) ordinal ordinals can) in
      (printed ∷ parts, (prints, rest))

  abbrev trees_of_pair : Name → Name → ℕ × ℕ → PlainTree × PlainTree
  trees_of_pair key value pair = (follow key pair.0, follow value pair.1)

  pairs_print : (key value : Name) (pairs : List (ℕ × ℕ)) → All (CanPrintPair schemas table depth key value) pairs → (parts : List Data) × AllZip (PrintsPair Follow key value) (map (trees_of_pair key value) pairs) parts
  pairs_print key value [] can = ([], tt)
  pairs_print key value (pair ∷ pairs) can =
      let both = All-head (CanPrintPair schemas table depth key value) pair pairs can in
      let (first, first_prints) = each key pair.0 both.0 in
      let (second, second_prints) = each value pair.1 both.1 in
      let (parts, rest) = pairs_print key value pairs (All-tail (CanPrintPair schemas table depth key value) pair pairs can) in
      (array (item first (item second no_items)) ∷ parts, ((first, second, first_prints, second_prints, refl), rest))

  shape_prints : (shape : Shape) (row : Row) → FitsShape shape row → All (λ named. CanPrint schemas table depth named.0 named.1) (references_of_row shape row) → (printed : Data) × PrintsShape Follow shape (tree_of_row follow shape row) printed
  shape_prints (Shape.Object key fields) (Row.Object values) fits can =
      let long = sym (AllZip-long (λ field value. FitsKind field.kind value) fields values fits) in
      let (parts, prints) = values_print fields values long (values_can schemas table depth (Shape.Object key fields) (Row.Object values) fits can key fields fields values values refl refl refl refl) in (
        object_data (members_of_fields (zip (field_names fields) parts)),
        (parts, subst (λ (trees : List PlainTree). PrintsFields Follow fields trees parts) (sym (trees_back (map tree_at (zip fields values)))) (record { each = trees_long fields values long; printed = prints }), refl),
      )
  shape_prints (Shape.List element) (Row.List ordinals) fits can =
      let (parts, prints) = elements_print element ordinals (ordinals_can schemas table depth (Shape.List element) (Row.List ordinals) fits can element ordinals ordinals refl refl) in
      (array (items_of parts), (parts, subst (λ (trees : List PlainTree). AllZip (Follow element) trees parts) (sym (trees_back (map (follow element) ordinals))) prints, refl))
  shape_prints (Shape.Set element) (Row.Set ordinals) fits can =
      let (parts, prints) = elements_print element ordinals (ordinals_can schemas table depth (Shape.Set element) (Row.Set ordinals) fits can element ordinals ordinals refl refl) in
      (array (items_of parts), (parts, subst (λ (trees : List PlainTree). AllZip (Follow element) trees parts) (sym (trees_back (map (follow element) ordinals))) prints, refl))
  shape_prints (Shape.Map key value) (Row.Map pairs) fits can =
      let (parts, prints) = pairs_print key value pairs (pairs_can schemas table depth (Shape.Map key value) (Row.Map pairs) fits can key value pairs pairs refl refl refl) in
      (array (items_of parts), (parts, subst (λ (trees : List (PlainTree × PlainTree)). AllZip (PrintsPair Follow key value) trees parts) (sym (pairs_back (map (trees_of_pair key value) pairs))) prints, refl))
  shape_prints shape row fits can = absurd fits

-- ---- by induction on how deep the type may be

pub live_row : (found : Option Row) → IsSome found → (row : Row) × (found ≡ Some row)
live_row None live = absurd cc
live_row (Some row) live = (row, refl)

named_prints : (schemas : List Schema) (table : Table) (depth ordinal : ℕ)
    → ((t : ℕ) → IsLive table t ordinal → IsShallow schemas depth t → (printed : Data) × PrintsWithin schemas depth t (unfold_within schemas table depth t ordinal) printed)
    → (found : Option ℕ) → IsSomeAnd found (λ t. IsLive table t ordinal × IsShallow schemas depth t)
    → (printed : Data) × PrintsAt (PrintsWithin schemas depth) found (tree_of_type found (λ u. unfold_within schemas table depth u ordinal)) printed
named_prints schemas table depth ordinal each None can = absurd can
named_prints schemas table depth ordinal each (Some t) can = each t can.0 can.1

-- the tree of a live row of a type
pub live_tree : (schemas : List Schema) (table : Table) (depth t ordinal : ℕ) (schema : Schema) (row : Row) → slice_get schemas t ≡ Some schema → row_at table t ordinal ≡ Some row
    → unfold_within schemas table (suc depth) t ordinal ≡ tree_of_row (unfold_named schemas table depth) schema.shape row
live_tree schemas table depth t ordinal schema row known there =
    ap (λ o. tree_of_live (unfold_named schemas table depth) o (row_at table t ordinal)) known ∙ ap (tree_of_live (unfold_named schemas table depth) (Some schema)) there

pub within_prints : (schemas : List Schema) (table : Table) → IsTableOf schemas table → IsClosed schemas table → (depth t ordinal : ℕ) → IsLive table t ordinal → IsShallow schemas depth t
    → (printed : Data) × PrintsWithin schemas depth t (unfold_within schemas table depth t ordinal) printed
within_prints schemas table fits closed zero t ordinal live shallow =
    let schema = known_type schemas table t ordinal fits live in
    let deep = deep_enough schemas 0 t (slice_get_within schemas t schema.0 schema.1) shallow in absurd (omega (arith, deep))
within_prints schemas table fits closed (suc depth) t ordinal live shallow =
    let (schema, known) = known_type schemas table t ordinal fits live in
    let (row, there) = live_row (row_at table t ordinal) live in
    let shaped : IsSomeAnd (slice_get schemas t) (λ (s : Schema). s.shape ≡ schema.shape) = subst (λ o. IsSomeAnd o (λ (s : Schema). s.shape ≡ schema.shape)) (sym known) refl in
    let (printed, prints) = shape_prints schemas table depth
    (λ name named can. named_prints schemas table depth named (λ u. within_prints schemas table fits closed depth u named) (index_of_type schemas name) can) schema.shape row
    (row_fits schemas table depth t ordinal schema.shape row fits shaped there) (row_reached schemas table depth t ordinal schema.shape row closed shallow shaped there) in (
      printed,
      subst (λ (o : Option Schema). PrintsTyped (PrintsNamed schemas depth) o (unfold_within schemas table (suc depth) t ordinal) printed) (sym known)
          (subst (λ (x : PlainTree). PrintsShape (PrintsNamed schemas depth) schema.shape x printed) (sym (live_tree schemas table depth t ordinal schema row known there)) prints),
    )
