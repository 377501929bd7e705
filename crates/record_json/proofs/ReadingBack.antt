-- A tree that fits its type is read back from what it prints as.
use Rattle.std.proofs.Common.{◌≡◌, ℕ, zero, suc, ◌∙◌, refl, sym, ap, subst, List, [], ◌∷◌, length, zip, get_or, slice_get, Option, Some, None, Result, Ok, Err, arith}
use Rattle.std.specs.Prelude.{IsSomeAnd, option_and_then, option_map}
use Rattle.std.specs.List.{AllZip}
use Rattle.std.proofs.lemmas.Bool.{cond-true}
use Rattle.std.proofs.lemmas.List.Elements.{All-map}
use Rattle.std.proofs.lemmas.Option.{slice_get-get_or}
use Rattle.std.proofs.lemmas.Slice.Zip.{AllZip-long}
use Rattle.serde_json.specs.Data.{Data, null, array, object as object_data, no_members, item, no_items}
use Rattle.serde_json.specs.Find.{get}
use Rattle.serde_json.specs.View.{items_of}
use Rattle.schema_model.specs.declared.schema.name.Name.{Name}
use Rattle.schema_model.specs.declared.schema.Field.{Field}
use Rattle.schema_model.specs.declared.schema.FieldKind.{FieldKind}
use Rattle.schema_model.specs.declared.schema.Schema.{Schema}
use Rattle.schema_model.specs.declared.schema.Shape.{Shape}
use Rattle.row_model.specs.declared.row.Value.{Value}
use Rattle.schema_model.specs.declared.model.rule.Rule.TheVariants.{DuplicateName}
use Rattle.schema_model.specs.declared.reason.Reason.{Reason}
use Rattle.schema_model.specs.declared.reason.Reason.TheVariants.{UnknownField}
use Rattle.schema_model.specs.Model.{IsModel}
use Rattle.schema_model.specs.Parts.{field_names, fields_of, index_of_type, shape_fields}
use Rattle.row_model.specs.PlainTree.{PlainTree, PlainTrees, PlainPairs, leaf, object, list, set, map as map_tree, no_trees, tree_then, no_pairs, pair_then, list_of_trees, list_of_pairs, pairs_of_list, trees_of_list}
use Rattle.schema_model.proofs.Ways.{one_field}
use Rattle.record_trees.specs.FitsTree.{AreKeysApart, FitAll, FitFields, FitPairs, FitsLeaf, FitsTree, IsLeafOr}
use Rattle.record_trees.specs.Types.{list_element, map_types, object_fields, referred, set_element}
use Rattle.record_trees.proofs.Deciding.{keys_apart_or_not}
use Rattle.json_values.specs.ReadValue.{before, read_each}
use Rattle.json_rows.specs.StoredRow.{members_of_fields}
use Rattle.record_json.specs.InRange.{ArePairsInRange, AreTreesInRange, IsTreeInRange}
use Rattle.record_json.specs.NamesApart.{AreNamesApart}
use Rattle.record_json.specs.PrintTree.{PrintsAt, PrintsField, PrintsFields, PrintsPair, PrintsShape, PrintsTyped, PrintsWithin}
use Rattle.record_json.specs.ReadTree.{are_fields, key_then, made, read_at, read_field, read_fields, read_map, read_members, read_pair, read_present, read_reference, read_shape, read_typed, read_within}
use Rattle.record_json.proofs.FieldsBack.{each_found, members_known_all}
use Rattle.record_json.proofs.PrintingFronts.{length_zipped}
use Rattle.record_json.proofs.TreeParts.{keys_apart}
use Rattle.record_json.proofs.ValuesBack.{value_back}

-- ---- lists and their trees

trees_again : (trees : PlainTrees) → trees_of_list (list_of_trees trees) ≡ trees
trees_again no_trees = refl
trees_again (tree_then tree trees) = ap (tree_then tree) (trees_again trees)

pairs_again : (pairs : PlainPairs) → pairs_of_list (list_of_pairs pairs) ≡ pairs
pairs_again no_pairs = refl
pairs_again (pair_then key value pairs) = ap (pair_then key value) (pairs_again pairs)

before_both : {A : Type 0} (first : Result A Reason) (rest : Result (List A) Reason) (x : A) (xs : List A) → first ≡ Ok x → rest ≡ Ok xs → before first rest ≡ Ok (x ∷ xs)
before_both first rest x xs one others = λ i. before (one i) (others i)

-- ---- elements and pairs, where each is read back

all_back : (schemas : List Schema) (t : ℕ) (Prints : PlainTree → Data → Type 0) (read : Data → Result PlainTree Reason)
    → ((tree : PlainTree) (printed : Data) → FitsTree schemas t tree → IsTreeInRange tree → Prints tree printed → read printed ≡ Ok tree)
    → (trees : PlainTrees) (parts : List Data) → FitAll schemas t trees → AreTreesInRange trees → AllZip Prints (list_of_trees trees) parts → read_each read (items_of parts) ≡ Ok (list_of_trees trees)
all_back schemas t Prints read each no_trees [] fits range all = refl
all_back schemas t Prints read each no_trees (part ∷ parts) fits range all = absurd all
all_back schemas t Prints read each (tree_then tree trees) [] fits range all = absurd all
all_back schemas t Prints read each (tree_then tree trees) (part ∷ parts) fits range all =
    before_both (read part) (read_each read (items_of parts)) tree (list_of_trees trees) (each tree part fits.0 range.0 all.0) (all_back schemas t Prints read each trees parts fits.1 range.1 all.1)

pair_back : (read_key read_part : Data → Result PlainTree Reason) (key value : PlainTree) (first second printed : Data) → read_key first ≡ Ok key → read_part second ≡ Ok value → printed ≡ array (item first (item second no_items))
    → read_pair read_key read_part printed ≡ Ok (key, value)
pair_back read_key read_part key value first second printed one two is = ap (read_pair read_key read_part) is ∙ (λ i. key_then (one i) (two i))

-- what the names of types and JSON give is what was printed, for trees that fit
record IsReadBack (schemas : List Schema) (Follow : Name → PlainTree → Data → Type 0) (follow : Name → Data → Result PlainTree Reason) : Type 0 where
  pub back : (name : Name) (tree : PlainTree) (printed : Data) → IsSomeAnd (index_of_type schemas name) (λ t. FitsTree schemas t tree) → IsTreeInRange tree → Follow name tree printed → follow name printed ≡ Ok tree
  pub some : (name : Name) (tree : PlainTree) → Follow name tree null → ⊥

-- the schema of a type gives what its trees fit
abbrev pub FitsShaped : List Schema → Shape → PlainTree → Type 0
FitsShaped schemas shape (leaf value) = ⊥
FitsShaped schemas shape (object trees) = IsSomeAnd (object_fields shape) (λ fields. FitFields schemas fields trees)
FitsShaped schemas shape (list trees) = IsSomeAnd (list_element schemas shape) (λ element. FitAll schemas element trees)
FitsShaped schemas shape (set trees) = IsSomeAnd (set_element schemas shape) (λ element. FitAll schemas element trees)
FitsShaped schemas shape (map_tree pairs) = IsSomeAnd (map_types schemas shape) (λ types. FitPairs schemas types pairs) × AreKeysApart pairs

of_type : (schemas : List Schema) (t : ℕ) (schema : Schema) (tree : PlainTree) → slice_get schemas t ≡ Some schema → FitsTree schemas t tree → FitsShaped schemas schema.shape tree
of_type schemas t schema (leaf value) found fits = absurd fits
of_type schemas t schema (object trees) found fits = subst (λ o. IsSomeAnd (option_and_then object_fields (option_map (λ (s : Schema). s.shape) o)) (λ fields. FitFields schemas fields trees)) found fits
of_type schemas t schema (list trees) found fits = subst (λ o. IsSomeAnd (option_and_then (list_element schemas) (option_map (λ (s : Schema). s.shape) o)) (λ element. FitAll schemas element trees)) found fits
of_type schemas t schema (set trees) found fits = subst (λ o. IsSomeAnd (option_and_then (set_element schemas) (option_map (λ (s : Schema). s.shape) o)) (λ element. FitAll schemas element trees)) found fits
of_type schemas t schema (map_tree pairs) found fits =
    (subst (λ o. IsSomeAnd (option_and_then (map_types schemas) (option_map (λ (s : Schema). s.shape) o)) (λ types. FitPairs schemas types pairs)) found fits.0, fits.1)

module _ (schemas : List Schema) (Follow : Name → PlainTree → Data → Type 0) (follow : Name → Data → Result PlainTree Reason) (reads : IsReadBack schemas Follow follow) where
  -- ---- fields

  reference_back : (name : Name) (tree : PlainTree) (printed : Data) → IsSomeAnd (index_of_type schemas name) (λ t. FitsTree schemas t tree) → IsTreeInRange tree → Follow name tree printed
      → read_reference follow name printed ≡ Ok tree
  reference_back name tree null fits range prints = absurd (reads.some name tree prints)
  reference_back name tree printed fits range prints = reads.back name tree printed fits range prints

  leaf_back : (kind : FieldKind) (value : Value) (printed : Data) → FitsLeaf kind value → IsTreeInRange (leaf value) → PrintsField Follow kind (leaf value) printed → read_present follow kind printed ≡ Ok (leaf value)
  leaf_back (FieldKind.Reference name) Value.Null printed fits range prints = ap (read_reference follow name) prints
  leaf_back (FieldKind.Reference name) value printed fits range prints = absurd fits
  leaf_back kind value printed fits range prints = ap (made leaf) (value_back kind value printed fits range prints)

  present_back : (kind : FieldKind) (tree : PlainTree) (printed : Data) → IsLeafOr tree (FitsLeaf kind) (IsSomeAnd (referred schemas kind) (λ t. FitsTree schemas t tree)) → IsTreeInRange tree
      → PrintsField Follow kind tree printed → read_present follow kind printed ≡ Ok tree
  present_back kind (leaf value) printed fits range prints = leaf_back kind value printed fits range prints
  present_back (FieldKind.Reference name) (object trees) printed fits range prints = reference_back name (object trees) printed fits range prints
  present_back (FieldKind.Reference name) (list trees) printed fits range prints = reference_back name (list trees) printed fits range prints
  present_back (FieldKind.Reference name) (set trees) printed fits range prints = reference_back name (set trees) printed fits range prints
  present_back (FieldKind.Reference name) (map_tree pairs) printed fits range prints = reference_back name (map_tree pairs) printed fits range prints
  present_back kind tree printed fits range prints = absurd prints

  fields_back : (fields : List Field) (trees : PlainTrees) (parts : List Data) (value : Data) → FitFields schemas fields trees → AreTreesInRange trees
      → AllZip (λ (valued : Field × PlainTree) part. PrintsField Follow valued.0.kind valued.1 part) (zip fields (list_of_trees trees)) parts
      → AllZip (λ (field : Field) part. get field.name value ≡ Some part) fields parts → read_fields follow fields value ≡ Ok (list_of_trees trees)
  fields_back [] no_trees parts value fits range prints found = refl
  fields_back [] (tree_then tree trees) parts value fits range prints found = absurd fits
  fields_back (field ∷ fields) no_trees parts value fits range prints found = absurd cc
  fields_back (field ∷ fields) (tree_then tree trees) [] value fits range prints found = absurd prints
  fields_back (field ∷ fields) (tree_then tree trees) (part ∷ parts) value fits range prints found =
      before_both (read_field follow field.kind (get field.name value)) (read_fields follow fields value) tree (list_of_trees trees)
      (ap (read_field follow field.kind) found.0 ∙ present_back field.kind tree part fits.0 range.0 prints.0) (fields_back fields trees parts value fits.1 range.1 prints.1 found.1)

  record_back : (fields : List Field) (trees : PlainTrees) (parts : List Data) → AreNamesApart (field_names fields) → FitFields schemas fields trees → AreTreesInRange trees → PrintsFields Follow fields (list_of_trees trees) parts
      → read_members follow fields (members_of_fields (zip (field_names fields) parts)) ≡ Ok (object trees)
  record_back fields trees parts apart fits range prints =
      let shown = members_of_fields (zip (field_names fields) parts) in
      let long : length parts ≡ length fields =
      AllZip-long (λ (valued : Field × PlainTree) part. PrintsField Follow valued.0.kind valued.1 part) (zip fields (list_of_trees trees)) parts prints.printed
      ∙ length_zipped fields (list_of_trees trees) (sym prints.each) ∙ prints.each in
      cond-true (are_fields fields shown) (made (λ ts. object (trees_of_list ts)) (read_fields follow fields (object_data shown))) (Err UnknownField) (members_known_all fields parts)
      ∙ ap (made (λ ts. object (trees_of_list ts))) (fields_back fields trees parts (object_data shown) fits range prints.printed (each_found fields parts no_members apart long))
      ∙ ap (λ ts. Ok (object ts)) (trees_again trees)

  -- ---- elements and pairs

  elements_back : (element : Name) (trees : PlainTrees) (parts : List Data) → (type : Option ℕ) → index_of_type schemas element ≡ type → IsSomeAnd type (λ t. FitAll schemas t trees) → AreTreesInRange trees
      → AllZip (Follow element) (list_of_trees trees) parts → read_each (follow element) (items_of parts) ≡ Ok (list_of_trees trees)
  elements_back element trees parts None is fits range all = absurd fits
  elements_back element trees parts (Some t) is fits range all =
      all_back schemas t (Follow element) (follow element)
      (λ tree printed fit in_range prints. reads.back element tree printed (subst (λ o. IsSomeAnd o (λ u. FitsTree schemas u tree)) (sym is) fit) in_range prints) trees parts fits range all

  entries_back : (key value : Name) (k v : ℕ) → index_of_type schemas key ≡ Some k → index_of_type schemas value ≡ Some v → (pairs : PlainPairs) (parts : List Data) → FitPairs schemas (k, v) pairs → ArePairsInRange pairs
      → AllZip (PrintsPair Follow key value) (list_of_pairs pairs) parts → read_each (read_pair (follow key) (follow value)) (items_of parts) ≡ Ok (list_of_pairs pairs)
  entries_back key value k v of_key of_value no_pairs [] fits range all = refl
  entries_back key value k v of_key of_value no_pairs (part ∷ parts) fits range all = absurd all
  entries_back key value k v of_key of_value (pair_then first second pairs) [] fits range all = absurd all
  entries_back key value k v of_key of_value (pair_then first second pairs) (part ∷ parts) (fits_key, fits_value, fits) (range_key, range_value, range) ((one, two, prints_key, prints_value, is), all) =
      before_both (read_pair (follow key) (follow value) part) (read_each (read_pair (follow key) (follow value)) (items_of parts)) (first, second) (list_of_pairs pairs)
      (pair_back (follow key) (follow value) first second one two part
      (reads.back key first one (subst (λ o. IsSomeAnd o (λ u. FitsTree schemas u first)) (sym of_key) fits_key) range_key prints_key)
      (reads.back value second two (subst (λ o. IsSomeAnd o (λ u. FitsTree schemas u second)) (sym of_value) fits_value) range_value prints_value) is)
      (entries_back key value k v of_key of_value pairs parts fits range all)

  pairs_back : (key value : Name) (pairs : PlainPairs) (parts : List Data) → (k v : Option ℕ) → index_of_type schemas key ≡ k → index_of_type schemas value ≡ v
      → IsSomeAnd (option_and_then (λ x. option_map (λ y. (x, y)) v) k) (λ (types : ℕ × ℕ). FitPairs schemas types pairs) → ArePairsInRange pairs
      → AllZip (PrintsPair Follow key value) (list_of_pairs pairs) parts → read_each (read_pair (follow key) (follow value)) (items_of parts) ≡ Ok (list_of_pairs pairs)
  pairs_back key value pairs parts None v of_key of_value fits range all = absurd fits
  pairs_back key value pairs parts (Some k) None of_key of_value fits range all = absurd fits
  pairs_back key value pairs parts (Some k) (Some v) of_key of_value fits range all = entries_back key value k v of_key of_value pairs parts fits range all

  map_back : (pairs : PlainPairs) (read : Result (List (PlainTree × PlainTree)) Reason) → AreKeysApart pairs → read ≡ Ok (list_of_pairs pairs) → read_map read ≡ Ok (map_tree pairs)
  map_back pairs read apart is =
      let again = pairs_again pairs in
      ap read_map is
      ∙ keys_apart (pairs_of_list (list_of_pairs pairs)) (keys_apart_or_not (pairs_of_list (list_of_pairs pairs))) (subst AreKeysApart (sym again) apart)
      ∙ ap (λ ps. Ok (map_tree ps)) again

  -- ---- the record of a type

  shape_back : (shape : Shape) (tree : PlainTree) (printed : Data) → ((key : Option (List Name)) (fields : List Field) → shape ≡ Shape.Object key fields → AreNamesApart (field_names fields)) → FitsShaped schemas shape tree
      → IsTreeInRange tree → PrintsShape Follow shape tree printed → read_shape follow shape printed ≡ Ok tree
  shape_back (Shape.Object key fields) (object trees) printed apart fits range (parts, prints, is) = ap (read_shape follow (Shape.Object key fields)) is ∙ record_back fields trees parts (apart key fields refl) fits range prints
  shape_back (Shape.List element) (list trees) printed apart fits range (parts, all, is) =
      ap (read_shape follow (Shape.List element)) is
      ∙ ap (made (λ ts. list (trees_of_list ts))) (elements_back element trees parts (index_of_type schemas element) refl fits range all) ∙ ap (λ ts. Ok (list ts)) (trees_again trees)
  shape_back (Shape.Set element) (set trees) printed apart fits range (parts, all, is) =
      ap (read_shape follow (Shape.Set element)) is
      ∙ ap (made (λ ts. set (trees_of_list ts))) (elements_back element trees parts (index_of_type schemas element) refl fits range all) ∙ ap (λ ts. Ok (set ts)) (trees_again trees)
  shape_back (Shape.Map key value) (map_tree pairs) printed apart fits range (parts, all, is) =
      ap (read_shape follow (Shape.Map key value)) is
      ∙ map_back pairs (read_each (read_pair (follow key) (follow value)) (items_of parts)) fits.1 (pairs_back key value pairs parts (index_of_type schemas key) (index_of_type schemas value) refl refl fits.0 range all)
  shape_back shape tree printed apart fits range prints = absurd prints

-- ---- the names of the fields of a type of a model are apart

names_apart : (fields : List Field) → ((i j : ℕ) (f g : Field) → slice_get fields i ≡ Some f → slice_get fields j ≡ Some g → f.name ≡ g.name → i ≡ j) → AreNamesApart (field_names fields)
names_apart [] once = tt
names_apart (field ∷ fields) once = (
  All-map (λ other. field.name ≡ other → ⊥) (λ (other : Field). other.name) fields
      (λ k d inside same. let e = once 0 (suc k) field (get_or fields k d) refl (slice_get-get_or fields k d inside) same in omega (arith, e)),
  names_apart fields (λ i j f g first second same. let e = once (suc i) (suc j) f g first second same in omega (arith, e)),
)

pub model_apart : (schemas : List Schema) (t : ℕ) (schema : Schema) → IsModel schemas → slice_get schemas t ≡ Some schema → (key : Option (List Name)) (fields : List Field) → schema.shape ≡ Shape.Object key fields → AreNamesApart (field_names fields)
model_apart schemas t schema model found key fields is =
    let own : fields_of schema ≡ fields = ap (λ (s : Shape). shape_fields s) is in
    subst (λ fs. AreNamesApart (field_names fs)) own
    (names_apart (fields_of schema) (λ i j f g first second same. one_field schemas t i j f g (model DuplicateName) (schema, found, first) (schema, found, second) same))

-- ---- a record is no null

none_null : (Follow : Name → PlainTree → Data → Type 0) (shape : Shape) (tree : PlainTree) → PrintsShape Follow shape tree null → ⊥
none_null Follow (Shape.Object key fields) (object trees) (parts, prints, is) = cc
none_null Follow (Shape.List element) (list trees) (parts, all, is) = cc
none_null Follow (Shape.Set element) (set trees) (parts, all, is) = cc
none_null Follow (Shape.Map key value) (map_tree pairs) (parts, all, is) = cc
none_null Follow shape tree prints = prints

typed_null : (Follow : Name → PlainTree → Data → Type 0) (schema : Option Schema) (tree : PlainTree) → PrintsTyped Follow schema tree null → ⊥
typed_null Follow None tree prints = prints
typed_null Follow (Some schema) tree prints = none_null Follow schema.shape tree prints

within_null : (schemas : List Schema) (depth t : ℕ) (tree : PlainTree) → PrintsWithin schemas depth t tree null → ⊥
within_null schemas zero t tree prints = prints
within_null schemas (suc depth) t tree prints = typed_null (λ name part. PrintsAt (PrintsWithin schemas depth) (index_of_type schemas name) part) (slice_get schemas t) tree prints

at_null : (schemas : List Schema) (depth : ℕ) (type : Option ℕ) (tree : PlainTree) → PrintsAt (PrintsWithin schemas depth) type tree null → ⊥
at_null schemas depth None tree prints = prints
at_null schemas depth (Some t) tree prints = within_null schemas depth t tree prints

-- ---- by induction on how deep the type may be

typed_back : (schemas : List Schema) (Follow : Name → PlainTree → Data → Type 0) (follow : Name → Data → Result PlainTree Reason) → IsReadBack schemas Follow follow → IsModel schemas
    → (t : ℕ) (schema : Option Schema) (tree : PlainTree) (printed : Data) → slice_get schemas t ≡ schema → FitsTree schemas t tree → IsTreeInRange tree → PrintsTyped Follow schema tree printed → read_typed follow schema printed ≡ Ok tree
typed_back schemas Follow follow reads model t None tree printed found fits range prints = absurd prints
typed_back schemas Follow follow reads model t (Some schema) tree printed found fits range prints =
    shape_back schemas Follow follow reads schema.shape tree printed (model_apart schemas t schema model found) (of_type schemas t schema tree found fits) range prints

at_back : (schemas : List Schema) (Prints : ℕ → PlainTree → Data → Type 0) (read : ℕ → Data → Result PlainTree Reason)
    → ((t : ℕ) (tree : PlainTree) (printed : Data) → FitsTree schemas t tree → IsTreeInRange tree → Prints t tree printed → read t printed ≡ Ok tree)
    → (type : Option ℕ) (tree : PlainTree) (printed : Data) → IsSomeAnd type (λ t. FitsTree schemas t tree) → IsTreeInRange tree → PrintsAt Prints type tree printed → read_at read type printed ≡ Ok tree
at_back schemas Prints read each None tree printed fits range prints = absurd fits
at_back schemas Prints read each (Some t) tree printed fits range prints = each t tree printed fits range prints

pub within_back : (schemas : List Schema) → IsModel schemas → (depth t : ℕ) (tree : PlainTree) (printed : Data) → FitsTree schemas t tree → IsTreeInRange tree → PrintsWithin schemas depth t tree printed
    → read_within schemas depth t printed ≡ Ok tree
within_back schemas model zero t tree printed fits range prints = absurd prints
within_back schemas model (suc depth) t tree printed fits range prints =
    typed_back schemas (λ name part. PrintsAt (PrintsWithin schemas depth) (index_of_type schemas name) part) (λ name part. read_at (read_within schemas depth) (index_of_type schemas name) part)
    record {
      back = λ name part shown fit in_range shows. at_back schemas (PrintsWithin schemas depth) (read_within schemas depth) (within_back schemas model depth) (index_of_type schemas name) part shown fit in_range shows;
      some = λ name part shows. at_null schemas depth (index_of_type schemas name) part shows;
    } model t (slice_get schemas t) tree printed refl fits range prints
