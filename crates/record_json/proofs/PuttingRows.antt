-- What the parts of a row put as text is what the row puts, for its nodes.
use Rattle.std.proofs.Common.{◌≡◌, ◌∙◌, ℕ, zero, suc, ◌+◌, ◌-◌, ◌^◌, ◌<◌, ◌≤◌, inl, inr, List, [], ◌∷◌, ◌++◌, length, map, zip, slice_get, get_or, Option, Some, None, Result, Ok, Err, String, Global, refl, sym, ap, subst, arith}
use Rattle.std.specs.Prelude.{All, IfOk, IsSomeAnd, OnOk}
use Rattle.std.specs.List.{AllZip}
use Rattle.std.proofs.lemmas.List.{get_or_default}
use Rattle.std.proofs.lemmas.Slice.Zip.{AllZip-long}
use Rattle.std.proofs.lemmas.Option.{slice_get-get_or}
use Rattle.hol_varint.specs.Yields.{Yields}
use Rattle.serde_json.specs.Data.{Data, null, array, item, no_items, object as object_data}
use Rattle.serde_json.specs.View.{items_of}
use Rattle.serde_json.specs.Written.{compact_text}
use Rattle.schema_model.specs.declared.schema.name.Name.{Name}
use Rattle.schema_model.specs.declared.schema.Field.{Field}
use Rattle.schema_model.specs.declared.schema.FieldKind.{FieldKind}
use Rattle.schema_model.specs.declared.schema.Schema.{Schema}
use Rattle.schema_model.specs.declared.schema.Shape.{Shape}
use Rattle.schema_model.specs.declared.model.rule.Rule.TheVariants.{TooMany}
use Rattle.schema_model.specs.Model.{IsModel}
use Rattle.schema_model.specs.Parts.{field_names, fields_of, index_of_type, shape_fields}
use Rattle.json_rows.specs.FieldOrder.{Order}
use Rattle.record_json.specs.Forms.{IsFormOf}
use Rattle.record_json.specs.declared.forms.RecordForm.{RecordForm}
use Rattle.std.proofs.lemmas.Bool.{cases_lt}
use Rattle.record_json.proofs.PrintingNames.{values_can}
use Rattle.row_model.specs.declared.row.Row.{Row}
use Rattle.row_model.specs.declared.row.Value.{Value}
use Rattle.row_model.specs.Key.{ordinal_in, value_in}
use Rattle.row_model.specs.PlainTree.{PlainTree, leaf, object, list, set, map as map_tree, list_of_trees, list_of_pairs, node_count, node_count_of_trees, node_count_of_pairs, pairs_of_list, trees_of_list}
use Rattle.row_model.specs.Row.{FitsKind, FitsShape, references_of_row}
use Rattle.row_model.specs.Table.{IsClosed, IsLive, IsTableOf, Table, row_at}
use Rattle.row_model.specs.Unfold.{tree_of_row, tree_of_type, tree_of_value, unfold_within}
use Rattle.json_rows.specs.LineForm.{AreWholeLeads, text_at}
use Rattle.json_rows.specs.RowLine.{PutsAll}
use Rattle.json_rows.specs.StoredRow.{IsValueData, members_of_fields}
use Rattle.record_json.specs.PrintTree.{PrintsAt, PrintsField, PrintsFields, PrintsPair, PrintsReference, PrintsShape, PrintsTyped, PrintsWithin}
use Rattle.record_json.specs.Printing.{CanPrint, CanPrintValue, HasRecord, HasValue, IsShallow, PrintsItems, PrintsNamed, PrintsValued, TellsPut, count_of, count_pair, unfold_named}
use Rattle.record_json.specs.declared.print_fault.PrintFault.{PrintFault}
use Rattle.record_json.specs.declared.print_fault.PrintFault.TheVariants.{Nodes, Memory}
use Rattle.record_json.proofs.PrintingFronts.{zipped_at}
use Rattle.record_json.proofs.PrintingRows.{again, named_live, named_deep, pairs_count, trees_count}
use Rattle.record_json.proofs.PuttingTexts.{put_after, put_as}
use Rattle.record_json.proofs.TreesPrint.{live_row, live_tree, pairs_back, trees_back}
use Rattle.record_json.proofs.UnfoldingFits.{known_type}

-- ---- lists of parts

fields_told : (Follow : Name → PlainTree → Data → Type 0) (follow : Name → ℕ → PlainTree) (fields : List Field) (values : List Value) (parts : List Data) → length fields ≡ length values
    → AllZip (λ (valued : Field × PlainTree) part. PrintsField Follow valued.0.kind valued.1 part) (zip fields (map (λ (part : Field × Value). tree_of_value follow part.0.kind part.1) (zip fields values))) parts
    → AllZip (λ (valued : Field × Value) part. PrintsField Follow valued.0.kind (tree_of_value follow valued.0.kind valued.1) part) (zip fields values) parts
fields_told Follow follow [] values [] long each = tt
fields_told Follow follow [] values (part ∷ parts) long each = absurd each
fields_told Follow follow (field ∷ fields) [] parts long each = absurd (omega (arith, long))
fields_told Follow follow (field ∷ fields) (value ∷ values) [] long each = absurd each
fields_told Follow follow (field ∷ fields) (value ∷ values) (part ∷ parts) long each = (each.0, fields_told Follow follow fields values parts (omega (arith, long)) each.1)

mapped_told : {A B : Type 0} (Prints : B → Data → Type 0) (f : A → B) (xs : List A) (parts : List Data) → AllZip Prints (map f xs) parts → AllZip (λ x part. Prints (f x) part) xs parts
mapped_told Prints f [] [] each = tt
mapped_told Prints f [] (part ∷ parts) each = absurd each
mapped_told Prints f (x ∷ xs) [] each = absurd each
mapped_told Prints f (x ∷ xs) (part ∷ parts) each = (each.0, mapped_told Prints f xs parts each.1)

-- ---- the row of each shape

module _ (Follow : Name → PlainTree → Data → Type 0) (follow : Name → ℕ → PlainTree) (old new : List ℕ) (before between after : ℕ) (r : Result (Unit {0}) PrintFault) (one : between + 1 ≡ before) where
  abbrev pub Puts : Shape → Row → Type 0
  Puts shape row = TellsPut (PrintsShape Follow shape (tree_of_row follow shape row)) (node_count (tree_of_row follow shape row)) old new before after r

  pub moved_puts : (shape s : Shape) (row o : Row) → shape ≡ s → row ≡ o → Puts s o → Puts shape row
  moved_puts shape s row o shape_is row_is told = subst (λ x. Puts x row) (sym shape_is) (subst (Puts s) (sym row_is) told)

  pub record_puts : (key : Option (List Name)) (fields : List Field) (values : List Value) → length fields ≡ length values
      → TellsPut (PrintsValued Follow follow fields values) (count_of (λ valued. node_count (tree_of_value follow valued.0.kind valued.1)) (zip fields values)) old new between after r
      → Puts (Shape.Object key fields) (Row.Object values)
  record_puts key fields values long told =
      let tree_at : Field × Value → PlainTree = λ part. tree_of_value follow part.0.kind part.1 in
      put_after (PrintsValued Follow follow fields values) (PrintsShape Follow (Shape.Object key fields) (tree_of_row follow (Shape.Object key fields) (Row.Object values))) _ _ old new before between after r one
      (λ printed (parts, prints, is). (
        parts,
        fields_told Follow follow fields values parts long
            (subst (λ (trees : List PlainTree). AllZip (λ (valued : Field × PlainTree) part. PrintsField Follow valued.0.kind valued.1 part) (zip fields trees) parts) (trees_back (map tree_at (zip fields values))) prints.printed),
        is,
      )) (ap (λ n. 1 + n) (trees_count tree_at (zip fields values))) told

  pub list_puts : (element : Name) (ordinals : List ℕ)
      → TellsPut (PrintsItems (λ ordinal part. Follow element (follow element ordinal) part) ordinals) (count_of (λ ordinal. node_count (follow element ordinal)) ordinals) old new between after r
      → Puts (Shape.List element) (Row.List ordinals)
  list_puts element ordinals told =
      put_after (PrintsItems (λ ordinal part. Follow element (follow element ordinal) part) ordinals) (PrintsShape Follow (Shape.List element) (tree_of_row follow (Shape.List element) (Row.List ordinals))) _ _ old new before between after r one
      (λ printed (parts, each, is). (
        parts,
        mapped_told (Follow element) (follow element) ordinals parts (subst (λ (trees : List PlainTree). AllZip (Follow element) trees parts) (trees_back (map (follow element) ordinals)) each),
        is,
      )) (ap (λ n. 1 + n) (trees_count (follow element) ordinals)) told

  pub set_puts : (element : Name) (ordinals : List ℕ)
      → TellsPut (PrintsItems (λ ordinal part. Follow element (follow element ordinal) part) ordinals) (count_of (λ ordinal. node_count (follow element ordinal)) ordinals) old new between after r
      → Puts (Shape.Set element) (Row.Set ordinals)
  set_puts element ordinals told =
      put_after (PrintsItems (λ ordinal part. Follow element (follow element ordinal) part) ordinals) (PrintsShape Follow (Shape.Set element) (tree_of_row follow (Shape.Set element) (Row.Set ordinals))) _ _ old new before between after r one
      (λ printed (parts, each, is). (
        parts,
        mapped_told (Follow element) (follow element) ordinals parts (subst (λ (trees : List PlainTree). AllZip (Follow element) trees parts) (trees_back (map (follow element) ordinals)) each),
        is,
      )) (ap (λ n. 1 + n) (trees_count (follow element) ordinals)) told

  pub map_puts : (key value : Name) (pairs : List (ℕ × ℕ))
      → TellsPut (PrintsItems (λ pair part. PrintsPair Follow key value (follow key pair.0, follow value pair.1) part) pairs) (count_of (λ pair. count_pair (follow key pair.0, follow value pair.1)) pairs) old new between after r
      → Puts (Shape.Map key value) (Row.Map pairs)
  map_puts key value pairs told =
      let trees_of : ℕ × ℕ → PlainTree × PlainTree = λ pair. (follow key pair.0, follow value pair.1) in
      put_after (PrintsItems (λ pair part. PrintsPair Follow key value (follow key pair.0, follow value pair.1) part) pairs) (PrintsShape Follow (Shape.Map key value) (tree_of_row follow (Shape.Map key value) (Row.Map pairs))) _ _ old new before between after r one
      (λ printed (parts, each, is). (
        parts,
        mapped_told (PrintsPair Follow key value) trees_of pairs parts (subst (λ (trees : List (PlainTree × PlainTree)). AllZip (PrintsPair Follow key value) trees parts) (pairs_back (map trees_of pairs)) each),
        is,
      )) (ap (λ n. 1 + n) (pairs_count trees_of pairs)) told

pub zip_long : {A B : Type 0} (xs : List A) (ys : List B) → length xs ≡ length ys → length (zip xs ys) ≡ length xs
zip_long [] ys same = refl
zip_long (x ∷ xs) [] same = absurd (omega (arith, same))
zip_long (x ∷ xs) (y ∷ ys) same = ap suc (zip_long xs ys (omega (arith, same)))

-- what the members put behind their leads is the object
pub members_put : (Follow : Name → PlainTree → Data → Type 0) (follow : Name → ℕ → PlainTree) (fields : List Field) (values : List Value) (leads : List (String Global × ℕ)) (old new : List ℕ) → AreWholeLeads fields leads → length fields ≡ length values
    → ((printed : List Data) → AllZip (λ (valued : Field × Value) part. PrintsField Follow valued.0.kind (tree_of_value follow valued.0.kind valued.1) part) (zip fields values) printed → new ≡ old ++ 123 ∷ text_at leads printed (125 ∷ []))
    → PutsAll (PrintsValued Follow follow fields values) old new
members_put Follow follow fields values leads old new whole long puts printed (parts, each, is) =
    let parts_long : length parts ≡ length fields = AllZip-long _ (zip fields values) parts each ∙ zip_long fields values long in
    puts parts each ∙ ap (λ t. old ++ 123 ∷ t) (whole.texts.text parts parts_long) ∙ ap (λ d. old ++ compact_text d) (sym is)

-- ---- the values of a record

-- the record that is there is the one whose values can be printed
pub record_values : (schemas : List Schema) (table : Table) (depth : ℕ) (fields : List Field) (t ordinal : ℕ) → HasRecord schemas table depth fields t ordinal → (values : List Value) → row_at table t ordinal ≡ Some (Row.Object values)
    → (length fields ≡ length values) × All (λ valued. CanPrintValue schemas table depth valued.0.kind valued.1) (zip fields values)
record_values schemas table depth fields t ordinal (own, at, long, can) values there =
    let both : Some (Row.Object own) ≡ Some (Row.Object values) = sym at ∙ there in
    let same : own ≡ values = cc in (
      long ∙ ap length same,
      subst (λ vs. All (λ valued. CanPrintValue schemas table depth valued.0.kind valued.1) (zip fields vs)) same can,
    )

-- the value of a field of the record that is there
pub value_in_row : (table : Table) (t i ordinal : ℕ) (fields : List Field) (values : List Value) → row_at table t ordinal ≡ Some (Row.Object values) → length fields ≡ length values → i < length fields
    → value_in (row_at table t ordinal) i ≡ Some (get_or values i Value.Null)
value_in_row table t i ordinal fields values there long within = ap (λ row. value_in row i) there ∙ slice_get-get_or values i Value.Null (omega (arith, long, within))

-- a field with its value stands among the fields with their values
pub part_there : (fields : List Field) (values : List Value) (i : ℕ) (field : Field) → length fields ≡ length values → i < length fields → field ≡ get_or fields i field
    → (i < length (zip fields values)) × ((field, get_or values i Value.Null) ≡ get_or (zip fields values) i (field, get_or values i Value.Null))
part_there fields values i field long within at =
    let inside : i < length values = omega (arith, long, within) in
    zipped_at fields values i field (get_or values i Value.Null) long inside at (get_or_default values i Value.Null (get_or values i Value.Null) inside)

pub value_there : (schemas : List Schema) (table : Table) (depth : ℕ) (fields : List Field) (values : List Value) (t i ordinal : ℕ) (field : Field) → row_at table t ordinal ≡ Some (Row.Object values) → length fields ≡ length values
    → All (λ valued. CanPrintValue schemas table depth valued.0.kind valued.1) (zip fields values) → i < length fields → field ≡ get_or fields i field → HasValue schemas table depth field.kind t i ordinal
value_there schemas table depth fields values t i ordinal field there long can within at =
    let x = part_there fields values i field long within at in (
      get_or values i Value.Null,
      value_in_row table t i ordinal fields values there long within,
      subst (λ (valued : Field × Value). CanPrintValue schemas table depth valued.0.kind valued.1) (sym x.1) (can i (field, get_or values i Value.Null) x.0),
    )

-- the record that stands in a type of fields
pub row_values : (shape : Shape) (row : Row) (key : Option (List Name)) (fields : List Field) → shape ≡ Shape.Object key fields → FitsShape shape row → (values : List Value) × (row ≡ Row.Object values) × (length fields ≡ length values)
row_values shape row key fields shape_is fits = of_row row (subst (λ s. FitsShape s row) shape_is fits)
  where
    of_row : (r : Row) → FitsShape (Shape.Object key fields) r → (values : List Value) × (r ≡ Row.Object values) × (length fields ≡ length values)
    of_row (Row.Object values) fit = (values, refl, sym (AllZip-long (λ field value. FitsKind field.kind value) fields values fit))
    of_row r fit = absurd fit

pub record_there : (schemas : List Schema) (table : Table) (depth t ordinal : ℕ) (schema : Schema) (row : Row) (key : Option (List Name)) (own fields : List Field) → schema.shape ≡ Shape.Object key own → fields ≡ own → row_at table t ordinal ≡ Some row
    → FitsShape schema.shape row → All (λ named. CanPrint schemas table depth named.0 named.1) (references_of_row schema.shape row) → HasRecord schemas table depth fields t ordinal
record_there schemas table depth t ordinal schema row key own fields shape_is fields_are there fits each =
    let (values, row_is, long) = row_values schema.shape row key own shape_is fits in (
      values,
      there ∙ ap Some row_is,
      ap length fields_are ∙ long,
      values_can schemas table depth schema.shape row fits each key own fields values values shape_is row_is fields_are refl,
    )

-- a type of a model has few fields
pub few_fields : (schemas : List Schema) (t : ℕ) (schema : Schema) (key : Option (List Name)) (own fields : List Field) → IsModel schemas → slice_get schemas t ≡ Some schema → schema.shape ≡ Shape.Object key own → fields ≡ own → length fields < 2 ^ 32
few_fields schemas t schema key own fields model known shape_is fields_are =
    let same : length (fields_of schema) ≡ length fields = ap (λ s. length (shape_fields s)) shape_is ∙ ap length (sym fields_are) in
    elim (cases_lt 1024 (length (fields_of schema))) [ inl many ↦ absurd (model TooMany t (schema, known, inr many)) | inr within ↦ omega (arith, same, within) ]

pub form_leads : (schema : Schema) (form : RecordForm) (key : Option (List Name)) (own fields : List Field) (leads : Order) → schema.shape ≡ Shape.Object key own → fields ≡ own → leads ≡ form.leads.items → IsFormOf schema form → AreWholeLeads fields leads
form_leads schema form key own fields leads shape_is fields_are leads_are is =
    subst (AreWholeLeads fields) (sym leads_are) (subst (λ fs. AreWholeLeads fs form.leads.items) (ap shape_fields shape_is ∙ sym fields_are) is)

-- the row that a REFERENCE names
pub ref_named : (found : Option Value) (value : Value) (named : ℕ) → found ≡ Some value → Some named ≡ ordinal_in found → value ≡ Value.Ref named
ref_named found value named is names = of_value value (names ∙ ap ordinal_in is)
  where
    of_value : (v : Value) → Some named ≡ ordinal_in (Some v) → v ≡ Value.Ref named
    of_value (Value.Ref o) e = let same : named ≡ o = cc in ap Value.Ref (sym same)
    of_value v e = absurd cc

-- ---- one value of a record

module _ (schemas : List Schema) (table : Table) (depth : ℕ) where
  abbrev Follow : Name → PlainTree → Data → Type 0
  Follow = PrintsNamed schemas depth

  abbrev follow : Name → ℕ → PlainTree
  follow = unfold_named schemas table depth

  -- the tree of a live row is no value
  row_no_leaf : (shape : Shape) (row : Row) (value : Value) → FitsShape shape row → tree_of_row follow shape row ≡ leaf value → ⊥
  row_no_leaf (Shape.Object key fields) (Row.Object values) value fits is = absurd cc
  row_no_leaf (Shape.List element) (Row.List ordinals) value fits is = absurd cc
  row_no_leaf (Shape.Set element) (Row.Set ordinals) value fits is = absurd cc
  row_no_leaf (Shape.Map key value') (Row.Map pairs) value fits is = absurd cc
  row_no_leaf shape row value fits is = fits

reference_back : (Follow : Name → PlainTree → Data → Type 0) (name : Name) (tree : PlainTree) (printed : Data) → ((value : Value) → tree ≡ leaf value → ⊥) → PrintsReference Follow name tree printed → Follow name tree printed
reference_back Follow name (leaf value) printed none prints = absurd (none value refl)
reference_back Follow name (object trees) printed none prints = prints
reference_back Follow name (list trees) printed none prints = prints
reference_back Follow name (set trees) printed none prints = prints
reference_back Follow name (map_tree pairs) printed none prints = prints

within_no_leaf : (schemas : List Schema) (table : Table) → IsTableOf schemas table → (depth t ordinal : ℕ) → 1 ≤ depth → IsLive table t ordinal → (value : Value) → unfold_within schemas table depth t ordinal ≡ leaf value → ⊥
within_no_leaf schemas table fits zero t ordinal deep live value is = absurd (omega (arith, deep))
within_no_leaf schemas table fits (suc depth) t ordinal deep live value is =
    let (schema, known) = known_type schemas table t ordinal fits live in
    let (row, there) = live_row (row_at table t ordinal) live in
    row_no_leaf schemas table depth schema.shape row value (fits.rows t ordinal schema row known there) (sym (live_tree schemas table depth t ordinal schema row known there) ∙ is)

type_no_leaf : (schemas : List Schema) (table : Table) → IsTableOf schemas table → (depth ordinal : ℕ) (found : Option ℕ) → IsSomeAnd found (λ t. IsLive table t ordinal × IsShallow schemas depth t) → 1 ≤ depth
    → (value : Value) → tree_of_type found (λ t. unfold_within schemas table depth t ordinal) ≡ leaf value → ⊥
type_no_leaf schemas table fits depth ordinal None can deep value is = absurd can
type_no_leaf schemas table fits depth ordinal (Some t) can deep value is = within_no_leaf schemas table fits depth t ordinal deep can.0 value is

can_deep : (schemas : List Schema) (table : Table) (depth ordinal : ℕ) (name : Name) (found : Option ℕ) → found ≡ index_of_type schemas name → CanPrint schemas table depth name ordinal → IsSomeAnd found (λ t. IsLive table t ordinal × IsShallow schemas depth t) → 1 ≤ depth
can_deep schemas table depth ordinal name None is can there = absurd there
can_deep schemas table depth ordinal name (Some t) is can there = named_deep schemas table depth name ordinal t is can

-- a REFERENCE that names a row puts its record
pub reference_puts : (schemas : List Schema) (table : Table) → IsTableOf schemas table → (depth : ℕ) (name : Name) (ordinal before after : ℕ) (old new : List ℕ) (r : Result (Unit {0}) PrintFault) → CanPrint schemas table depth name ordinal
    → TellsPut (PrintsNamed schemas depth name (unfold_named schemas table depth name ordinal)) (node_count (unfold_named schemas table depth name ordinal)) old new before after r
    → TellsPut (PrintsField (PrintsNamed schemas depth) (FieldKind.Reference name) (tree_of_value (unfold_named schemas table depth) (FieldKind.Reference name) (Value.Ref ordinal)))
    (node_count (tree_of_value (unfold_named schemas table depth) (FieldKind.Reference name) (Value.Ref ordinal))) old new before after r
reference_puts schemas table fits depth name ordinal before after old new r can told =
    let deep = can_deep schemas table depth ordinal name (index_of_type schemas name) refl can can in
    put_as (PrintsNamed schemas depth name (unfold_named schemas table depth name ordinal)) (PrintsReference (PrintsNamed schemas depth) name (unfold_named schemas table depth name ordinal)) _ _ old new before after r
    (λ printed prints. reference_back (PrintsNamed schemas depth) name (unfold_named schemas table depth name ordinal) printed (type_no_leaf schemas table fits depth ordinal (index_of_type schemas name) can deep) prints) refl told

pub member_puts : (schemas : List Schema) (table : Table) (depth : ℕ) (kind : FieldKind) (value : Value) (name : Name) (ordinal before after : ℕ) (old new : List ℕ) (r : Result (Unit {0}) PrintFault) → kind ≡ FieldKind.Reference name → value ≡ Value.Ref ordinal
    → TellsPut (PrintsField (PrintsNamed schemas depth) (FieldKind.Reference name) (tree_of_value (unfold_named schemas table depth) (FieldKind.Reference name) (Value.Ref ordinal)))
    (node_count (tree_of_value (unfold_named schemas table depth) (FieldKind.Reference name) (Value.Ref ordinal))) old new before after r
    → TellsPut (PrintsField (PrintsNamed schemas depth) kind (tree_of_value (unfold_named schemas table depth) kind value)) (node_count (tree_of_value (unfold_named schemas table depth) kind value)) old new before after r
member_puts schemas table depth kind value name ordinal before after old new r kind_is value_is told =
    let Tells : FieldKind → Value → Type 0 =
    λ k v. TellsPut (PrintsField (PrintsNamed schemas depth) k (tree_of_value (unfold_named schemas table depth) k v)) (node_count (tree_of_value (unfold_named schemas table depth) k v)) old new before after r in
    subst (λ k. Tells k value) (sym kind_is) (subst (Tells (FieldKind.Reference name)) (sym value_is) told)

-- ---- the row of a type, by its name

pub named_puts : (schemas : List Schema) (table : Table) (depth : ℕ) (name : Name) (ordinal t : ℕ) → (is : Some t ≡ index_of_type schemas name) → CanPrint schemas table depth name ordinal → (old new : List ℕ) (before after : ℕ) (r : Result (Unit {0}) PrintFault)
    → TellsPut (PrintsWithin schemas (suc (depth - 1)) t (unfold_within schemas table (suc (depth - 1)) t ordinal)) (node_count (unfold_within schemas table (suc (depth - 1)) t ordinal)) old new before after r
    → TellsPut (PrintsNamed schemas depth name (unfold_named schemas table depth name ordinal)) (node_count (unfold_named schemas table depth name ordinal)) old new before after r
named_puts schemas table depth name ordinal t is can old new before after r told =
    let same = again schemas table depth name ordinal t is can in
    let tree : unfold_within schemas table (suc (depth - 1)) t ordinal ≡ unfold_named schemas table depth name ordinal =
    ap (λ n. unfold_within schemas table n t ordinal) same ∙ ap (λ o. tree_of_type o (λ u. unfold_within schemas table depth u ordinal)) is in
    put_as (PrintsWithin schemas (suc (depth - 1)) t (unfold_within schemas table (suc (depth - 1)) t ordinal)) (PrintsNamed schemas depth name (unfold_named schemas table depth name ordinal)) _ _ old new before after r
    (λ printed prints. subst (λ n. PrintsWithin schemas n t (unfold_within schemas table (suc (depth - 1)) t ordinal) printed) (sym same)
    (subst (λ o. PrintsAt (PrintsWithin schemas depth) o (unfold_within schemas table (suc (depth - 1)) t ordinal) printed) (sym is)
    (subst (λ u. PrintsAt (PrintsWithin schemas depth) (index_of_type schemas name) u printed) (sym tree) prints)))
    (ap node_count tree) told

-- ---- the row under a live ordinal

pub row_puts : (schemas : List Schema) (table : Table) (depth t ordinal : ℕ) (schema : Schema) (row : Row) (old new : List ℕ) (before after : ℕ) (r : Result (Unit {0}) PrintFault) → slice_get schemas t ≡ Some schema → row_at table t ordinal ≡ Some row
    → TellsPut (PrintsShape (PrintsNamed schemas depth) schema.shape (tree_of_row (unfold_named schemas table depth) schema.shape row)) (node_count (tree_of_row (unfold_named schemas table depth) schema.shape row)) old new before after r
    → TellsPut (PrintsWithin schemas (suc depth) t (unfold_within schemas table (suc depth) t ordinal)) (node_count (unfold_within schemas table (suc depth) t ordinal)) old new before after r
row_puts schemas table depth t ordinal schema row old new before after r known there told =
    let tree = live_tree schemas table depth t ordinal schema row known there in
    put_as (PrintsShape (PrintsNamed schemas depth) schema.shape (tree_of_row (unfold_named schemas table depth) schema.shape row)) (PrintsWithin schemas (suc depth) t (unfold_within schemas table (suc depth) t ordinal)) _ _ old new before after r
    (λ printed prints. subst (λ (x : PlainTree). PrintsShape (PrintsNamed schemas depth) schema.shape x printed) tree
    (subst (λ (o : Option Schema). PrintsTyped (PrintsNamed schemas depth) o (unfold_within schemas table (suc depth) t ordinal) printed) known prints))
    (ap node_count (sym tree)) told
