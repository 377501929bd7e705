-- Lemmas on types whose rows name live rows alone: from the ordinals that they name to the types' names.
use Rattle.std.proofs.Common.{◌≡◌, ℕ, suc, List, [], ◌∷◌, flat_map, map, zip, Option, None, Some, refl, sym, ap, subst, ◌∙◌, slice_get}
use Rattle.std.specs.Prelude.{All, IsSomeAnd}
use Rattle.std.proofs.lemmas.List.Elements.{All-nil, All-cons, All-append, All-head, All-tail}
use Rattle.schema_model.specs.Parts.{index_of_type}
use Rattle.schema_model.specs.declared.schema.name.Name.{Name}
use Rattle.schema_model.specs.declared.schema.Field.{Field}
use Rattle.schema_model.specs.declared.schema.Schema.{Schema}
use Rattle.schema_model.specs.declared.schema.Shape.{Shape}
use Rattle.row_model.specs.declared.row.Row.{Row}
use Rattle.row_model.specs.declared.row.Value.{Value}
use Rattle.closed_rows.specs.Dangling.{AreLive, NamesLive}
use Rattle.row_model.specs.Row.{references_of_value}
use Rattle.row_model.specs.Table.{Table, IsLive, IsLiveByName}
use Rattle.bucket_codec.specs.Run.{keys_of}
use Rattle.column_rows.specs.Closed.{ShapeNamesLive, FieldNamesLive, IsPairLive, ListNamesLive, RunNamesLive}
use Rattle.column_rows.specs.Items.{AreListsOf, IsOfPairs}
use Rattle.column_rows.specs.declared.items.PackedItems.{PackedItems}

module _ (schemas : List Schema) (table : Table) where
  -- a row that is live by its type's index is so by the name
  by_name : (name : Name) (target ordinal : ℕ) → index_of_type schemas name ≡ Some target → IsLive table target ordinal → IsLiveByName schemas table name ordinal
  by_name name target ordinal at live = subst (λ (index : Option ℕ). IsSomeAnd index (λ type_index. IsLive table type_index ordinal)) (sym at) live

  abbrev LiveNamed : Name × ℕ → Type 0
  LiveNamed named = IsLiveByName schemas table named.0 named.1

  each_by_name : (name : Name) (target : ℕ) → index_of_type schemas name ≡ Some target → (ordinals : List ℕ) → All (IsLive table target) ordinals → AreLive schemas table (map (λ ordinal. (name, ordinal)) ordinals)
  each_by_name name target at [] live = All-nil LiveNamed
  each_by_name name target at (ordinal ∷ ordinals) live =
      All-cons LiveNamed (name, ordinal) (map (λ o. (name, o)) ordinals) (by_name name target ordinal at (All-head (IsLive table target) ordinal ordinals live)) (each_by_name name target at ordinals (All-tail (IsLive table target) ordinal ordinals live))

  keys_live : (target : ℕ) (value : Option ℕ) (pairs : List (ℕ × ℕ)) → All (IsPairLive table target value) pairs → All (IsLive table target) (keys_of pairs)
  keys_live target value [] live = All-nil (IsLive table target)
  keys_live target value (pair ∷ pairs) live =
      All-cons (IsLive table target) pair.0 (keys_of pairs) (All-head (IsPairLive table target value) pair pairs live).key_live (keys_live target value pairs (All-tail (IsPairLive table target value) pair pairs live))

  pairs_by_name : (key value : Name) (key_target value_target : ℕ) → index_of_type schemas key ≡ Some key_target → index_of_type schemas value ≡ Some value_target → (pairs : List (ℕ × ℕ))
      → All (IsPairLive table key_target (Some value_target)) pairs → AreLive schemas table (flat_map (λ pair. (key, pair.0) ∷ (value, pair.1) ∷ []) pairs)
  pairs_by_name key value key_target value_target at also [] live = All-nil LiveNamed
  pairs_by_name key value key_target value_target at also (pair ∷ pairs) live =
      let here = All-head (IsPairLive table key_target (Some value_target)) pair pairs live in
      let behind = flat_map (λ p. (key, p.0) ∷ (value, p.1) ∷ []) pairs in
      All-cons LiveNamed (key, pair.0) ((value, pair.1) ∷ behind) (by_name key key_target pair.0 at here.key_live)
      (All-cons LiveNamed (value, pair.1) behind (by_name value value_target pair.1 also here.value_live)
      (pairs_by_name key value key_target value_target at also pairs (All-tail (IsPairLive table key_target (Some value_target)) pair pairs live)))

  -- ---- lists, sets and maps

  pub lists_closed : (type_index target : ℕ) (element : Name) (items : PackedItems) → index_of_type schemas element ≡ Some target → AreListsOf table type_index items
      → (ordinal : ℕ) → ListNamesLive table type_index target ordinal → ShapeNamesLive schemas table type_index (Shape.List element) ordinal
  lists_closed type_index target element items at are ordinal each row there =
      let list = are ordinal row there in
      subst (NamesLive schemas table (Shape.List element)) (sym list.1) (each_by_name element target at list.0 (each list.0 (there ∙ ap Some list.1)))

  pub sets_closed : (type_index target : ℕ) (element : Name) → index_of_type schemas element ≡ Some target → (ordinal : ℕ) → RunNamesLive table type_index target None ordinal
      → ShapeNamesLive schemas table type_index (Shape.Set element) ordinal
  sets_closed type_index target element at ordinal each row there = let run = each row there in by_row row run.0 run.1 run.2
    where
      by_row : (row : Row) (pairs : List (ℕ × ℕ)) → IsOfPairs row pairs → All (IsPairLive table target None) pairs → NamesLive schemas table (Shape.Set element) row
      by_row (Row.Object values) pairs is live = absurd is
      by_row (Row.List ordinals) pairs is live = absurd is
      by_row (Row.Set ordinals) pairs is live = each_by_name element target at ordinals (subst (All (IsLive table target)) (sym is) (keys_live target None pairs live))
      by_row (Row.Map entries) pairs is live = All-nil LiveNamed

  pub maps_closed : (type_index key_target value_target : ℕ) (key value : Name) → index_of_type schemas key ≡ Some key_target → index_of_type schemas value ≡ Some value_target
      → (ordinal : ℕ) → RunNamesLive table type_index key_target (Some value_target) ordinal → ShapeNamesLive schemas table type_index (Shape.Map key value) ordinal
  maps_closed type_index key_target value_target key value at also ordinal each row there = let run = each row there in by_row row run.0 run.1 run.2
    where
      by_row : (row : Row) (pairs : List (ℕ × ℕ)) → IsOfPairs row pairs → All (IsPairLive table key_target (Some value_target)) pairs → NamesLive schemas table (Shape.Map key value) row
      by_row (Row.Object values) pairs is live = absurd is
      by_row (Row.List ordinals) pairs is live = absurd is
      by_row (Row.Set ordinals) pairs is live = All-nil LiveNamed
      by_row (Row.Map entries) pairs is live = pairs_by_name key value key_target value_target at also entries (subst (All (IsPairLive table key_target (Some value_target))) (sym is) live)

  -- ---- records

  values_live : (fields : List Field) (values : List Value)
      → ((index : ℕ) (field : Field) (value : Value) → slice_get fields index ≡ Some field → slice_get values index ≡ Some value → AreLive schemas table (references_of_value field.kind value))
      → AreLive schemas table (flat_map (λ part. references_of_value part.0.kind part.1) (zip fields values))
  values_live [] values each = All-nil LiveNamed
  values_live (field ∷ fields) [] each = All-nil LiveNamed
  values_live (field ∷ fields) (value ∷ values) each =
      All-append LiveNamed (references_of_value field.kind value) (flat_map (λ part. references_of_value part.0.kind part.1) (zip fields values)) (each 0 field value refl refl)
      (values_live fields values (λ index f v at also. each (suc index) f v at also))

  -- the fields of the record under an ordinal
  abbrev FieldsName : ℕ → List Field → ℕ → Type 0
  FieldsName type_index fields ordinal = (index : ℕ) (field : Field) → slice_get fields index ≡ Some field → FieldNamesLive schemas table type_index field.kind index ordinal

  records_closed : (type_index : ℕ) (key : Option (List (List ℕ))) (fields : List Field) (ordinal : ℕ) → FieldsName type_index fields ordinal → ShapeNamesLive schemas table type_index (Shape.Object key fields) ordinal
  records_closed type_index key fields ordinal each (Row.Object values) there = values_live fields values (λ index field value at also. each index field at (Row.Object values) value there also)
  records_closed type_index key fields ordinal each (Row.List ordinals) there = All-nil LiveNamed
  records_closed type_index key fields ordinal each (Row.Set ordinals) there = All-nil LiveNamed
  records_closed type_index key fields ordinal each (Row.Map pairs) there = All-nil LiveNamed

  pub shape_records_closed : (type_index : ℕ) (shape : Shape) (key : Option (List (List ℕ))) (fields fs : List Field) → shape ≡ Shape.Object key fields → fs ≡ fields → (ordinal : ℕ) → FieldsName type_index fs ordinal
      → ShapeNamesLive schemas table type_index shape ordinal
  shape_records_closed type_index shape key fields fs is same ordinal each =
      subst (λ (s : Shape). ShapeNamesLive schemas table type_index s ordinal) (sym is)
      (records_closed type_index key fields ordinal (λ index field at. each index field (ap (λ (list : List Field). slice_get list index) same ∙ at)))

-- the index of a type that is found by the text of its name
pub named_at : (schemas model : List Schema) (name : Name) (text : List ℕ) (found : Option ℕ) (target : ℕ) → model ≡ schemas → text ≡ name → found ≡ index_of_type model text → found ≡ Some target
    → index_of_type schemas name ≡ Some target
named_at schemas model name text found target same is value at = ap (λ (list : List Schema). index_of_type list name) (sym same) ∙ ap (index_of_type model) (sym is) ∙ sym value ∙ at
