-- Adding the tree of a live row of the previous state gives that row's ordinal, and no row that the previous state lacks; nor any that a closed table lacks
-- which has the row.
use Rattle.std.proofs.Common.{◌≡◌, ◌∙◌, ◌<◌, ℕ, zero, suc, List, [], ◌∷◌, Option, Some, None, length, slice_get, map as images, zip, flat_map, refl, sym, ap, subst, inl, inr, arith}
use Rattle.std.specs.Prelude.{All, IsSomeAnd, is_some, option_and_then, option_map}
use Rattle.std.specs.List.{AllZip}
use Rattle.std.proofs.lemmas.List.Elements.{All-head, All-tail}
use Rattle.std.proofs.lemmas.Option.{get_or_from_slice_get, slice_get_within}
use Rattle.schema_model.specs.declared.model.rule.Rule.TheVariants.{TooDeep, UnknownType}
use Rattle.schema_model.specs.declared.schema.name.Name.{Name}
use Rattle.schema_model.specs.declared.schema.Field.{Field}
use Rattle.schema_model.specs.declared.schema.FieldKind.{FieldKind}
use Rattle.schema_model.specs.declared.schema.Schema.{Schema}
use Rattle.schema_model.specs.declared.schema.Shape.{Shape}
use Rattle.schema_model.specs.Model.{IsModel}
use Rattle.schema_model.specs.Parts.{index_of_type, shape_names}
use Rattle.row_model.specs.declared.row.Row.{Row}
use Rattle.row_model.specs.declared.row.Value.{Value}
use Rattle.row_model.specs.PlainTree.{PlainTree, leaf, object, list, set, map, pairs_of_list, trees_of_list}
use Rattle.row_model.specs.Row.{FitsKind, FitsShape, IsRowInRange, IsValueInRange, references_of_row, references_of_value, stored_value}
use Rattle.row_model.specs.Table.{IsClosed, IsLive, Table, row_at}
use Rattle.row_model.specs.Unfold.{tree_of_live, tree_of_row, tree_of_type, tree_of_value, unfold_row, unfold_within}
use Rattle.record_trees.specs.FitsTree.{FitsLeaf, IsLeafOr}
use Rattle.record_trees.specs.Types.{list_element, map_types, object_fields, referred, set_element, shape_at}
use Rattle.row_packing.specs.Written.{IsStored}
use Rattle.write_engine.specs.Agreement.{TablesAgree}
use Rattle.write_engine.specs.Cycle.{Adds, AddsAll, AddsFields, AddsPairs, IsMapOf, IsSetOf, PutsRow, with_row}
use Rattle.write_engine.specs.Soundness.{IsClosedTableOf}
use Rattle.write_engine.specs.StoredRows.{AreStored}
use Rattle.write_engine.proofs.Parts.{map_types_are}
use Rattle.row_packing.proofs.Greatest.{all_left, all_right}
use Rattle.hol_incremental.specs.Beside.{SameBeside}
use Rattle.hol_incremental.proofs.AddedRows.{put_stays, stays_then}
use Rattle.hol_incremental.proofs.BesideRows.{agree_both, itself, puts_again, then_same}
use Rattle.hol_incremental.proofs.OneRecord.{Stays}
use Rattle.hol_incremental.proofs.PutRows.{put_cases, put_there}
use Rattle.hol_incremental.proofs.ShallowTypes.{IsReached, IsShallow, live_row, live_type, none_shallow, rows_reached, some_type}

-- a tree that is added is no value
as_row : (schemas : List Schema) (previous : Table) (tree : PlainTree) (t o : ℕ) (before after : Table) (P : Value → Type 0) (Q : Type 0) → Adds schemas previous t tree before o after → Q → IsLeafOr tree P Q
as_row schemas previous (leaf value) t o before after P Q adds h = absurd adds
as_row schemas previous (object trees) t o before after P Q adds h = h
as_row schemas previous (list trees) t o before after P Q adds h = h
as_row schemas previous (set trees) t o before after P Q adds h = h
as_row schemas previous (map pairs) t o before after P Q adds h = h

module _ (schemas : List Schema) (previous left : Table) where
  -- What changes from one table to the next: nothing beside the previous state, no row leaves, and none comes that the other table lacks.
  pub record IsKeptBy (before after : Table) : Type 0 where
    pub beside : SameBeside previous before after
    pub stays : Stays before after
    pub part : Stays before left → Stays after left

  kept_itself : (table : Table) → IsKeptBy table table
  kept_itself table = record { beside = itself previous table; stays = λ t o row here. here; part = λ h. h }

  kept_then : (a b c : Table) → IsKeptBy a b → IsKeptBy b c → IsKeptBy a c
  kept_then a b c one two = record {
    beside = then_same previous a b c one.beside two.beside;
    stays = stays_then a b c one.stays two.stays;
    part = λ h. two.part (one.part h);
  }

  kept_agree : (before after : Table) → IsKeptBy before after → TablesAgree previous before → TablesAgree previous after
  kept_agree before after kept agree = agree_both previous before after kept.beside agree

  -- a row that both tables have is put
  kept_put : (table : Table) → TablesAgree previous table → length table ≡ length schemas → (t o : ℕ) (row : Row) → t < length schemas → row_at previous t o ≡ Some row → row_at left t o ≡ Some row
      → PutsRow previous t row table o (with_row table t o row) × IsKeptBy table (with_row table t o row) × IsLive (with_row table t o row) t o
  kept_put table agree types t o row known here there =
      let put = puts_again previous table agree t o row here in
      let inside : t < length table = omega (arith, known, types) in (
        put.0,
        record {
          beside = put.1;
          stays = put_stays previous table (with_row table t o row) t o row agree put.0;
          part = λ h u q r is.
              (elim (put_cases table t o row inside u q r is) [
                | inl same ↦ ap (λ n. row_at left n q) same.0.0 ∙ ap (row_at left t) same.0.1 ∙ there ∙ ap Some (sym same.1)
                | inr stood ↦ h u q r stood.1
              ]);
        },
        ap is_some (put_there table t o row inside t o (refl, refl)),
      )

  -- Wherever the tree is added, it gets this ordinal.
  abbrev pub AddsAgain : ℕ → PlainTree → ℕ → Type 0
  AddsAgain t tree ordinal =
      (before : Table) → TablesAgree previous before → length before ≡ length schemas → (after : Table) × Adds schemas previous t tree before ordinal after × IsKeptBy before after × IsLive after t ordinal

  types_kept : (before after : Table) → IsKeptBy before after → length before ≡ length schemas → length after ≡ length schemas
  types_kept before after kept types = sym kept.beside.types ∙ types

  -- the same of what the row under an ordinal of the type of a name is
  abbrev NamedAgain : Name → PlainTree → ℕ → Type 0
  NamedAgain name tree ordinal = (u : ℕ) × (index_of_type schemas name ≡ Some u) × AddsAgain u tree ordinal

  -- ---- the parts of a row, where the rows that it names are added again

  module _ (follow : Name → ℕ → PlainTree) (IsFollowed : Name → ℕ → Type 0) (each : (name : Name) (ordinal : ℕ) → IsFollowed name ordinal → NamedAgain name (follow name ordinal) ordinal) where
    abbrev AreFollowed : List (Name × ℕ) → Type 0
    AreFollowed named = All (λ row. IsFollowed row.0 row.1) named

    -- a field's tree becomes the value
    abbrev AddsKind : FieldKind → PlainTree → Table → Value → Table → Type 0
    AddsKind kind tree before value middle =
        IsLeafOr tree (λ found. FitsLeaf kind found × IsValueInRange found × (value ≡ stored_value found) × (middle ≡ before))
        ((t : ℕ) × (ordinal : ℕ) × (referred schemas kind ≡ Some t) × Adds schemas previous t tree before ordinal middle × (value ≡ Value.Ref ordinal))

    abbrev KindAgain : FieldKind → Value → Type 0
    KindAgain kind value =
        (before : Table) → TablesAgree previous before → length before ≡ length schemas → (middle : Table) × AddsKind kind (tree_of_value follow kind value) before value middle × IsKeptBy before middle

    value_again : (kind : FieldKind) (value : Value) → FitsKind kind value → IsValueInRange value → stored_value value ≡ value → AreFollowed (references_of_value kind value) → KindAgain kind value
    value_again (FieldKind.Reference name) (Value.Ref ordinal) fits range stored named before agree types =
        let found = each name ordinal (All-head (λ (row : Name × ℕ). IsFollowed row.0 row.1) (name, ordinal) [] named) in
        let added = found.2 before agree types in
        (added.0, as_row schemas previous (follow name ordinal) found.0 ordinal before added.0 _ _ added.1 (found.0, ordinal, found.1, added.1, refl), added.2)
    value_again (FieldKind.Reference name) Value.Null fits range stored named before agree types = (before, (tt, tt, refl, refl), kept_itself before)
    value_again FieldKind.Int (Value.Int number) fits range stored named before agree types = (before, (tt, range, sym stored, refl), kept_itself before)
    value_again FieldKind.Long (Value.Long number) fits range stored named before agree types = (before, (tt, range, sym stored, refl), kept_itself before)
    value_again FieldKind.Boolean (Value.Bool flag) fits range stored named before agree types = (before, (tt, range, sym stored, refl), kept_itself before)
    value_again FieldKind.Text (Value.Text units) fits range stored named before agree types = (before, (tt, range, sym stored, refl), kept_itself before)
    value_again FieldKind.Bytes (Value.Bytes bytes) fits range stored named before agree types = (before, (tt, range, sym stored, refl), kept_itself before)
    value_again FieldKind.Int Value.Null fits range stored named before agree types = (before, (tt, tt, refl, refl), kept_itself before)
    value_again FieldKind.Long Value.Null fits range stored named before agree types = (before, (tt, tt, refl, refl), kept_itself before)
    value_again FieldKind.Boolean Value.Null fits range stored named before agree types = (before, (tt, tt, refl, refl), kept_itself before)
    value_again FieldKind.Text Value.Null fits range stored named before agree types = (before, (tt, tt, refl, refl), kept_itself before)
    value_again FieldKind.Bytes Value.Null fits range stored named before agree types = (before, (tt, tt, refl, refl), kept_itself before)
    value_again _ _ fits range stored named before agree types = absurd fits

    values_again : (fields : List Field) (values : List Value) → AllZip (λ field value. FitsKind field.kind value) fields values → All IsValueInRange values → images stored_value values ≡ values
        → AreFollowed (flat_map (λ part. references_of_value part.0.kind part.1) (zip fields values)) → (before : Table) → TablesAgree previous before → length before ≡ length schemas
        → (middle : Table) × AddsFields schemas previous fields (trees_of_list (images (λ part. tree_of_value follow part.0.kind part.1) (zip fields values))) before values middle × IsKeptBy before middle
    values_again [] [] fits range stored named before agree types = (before, (refl, refl, refl), kept_itself before)
    values_again [] (value ∷ values) fits range stored named before agree types = absurd fits
    values_again (field ∷ fields) [] fits range stored named before agree types = absurd fits
    values_again (field ∷ fields) (value ∷ values) fits range stored named before agree types =
        let P : Name × ℕ → Type 0 = λ row. IsFollowed row.0 row.1 in
        let others = flat_map (λ (part : Field × Value). references_of_value part.0.kind part.1) (zip fields values) in
        let head : stored_value value ≡ value = ap (λ (vs : List Value). first_of vs value) stored in
        let tail : images stored_value values ≡ values = ap rest_of stored in
        let first = value_again field.kind value fits.0 (All-head IsValueInRange value values range) head (all_left P (references_of_value field.kind value) others named) before agree types in
        let rest = values_again fields values fits.1 (All-tail IsValueInRange value values range) tail (all_right P (references_of_value field.kind value) others named) first.0 (kept_agree before first.0 first.2 agree) (types_kept before first.0 first.2 types) in
        (rest.0, (field, fields, value, values, first.0, refl, refl, first.1, rest.1), kept_then before first.0 rest.0 first.2 rest.2)
      where
        first_of : List Value → Value → Value
        first_of [] default = default
        first_of (v ∷ vs) default = v

        rest_of : List Value → List Value
        rest_of [] = []
        rest_of (v ∷ vs) = vs

    of_type : (name : Name) (u : ℕ) (ordinal : ℕ) → index_of_type schemas name ≡ Some u → IsFollowed name ordinal → AddsAgain u (follow name ordinal) ordinal
    of_type name u ordinal is followed =
        let found = each name ordinal followed in
        let same : found.0 ≡ u = (let e : Some found.0 ≡ Some u = sym found.1 ∙ is in cc) in
        subst (λ v. AddsAgain v (follow name ordinal) ordinal) same found.2

    all_again : (element : Name) (u : ℕ) → index_of_type schemas element ≡ Some u → (ordinals : List ℕ) → AreFollowed (images (λ ordinal. (element, ordinal)) ordinals) → (before : Table) → TablesAgree previous before → length before ≡ length schemas
        → (middle : Table) × AddsAll schemas previous u (trees_of_list (images (follow element) ordinals)) before ordinals middle × IsKeptBy before middle
    all_again element u is [] named before agree types = (before, (refl, refl), kept_itself before)
    all_again element u is (ordinal ∷ ordinals) named before agree types =
        let P : Name × ℕ → Type 0 = λ row. IsFollowed row.0 row.1 in
        let others : List (Name × ℕ) = images (λ (o : ℕ). (element, o)) ordinals in
        let first = of_type element u ordinal is (All-head P (element, ordinal) others named) before agree types in
        let rest = all_again element u is ordinals (All-tail P (element, ordinal) others named) first.0 (kept_agree before first.0 first.2 agree) (types_kept before first.0 first.2 types) in
        (rest.0, (ordinal, ordinals, first.0, refl, first.1, rest.1), kept_then before first.0 rest.0 first.2 rest.2)

    pairs_again : (key value : Name) (k v : ℕ) → index_of_type schemas key ≡ Some k → index_of_type schemas value ≡ Some v → (pairs : List (ℕ × ℕ))
        → AreFollowed (flat_map (λ pair. (key, pair.0) ∷ (value, pair.1) ∷ []) pairs) → (before : Table) → TablesAgree previous before → length before ≡ length schemas
        → (middle : Table) × AddsPairs schemas previous (k, v) (pairs_of_list (images (λ pair. (follow key pair.0, follow value pair.1)) pairs)) before pairs middle × IsKeptBy before middle
    pairs_again key value k v is_key is_value [] named before agree types = (before, (refl, refl), kept_itself before)
    pairs_again key value k v is_key is_value (pair ∷ pairs) named before agree types =
        let P : Name × ℕ → Type 0 = λ row. IsFollowed row.0 row.1 in
        let others : List (Name × ℕ) = flat_map (λ (other : ℕ × ℕ). (key, other.0) ∷ (value, other.1) ∷ []) pairs in
        let behind = All-tail P (key, pair.0) ((value, pair.1) ∷ others) named in
        let first = of_type key k pair.0 is_key (All-head P (key, pair.0) ((value, pair.1) ∷ others) named) before agree types in
        let agree' = kept_agree before first.0 first.2 agree in
        let types' = types_kept before first.0 first.2 types in
        let second = of_type value v pair.1 is_value (All-head P (value, pair.1) others behind) first.0 agree' types' in
        let rest = pairs_again key value k v is_key is_value pairs (All-tail P (value, pair.1) others behind) second.0 (kept_agree first.0 second.0 second.2 agree') (types_kept first.0 second.0 second.2 types') in (
          rest.0,
          (pair.0, pair.1, pairs, first.0, second.0, refl, first.1, second.1, rest.1),
          kept_then before first.0 rest.0 first.2 (kept_then first.0 second.0 rest.0 second.2 rest.2),
        )

    -- ---- a row

    abbrev values_of : Row → List Value
    values_of (Row.Object values) = values
    values_of _ = []

    module _ (t ordinal : ℕ) (known : t < length schemas) (before : Table) (agree : TablesAgree previous before) (types : length before ≡ length schemas) where
      abbrev RowAgain : PlainTree → Type 0
      RowAgain tree = (after : Table) × Adds schemas previous t tree before ordinal after × IsKeptBy before after × IsLive after t ordinal

      row_again : (shape : Shape) (row : Row) → shape_at schemas t ≡ Some shape → ((name : Name) (j : ℕ) → slice_get (shape_names shape) j ≡ Some name → index_of_type schemas name ≡ None → ⊥)
          → FitsShape shape row → IsRowInRange row → IsStored row → row_at previous t ordinal ≡ Some row → row_at left t ordinal ≡ Some row → AreFollowed (references_of_row shape row) → RowAgain (tree_of_row follow shape row)
      row_again (Shape.Object key fields) (Row.Object values) is names fits range stored here there named =
          let parts = values_again fields values fits range (ap values_of stored) named before agree types in
          let put = kept_put parts.0 (kept_agree before parts.0 parts.2 agree) (types_kept before parts.0 parts.2 types) t ordinal (Row.Object values) known here there in (
            with_row parts.0 t ordinal (Row.Object values),
            (fields, values, parts.0, ap (option_and_then object_fields) is, parts.1, put.0),
            kept_then before parts.0 (with_row parts.0 t ordinal (Row.Object values)) parts.2 put.1,
            put.2,
          )
      row_again (Shape.List element) (Row.List ordinals) is names fits range stored here there named =
          let type = some_type (index_of_type schemas element) (names element 0 refl) in
          let parts = all_again element type.0 type.1 ordinals named before agree types in
          let put = kept_put parts.0 (kept_agree before parts.0 parts.2 agree) (types_kept before parts.0 parts.2 types) t ordinal (Row.List ordinals) known here there in (
            with_row parts.0 t ordinal (Row.List ordinals),
            (type.0, ordinals, parts.0, ap (option_and_then (list_element schemas)) is ∙ type.1, parts.1, put.0),
            kept_then before parts.0 (with_row parts.0 t ordinal (Row.List ordinals)) parts.2 put.1,
            put.2,
          )
      row_again (Shape.Set element) (Row.Set ordinals) is names fits range stored here there named =
          let type = some_type (index_of_type schemas element) (names element 0 refl) in
          let parts = all_again element type.0 type.1 ordinals named before agree types in
          let put = kept_put parts.0 (kept_agree before parts.0 parts.2 agree) (types_kept before parts.0 parts.2 types) t ordinal (Row.Set ordinals) known here there in
          let members : IsSetOf ordinals ordinals = record { rising = fits; same = λ o. ((λ h. h), (λ h. h)) } in (
            with_row parts.0 t ordinal (Row.Set ordinals),
            (type.0, ordinals, parts.0, ap (option_and_then (set_element schemas)) is ∙ type.1, parts.1, (ordinals, members, put.0)),
            kept_then before parts.0 (with_row parts.0 t ordinal (Row.Set ordinals)) parts.2 put.1,
            put.2,
          )
      row_again (Shape.Map key value) (Row.Map pairs) is names fits range stored here there named =
          let k = some_type (index_of_type schemas key) (names key 0 refl) in
          let v = some_type (index_of_type schemas value) (names value 1 refl) in
          let parts = pairs_again key value k.0 v.0 k.1 v.1 pairs named before agree types in
          let put = kept_put parts.0 (kept_agree before parts.0 parts.2 agree) (types_kept before parts.0 parts.2 types) t ordinal (Row.Map pairs) known here there in
          let members : IsMapOf pairs pairs = record { rising = fits; same = λ o. refl } in (
            with_row parts.0 t ordinal (Row.Map pairs),
            ((k.0, v.0), pairs, parts.0, ap (option_and_then (map_types schemas)) is ∙ map_types_are schemas key value k.0 v.0 k.1 v.1, parts.1, (pairs, members, put.0)),
            kept_then before parts.0 (with_row parts.0 t ordinal (Row.Map pairs)) parts.2 put.1,
            put.2,
          )
      row_again shape row is names fits range stored here there named = absurd fits

  -- ---- by induction on how deep the type may be

  named_again : (depth ordinal : ℕ) → ((u : ℕ) → IsLive previous u ordinal → IsLive left u ordinal → IsShallow schemas depth u → AddsAgain u (unfold_within schemas previous depth u ordinal) ordinal) → (index : Option ℕ)
      → IsSomeAnd index (λ u. IsLive previous u ordinal × IsShallow schemas depth u) → IsSomeAnd index (λ u. IsLive left u ordinal × IsShallow schemas depth u) → (u : ℕ) × (index ≡ Some u) × AddsAgain u (tree_of_type index (λ u. unfold_within schemas previous depth u ordinal)) ordinal
  named_again depth ordinal each None reached reached' = absurd reached
  named_again depth ordinal each (Some u) reached reached' = (u, refl, each u reached.0 reached'.0 reached.1)

  -- the type of the name has the row in both tables
  abbrev AreReached : ℕ → Name → ℕ → Type 0
  AreReached depth name ordinal = IsReached schemas previous depth name ordinal × IsReached schemas left depth name ordinal

  module _ (model : IsModel schemas) (closed : IsClosedTableOf schemas previous) (stored : AreStored previous) (closed_left : IsClosed schemas left)
      (agrees : (t o : ℕ) (a b : Row) → row_at previous t o ≡ Some a → row_at left t o ≡ Some b → a ≡ b) where
    within_again : (depth t ordinal : ℕ) → IsLive previous t ordinal → IsLive left t ordinal → IsShallow schemas depth t → AddsAgain t (unfold_within schemas previous depth t ordinal) ordinal
    within_again zero t ordinal live there shallow before agree types =
        let (schema, found) = live_type schemas previous t ordinal closed.fits.types live in absurd (none_shallow schemas t (slice_get_within schemas t schema found) shallow)
    within_again (suc depth) t ordinal live there shallow before agree types =
        let (schema, found) = live_type schemas previous t ordinal closed.fits.types live in
        let (row, at) = live_row (row_at previous t ordinal) live in
        let (row', at') = live_row (row_at left t ordinal) there in
        let at_left : row_at left t ordinal ≡ Some row = at' ∙ ap Some (sym (agrees t ordinal row row' at at')) in
        let follow : Name → ℕ → PlainTree = λ name named. tree_of_type (index_of_type schemas name) (λ u. unfold_within schemas previous depth u named) in
        let tree : unfold_within schemas previous (suc depth) t ordinal ≡ tree_of_row follow schema.shape row =
        ap (λ o. tree_of_live follow o (row_at previous t ordinal)) found ∙ ap (tree_of_live follow (Some schema)) at in
        let each_named : (name : Name) (o : ℕ) → AreReached depth name o → NamedAgain name (follow name o) o =
        λ name o reached. named_again depth o (λ u one other deep. within_again depth u o one other deep) (index_of_type schemas name) reached.0 reached.1 in
        let one = rows_reached schemas previous t ordinal schema row found depth closed.closed at shallow in
        let other = rows_reached schemas left t ordinal schema row found depth closed_left at_left shallow in
        let known = slice_get_within schemas t schema found in
        subst (λ x. RowAgain follow (AreReached depth) each_named t ordinal known before agree types x) (sym tree)
        (row_again follow (AreReached depth) each_named t ordinal known before agree types schema.shape row (ap (option_map (λ (s : Schema). s.shape)) found)
        (λ name j stands none. model UnknownType t (schema, found, (j, name, slice_get_within (shape_names schema.shape) j name stands, get_or_from_slice_get (shape_names schema.shape) j name name stands, none)))
        (closed.fits.rows t ordinal schema row found at) (closed.fits.ranges t ordinal schema row found at) (stored t ordinal row at) at at_left (λ k d inside. (one k d inside, other k d inside)))

    pub added_again : (t ordinal : ℕ) → IsLive previous t ordinal → IsLive left t ordinal → AddsAgain t (unfold_row schemas previous t ordinal) ordinal
    unfolding unfold_row
    added_again t ordinal live there =
        let (schema, found) = live_type schemas previous t ordinal closed.fits.types live in
        within_again 32 t ordinal live there (λ chain. model TooDeep t (schema, found, chain))
