-- A closed table stays closed where it is seen through a model whose schemas agree with those of its own one.
use Rattle.std.proofs.Common.{◌≡◌, ℕ, suc, List, [], ◌∷◌, ◌++◌, Option, Some, None, option_map, refl, sym, ap, subst, ◌∙◌, arith, slice_index_or, slice_get}
use Rattle.std.specs.Prelude.{All, IsSome, flat_map, option_and_then, zip}
use Rattle.std.specs.FinMap.{empty, get, get-empty}
use Rattle.std.specs.Option.{option_map_or}
use Rattle.std.specs.Ordering.{nat_cmp}
use Rattle.std.specs.Str.{bytes_eq}
use Rattle.std.proofs.lemmas.List.Elements.{All-append, All-cons, All-head, All-nil, All-tail}
use Rattle.std.proofs.lemmas.Option.{get_or_from_slice_get, same_Some, slice_get-map}
use Rattle.std.proofs.lemmas.List.{length-map}
use Rattle.std.proofs.lemmas.Slice.Eq.{bytes_eq-Decides}
use Rattle.schema_model.specs.declared.schema.name.Name.{Name}
use Rattle.schema_model.specs.declared.schema.Field.{Field}
use Rattle.schema_model.specs.declared.schema.FieldKind.{FieldKind}
use Rattle.schema_model.specs.declared.schema.Schema.{Schema}
use Rattle.schema_model.specs.declared.schema.Shape.{Shape}
use Rattle.schema_model.specs.Growth.{KindsAgree, ModelsAgree, ShapesAgree}
use Rattle.schema_model.specs.declared.model.rule.Rule.TheVariants.{DuplicateName}
use Rattle.schema_model.specs.Model.{IsKept, IsModel}
use Rattle.schema_model.specs.Parts.{index_of_type, type_names}
use Rattle.schema_growth.proofs.Growths.{named_there, one_of, some_and}
use Rattle.schema_model.proofs.ModelFacts.{index_at}
use Rattle.row_model.specs.declared.row.Row.{Row}
use Rattle.row_model.specs.declared.row.Value.{Value}
use Rattle.row_model.specs.BothStates.{rows_in}
use Rattle.row_model.specs.Row.{FitsShape, IsRowInRange, references_of_row, references_of_value}
use Rattle.row_model.specs.Table.{Table, IsClosed, IsLive, IsLiveByName, IsTableOf, row_at}
use Rattle.row_model.specs.View.{seen_map, seen_row, seen_type, seen_values, value_named, view}
use Rattle.seen_rows.proofs.KnownTypes.{types_known}
use Rattle.row_model.proofs.RowsFrom.{get_in}
use Rattle.seen_rows.proofs.ViewFits.{chosen, list_stays, map_stays, row_fits, row_in_range, set_stays}
use Rattle.seen_rows.proofs.Views.{get_seen}

all_front : {X : Type 0} (P : X → Type 0) (xs ys : List X) → All P (xs ++ ys) → All P xs
all_front P [] ys all = All-nil P
all_front P (x ∷ xs) ys all = All-cons P x xs (All-head P x (xs ++ ys) all) (all_front P xs ys (All-tail P x (xs ++ ys) all))

all_back : {X : Type 0} (P : X → Type 0) (xs ys : List X) → All P (xs ++ ys) → All P ys
all_back P [] ys all = all
all_back P (x ∷ xs) ys all = all_back P xs ys (All-tail P x (xs ++ ys) all)

-- null names no row
pub null_names_none : (kind : FieldKind) → references_of_value kind Value.Null ≡ []
null_names_none (FieldKind.Reference name) = refl
null_names_none FieldKind.Int = refl
null_names_none FieldKind.Long = refl
null_names_none FieldKind.Boolean = refl
null_names_none FieldKind.Text = refl
null_names_none FieldKind.Bytes = refl

-- the rows that the values of a record name
pub names_of : List Field → List Value → List (Name × ℕ)
names_of fields values = flat_map (λ part. references_of_value part.0.kind part.1) (zip fields values)

module _ (P : Name × ℕ → Type 0) where
  pub value_names : (kind : FieldKind) (name : List ℕ) (own : List Field) (values : List Value) → All P (names_of own values) → All (λ field. field.name ≡ name → field.kind ≡ kind) own
      → All P (references_of_value kind (value_named own values name))
  unfolding value_named names_of
  value_names kind name [] values all same = subst (All P) (sym (null_names_none kind)) (All-nil P)
  value_names kind name (f ∷ own) [] all same = subst (All P) (sym (null_names_none kind)) (All-nil P)
  value_names kind name (f ∷ own) (v ∷ values) all same =
      chosen (λ value. All P (references_of_value kind value)) (bytes_eq f.name name) v (value_named own values name)
      (λ e. subst (λ k. All P (references_of_value k v)) (same 0 f (omega arith) ((bytes_eq-Decides f.name name).0 e)) (all_front P (references_of_value f.kind v) (names_of own values) all))
      (value_names kind name own values (all_back P (references_of_value f.kind v) (names_of own values) all) (λ k d below. same (suc k) d (omega (arith, below))))

  values_name : (own : List Field) (values : List Value) → All P (names_of own values) → (mine : List Field) → KindsAgree own mine → All P (names_of mine (seen_values own mine values))
  unfolding names_of
  values_name own values all [] agree = All-nil P
  values_name own values all (m ∷ mine) agree =
      All-append P (references_of_value m.kind (value_named own values m.name)) (names_of mine (seen_values own mine values))
      (value_names m.kind m.name own values all (λ k d below. agree k d below 0 m (omega arith)))
      (values_name own values all mine (λ k d below j e less. agree k d below (suc j) e (omega (arith, less))))

  -- what holds of each row that a row names, holds of each that it names where it is seen
  pub row_names : (own mine : Shape) (row : Row) → ShapesAgree own mine → FitsShape own row → All P (references_of_row own row) → All P (references_of_row mine (seen_row own mine row))
  unfolding names_of
  row_names (Shape.Object key own) (Shape.Object mine_key mine) (Row.Object values) agree fits all = values_name own values all mine agree.1
  row_names (Shape.Object key own) (Shape.Object mine_key mine) (Row.List ordinals) agree fits all = absurd fits
  row_names (Shape.Object key own) (Shape.Object mine_key mine) (Row.Set ordinals) agree fits all = absurd fits
  row_names (Shape.Object key own) (Shape.Object mine_key mine) (Row.Map pairs) agree fits all = absurd fits
  row_names (Shape.Object key own) (Shape.List element) row agree fits all = absurd cc
  row_names (Shape.Object key own) (Shape.Set element) row agree fits all = absurd cc
  row_names (Shape.Object key own) (Shape.Map from to) row agree fits all = absurd cc
  row_names (Shape.List element) mine row agree fits all =
      subst (λ r. All P (references_of_row mine r)) (sym (list_stays element mine row fits)) (subst (λ s. All P (references_of_row s row)) agree all)
  row_names (Shape.Set element) mine row agree fits all =
      subst (λ r. All P (references_of_row mine r)) (sym (set_stays element mine row fits)) (subst (λ s. All P (references_of_row s row)) agree all)
  row_names (Shape.Map from to) mine row agree fits all =
      subst (λ r. All P (references_of_row mine r)) (sym (map_stays from to mine row fits)) (subst (λ s. All P (references_of_row s row)) agree all)

-- ---- the rows of a table that is seen

module _ (own : List Schema) (table : Table) where
  pub get_type : (schema : Schema) (found : Option ℕ) (ordinal : ℕ)
      → get (option_map_or (λ u. seen_map (slice_index_or own u schema).shape schema.shape (rows_in table u)) found (empty {R = nat_cmp})) ordinal
      ≡ option_and_then (λ u. option_map (seen_row (slice_index_or own u schema).shape schema.shape) (row_at table u ordinal)) found
  get_type schema None ordinal = get-empty nat_cmp ordinal
  get_type schema (Some u) ordinal =
      get_seen (slice_index_or own u schema).shape schema.shape (rows_in table u) ordinal ∙ ap (option_map (seen_row (slice_index_or own u schema).shape schema.shape)) (get_in table u ordinal)

  -- a row that is seen is that of the type of its name, seen so
  pub row_seen : (mine : List Schema) (t ordinal : ℕ) (schema : Schema) → slice_get mine t ≡ Some schema
      → row_at (view mine own table) t ordinal ≡ option_and_then (λ u. option_map (seen_row (slice_index_or own u schema).shape schema.shape) (row_at table u ordinal)) (index_of_type own schema.name)
  row_seen mine t ordinal schema at =
      ap (option_and_then (λ rows. get rows ordinal)) (slice_get-map (seen_type own table) mine t ∙ ap (option_map (seen_type own table)) at) ∙ get_type schema (index_of_type own schema.name) ordinal

pub live_option : {X : Type 0} (f : X → X) (o : Option X) → IsSome o → IsSome (option_map f o)
live_option f None live = live
live_option f (Some x) live = refl

some_of : {X : Type 0} (o : Option X) → IsSome o → (x : X) × (o ≡ Some x)
some_of None there = absurd cc
some_of (Some x) there = (x, refl)

module _ (own mine : List Schema) (table : Table) (mine_once : IsKept mine DuplicateName) where
  -- a row that is live is live where it is seen, if its type is there
  pub seen_live : (name : Name) (ordinal : ℕ) → IsLiveByName own table name ordinal → IsSome (index_of_type mine name) → IsLiveByName mine (view mine own table) name ordinal
  seen_live name ordinal live known =
      let there = one_of (λ u. IsLive table u ordinal) (index_of_type own name) live in
      let place = some_of (index_of_type mine name) known in
      let named : slice_get (type_names mine) place.0 ≡ Some name = (index_at mine name mine_once place.0).0 place.1 in
      let schema = named_there mine place.0 name named in
      let seen = row_seen own table mine place.0 ordinal schema.0 schema.1 in
      let index : index_of_type own schema.0.name ≡ Some there.0 = ap (index_of_type own) schema.2 ∙ there.1 in
      some_and (λ w. IsLive (view mine own table) w ordinal) (index_of_type mine name) place.0 place.1
      (subst IsSome (sym (seen ∙ ap (option_and_then (λ u. option_map (seen_row (slice_index_or own u schema.0).shape schema.0.shape) (row_at table u ordinal))) index))
      (live_option (seen_row (slice_index_or own there.0 schema.0).shape schema.0.shape) (row_at table there.0 ordinal) there.2))

-- The row that is seen under an ordinal of a type is that of a row of the type of the same name.
pub record CameFrom (own : List Schema) (table : Table) (schema : Schema) (ordinal : ℕ) (row : Row) : Type 0 where
  pub place : ℕ
  pub other : Schema
  pub stored : Row
  pub at : slice_get own place ≡ Some other
  pub named : other.name ≡ schema.name
  pub there : row_at table place ordinal ≡ Some stored
  pub is : row ≡ seen_row other.shape schema.shape stored

of_map : {X : Type 0} (f : X → X) (o : Option X) (y : X) → option_map f o ≡ Some y → (x : X) × (o ≡ Some x) × (y ≡ f x)
of_map f None y is = absurd cc
of_map f (Some x) y is = (x, refl, sym (same_Some _ _ is))

pub of_then : {X Y : Type 0} (f : X → Option Y) (o : Option X) (y : Y) → option_and_then f o ≡ Some y → (x : X) × (o ≡ Some x) × (f x ≡ Some y)
of_then f None y is = absurd cc
of_then f (Some x) y is = (x, refl, is)

module _ (own mine : List Schema) (table : Table) (own_once : IsKept own DuplicateName) where
  pub came_from : (t ordinal : ℕ) (schema : Schema) (row : Row) → slice_get mine t ≡ Some schema → row_at (view mine own table) t ordinal ≡ Some row → CameFrom own table schema ordinal row
  came_from t ordinal schema row at found =
      let seen = of_then (λ u. option_map (seen_row (slice_index_or own u schema).shape schema.shape) (row_at table u ordinal)) (index_of_type own schema.name) row (sym (row_seen own table mine t ordinal schema at) ∙ found) in
      let stored = of_map (seen_row (slice_index_or own seen.0 schema).shape schema.shape) (row_at table seen.0 ordinal) row seen.2 in
      let other = named_there own seen.0 schema.name ((index_at own schema.name own_once seen.0).0 seen.1) in
      record {
        place = seen.0;
        other = other.0;
        stored = stored.0;
        at = other.1;
        named = other.2;
        there = stored.1;
        is = stored.2 ∙ ap (λ (s : Schema). seen_row s.shape schema.shape stored.0) (get_or_from_slice_get own seen.0 other.0 schema other.1);
      }

  -- a table that is seen through a model whose schemas agree with its own is one of that model
  pub view_table : IsTableOf own table → ModelsAgree own mine → IsTableOf mine (view mine own table)
  view_table fits agree = record {
    types = length-map mine (seen_type own table);
    rows = λ t ordinal schema row at found.
        let from = came_from t ordinal schema row at found in
        subst (FitsShape schema.shape) (sym from.is)
        (row_fits from.other.shape schema.shape from.stored (agree from.place t from.other schema from.at at from.named) (fits.rows from.place ordinal from.other from.stored from.at from.there));
    ranges = λ t ordinal schema row at found.
        let from = came_from t ordinal schema row at found in
        subst IsRowInRange (sym from.is) (row_in_range from.other.shape schema.shape from.stored (fits.ranges from.place ordinal from.other from.stored from.at from.there));
  }

  -- and closed where the table is, if each type is there that the model names
  pub view_closed : IsTableOf own table → ModelsAgree own mine → IsModel mine → IsClosed own table → IsClosed mine (view mine own table)
  view_closed fits agree model closed t ordinal schema row at found =
      let from = came_from t ordinal schema row at found in
      let same = agree from.place t from.other schema from.at at from.named in
      let names : All (λ (named : Name × ℕ). IsLiveByName own table named.0 named.1) (references_of_row schema.shape row)
      = subst (λ r. All (λ (named : Name × ℕ). IsLiveByName own table named.0 named.1) (references_of_row schema.shape r)) (sym from.is)
      (row_names (λ named. IsLiveByName own table named.0 named.1) from.other.shape schema.shape from.stored same (fits.rows from.place ordinal from.other from.stored from.at from.there)
      (closed from.place ordinal from.other from.stored from.at from.there)) in
      λ k d below. seen_live own mine table (model DuplicateName) (slice_index_or (references_of_row schema.shape row) k d).0 (slice_index_or (references_of_row schema.shape row) k d).1 (names k d below) (types_known mine t schema row model at k d below)
