-- The rows that a live row names can be printed: they are live, and of types that are less deep.
use Rattle.std.proofs.Common.{◌≡◌, ℕ, zero, suc, ◌<◌, ◌∙◌, refl, sym, ap, subst, List, [], ◌∷◌, ◌++◌, length, map, flat_map, zip, get_or, slice_get, Option, Some, None, arith}
use Rattle.std.specs.Prelude.{All, Any, Contains, IsSomeAnd, slice_index_or}
use Rattle.std.specs.List.{cons_option, filter_map, AllZip}
use Rattle.std.proofs.lemmas.List.{get_or-map}
use Rattle.std.proofs.lemmas.List.Elements.{All-nil, All-cons, All-head, All-tail, All-append, All-weaker}
use Rattle.std.proofs.lemmas.Option.{slice_get_within, get_or_from_slice_get}
use Rattle.schema_model.specs.declared.schema.name.Name.{Name}
use Rattle.schema_model.specs.declared.schema.Field.{Field}
use Rattle.schema_model.specs.declared.schema.FieldKind.{FieldKind}
use Rattle.schema_model.specs.declared.schema.Schema.{Schema}
use Rattle.schema_model.specs.declared.schema.Shape.{Shape}
use Rattle.row_model.specs.declared.row.Row.{Row}
use Rattle.row_model.specs.declared.row.Value.{Value}
use Rattle.schema_model.specs.Model.{HasChain, named_indexes, type_graph}
use Rattle.schema_model.specs.Parts.{index_of_type, referenced, referenced_names, shape_names}
use Rattle.row_model.specs.Row.{FitsKind, FitsShape, references_of_row, references_of_value}
use Rattle.row_model.specs.Table.{Table, IsClosed, IsLive, IsTableOf, row_at}
use Rattle.record_trees.proofs.Passing.{any_is_some}
use Rattle.record_json.specs.Printing.{CanPrint, CanPrintPair, CanPrintValue, IsShallow}

-- ---- what holds of all pieces

all_left : {X : Type 0} (P : X → Type 0) (xs ys : List X) → All P (xs ++ ys) → All P xs
all_left P [] ys all = All-nil P
all_left P (x ∷ xs) ys all = All-cons P x xs (All-head P x (xs ++ ys) all) (all_left P xs ys (All-tail P x (xs ++ ys) all))

all_right : {X : Type 0} (P : X → Type 0) (xs ys : List X) → All P (xs ++ ys) → All P ys
all_right P [] ys all = all
all_right P (x ∷ xs) ys all = all_right P xs ys (All-tail P x (xs ++ ys) all)

all_pieces : {X Y : Type 0} (P : Y → Type 0) (f : X → List Y) (xs : List X) → All P (flat_map f xs) → All (λ x. All P (f x)) xs
all_pieces P f [] all = All-nil (λ x. All P (f x))
all_pieces P f (x ∷ xs) all =
    All-cons (λ y. All P (f y)) x xs (all_left P (f x) (flat_map f xs) all) (all_pieces P f xs (all_right P (f x) (flat_map f xs) all))

all_mapped : {X Y : Type 0} (P : Y → Type 0) (f : X → Y) (xs : List X) → All P (map f xs) → All (λ x. P (f x)) xs
all_mapped P f [] all = All-nil (λ x. P (f x))
all_mapped P f (x ∷ xs) all = All-cons (λ y. P (f y)) x xs (All-head P (f x) (map f xs) all) (all_mapped P f xs (All-tail P (f x) (map f xs) all))

-- ---- the names that stand in a row are those of its type

value_among : (kind : FieldKind) (value : Value) (names : List Name) → All (λ named. Contains (cons_option (referenced kind) names) named.0) (references_of_value kind value)
value_among (FieldKind.Reference name) (Value.Ref ordinal) names =
    All-cons (λ named. Contains (name ∷ names) named.0) (name, ordinal) [] (0, omega arith, refl) (All-nil (λ named. Contains (name ∷ names) named.0))
value_among kind value names = All-nil (λ named. Contains (cons_option (referenced kind) names) named.0)

later_name : (kind : FieldKind) (names : List Name) (name : Name) → Contains names name → Contains (cons_option (referenced kind) names) name
later_name (FieldKind.Reference first) names name (k, inside, at) = (suc k, omega arith, at)
later_name kind names name among = among

record_among : (fields : List Field) (values : List Value) → All (λ named. Contains (referenced_names fields) named.0) (flat_map (λ part. references_of_value part.0.kind part.1) (zip fields values))
record_among [] values = All-nil (λ named. Contains (referenced_names []) named.0)
record_among (field ∷ fields) [] = All-nil (λ named. Contains (referenced_names (field ∷ fields)) named.0)
record_among (field ∷ fields) (value ∷ values) =
    let names = referenced_names fields in
    let Among : Name × ℕ → Type 0 = λ named. Contains (cons_option (referenced field.kind) names) named.0 in
    All-append Among (references_of_value field.kind value) (flat_map (λ part. references_of_value part.0.kind part.1) (zip fields values)) (value_among field.kind value names)
    (All-weaker (λ named. Contains names named.0) Among (λ named among. later_name field.kind names named.0 among) (flat_map (λ part. references_of_value part.0.kind part.1) (zip fields values)) (record_among fields values))

elements_among : (element : Name) (ordinals : List ℕ) → All (λ (named : Name × ℕ). Contains (element ∷ []) named.0) (map (λ ordinal. (element, ordinal)) ordinals)
elements_among element [] = All-nil (λ (named : Name × ℕ). Contains (element ∷ []) named.0)
elements_among element (o ∷ ordinals) = All-cons (λ (named : Name × ℕ). Contains (element ∷ []) named.0) (element, o) _ (0, omega arith, refl) (elements_among element ordinals)

pairs_among : (key value : Name) (pairs : List (ℕ × ℕ)) → All (λ (named : Name × ℕ). Contains (key ∷ value ∷ []) named.0) (flat_map (λ pair. (key, pair.0) ∷ (value, pair.1) ∷ []) pairs)
pairs_among key value [] = All-nil (λ (named : Name × ℕ). Contains (key ∷ value ∷ []) named.0)
pairs_among key value (pair ∷ pairs) =
    let Among : Name × ℕ → Type 0 = λ named. Contains (key ∷ value ∷ []) named.0 in
    let others : List (Name × ℕ) = flat_map (λ (other : ℕ × ℕ). (key, other.0) ∷ (value, other.1) ∷ []) pairs in
    All-cons Among (key, pair.0) ((value, pair.1) ∷ others) (0, omega arith, refl) (All-cons Among (value, pair.1) others (1, omega arith, refl) (pairs_among key value pairs))

named_among : (shape : Shape) (row : Row) → All (λ named. Contains (shape_names shape) named.0) (references_of_row shape row)
named_among (Shape.Object key fields) (Row.Object values) = record_among fields values
named_among (Shape.List element) (Row.List ordinals) = elements_among element ordinals
named_among (Shape.Set element) (Row.Set ordinals) = elements_among element ordinals
named_among (Shape.Map key value) (Row.Map pairs) = pairs_among key value pairs
named_among shape row = All-nil (λ named. Contains (shape_names shape) named.0)

-- ---- the types that a type names are less deep

any_filtered : {X Y : Type 0} (h : X → Option Y) (P : Y → Type 0) (xs : List X) (k : ℕ) (x : X) (y : Y) → k < length xs → slice_index_or xs k x ≡ x → h x ≡ Some y → P y → Any P (filter_map h xs)
any_filtered h P [] k x y inside at is holds = absurd (omega arith)
any_filtered h P (z ∷ zs) zero x y inside at is holds =
    subst (λ o. Any P (cons_option o (filter_map h zs))) (sym (ap h at ∙ is)) ((any_is_some P).here y (filter_map h zs) holds)
any_filtered h P (z ∷ zs) (suc k) x y inside at is holds =
    let rest = any_filtered h P zs k x y (omega arith) at is holds in
    elim (h z) as (λ o. Any P (cons_option o (filter_map h zs))) [ None ↦ rest | Some w ↦ (any_is_some P).later w (filter_map h zs) rest ]

-- the types that the type at an index names
row_of_graph : (schemas : List Schema) (t : ℕ) (schema : Schema) → slice_get schemas t ≡ Some schema → slice_index_or (type_graph schemas) t [] ≡ named_indexes schemas schema
row_of_graph schemas t schema found =
    get_or-map (named_indexes schemas) schemas t schema [] (slice_get_within schemas t schema found) ∙ ap (named_indexes schemas) (get_or_from_slice_get schemas t schema schema found)

names_shallow : (schemas : List Schema) (depth t : ℕ) (schema : Schema) → slice_get schemas t ≡ Some schema → IsShallow schemas (suc depth) t
    → (name : Name) (u : ℕ) → Contains (shape_names schema.shape) name → index_of_type schemas name ≡ Some u → IsShallow schemas depth u
unfolding HasChain
names_shallow schemas depth t schema found shallow name u (k, inside, at) is chain =
    shallow (subst (Any (HasChain (type_graph schemas) depth)) (sym (row_of_graph schemas t schema found))
    (any_filtered (index_of_type schemas) (HasChain (type_graph schemas) depth) (shape_names schema.shape) k name u inside at is chain))

-- ---- the rows that a live row names can be printed

both_hold : (o : Option ℕ) (P Q : ℕ → Type 0) → IsSomeAnd o P → ((u : ℕ) → o ≡ Some u → Q u) → IsSomeAnd o (λ u. P u × Q u)
both_hold None P Q there each = there
both_hold (Some u) P Q there each = (there, each u refl)

-- the type at an index that has this shape
pub of_shape : (o : Option Schema) (shape : Shape) → IsSomeAnd o (λ schema. schema.shape ≡ shape) → (schema : Schema) × (o ≡ Some schema) × (schema.shape ≡ shape)
of_shape None shape there = absurd there
of_shape (Some schema) shape there = (schema, refl, there)

module _ (schemas : List Schema) (table : Table) (depth t ordinal : ℕ) (shape : Shape) (row : Row) where
  pub row_reached : IsClosed schemas table → IsShallow schemas (suc depth) t → IsSomeAnd (slice_get schemas t) (λ schema. schema.shape ≡ shape) → row_at table t ordinal ≡ Some row
      → All (λ named. CanPrint schemas table depth named.0 named.1) (references_of_row shape row)
  row_reached closed shallow there at =
      let (schema, found, same) = of_shape (slice_get schemas t) shape there in
      subst (λ s. All (λ named. CanPrint schemas table depth named.0 named.1) (references_of_row s row)) same
      (λ k d inside. let named = get_or (references_of_row schema.shape row) k d in
      both_hold (index_of_type schemas named.0) (λ u. IsLive table u named.1) (IsShallow schemas depth) (closed t ordinal schema row found at k d inside)
      (λ u is. names_shallow schemas depth t schema found shallow named.0 u (named_among schema.shape row k d inside) is))

  pub row_fits : IsTableOf schemas table → IsSomeAnd (slice_get schemas t) (λ schema. schema.shape ≡ shape) → row_at table t ordinal ≡ Some row → FitsShape shape row
  row_fits fits there at =
      let (schema, found, same) = of_shape (slice_get schemas t) shape there in
      subst (λ s. FitsShape s row) same (fits.rows t ordinal schema row found at)

-- ---- the parts of a row that can be printed

fields_can : (P : FieldKind → Value → Type 0) (fields : List Field) (values : List Value) → AllZip (λ field value. FitsKind field.kind value) fields values
    → All (λ valued. P valued.0.kind valued.1) (zip fields values) → All (λ valued. FitsKind valued.0.kind valued.1 × P valued.0.kind valued.1) (zip fields values)
fields_can P [] values fits all = All-nil (λ valued. FitsKind valued.0.kind valued.1 × P valued.0.kind valued.1)
fields_can P (field ∷ fields) [] fits all = absurd fits
fields_can P (field ∷ fields) (value ∷ values) fits all =
    All-cons (λ valued. FitsKind valued.0.kind valued.1 × P valued.0.kind valued.1) (field, value) (zip fields values)
    (fits.0, All-head (λ valued. P valued.0.kind valued.1) (field, value) (zip fields values) all)
    (fields_can P fields values fits.1 (All-tail (λ valued. P valued.0.kind valued.1) (field, value) (zip fields values) all))

module _ (schemas : List Schema) (table : Table) (depth : ℕ) (shape : Shape) (row : Row) (fits : FitsShape shape row) (each : All (λ named. CanPrint schemas table depth named.0 named.1) (references_of_row shape row)) where
  pub values_can : (key : Option (List Name)) (fields fs : List Field) (values vs : List Value) → shape ≡ Shape.Object key fields → row ≡ Row.Object values → fs ≡ fields → vs ≡ values
      → All (λ valued. CanPrintValue schemas table depth valued.0.kind valued.1) (zip fs vs)
  values_can key fields fs values vs shape_is row_is fs_are vs_are =
      let Can : Name × ℕ → Type 0 = λ named. CanPrint schemas table depth named.0 named.1 in
      let fits' : FitsShape (Shape.Object key fields) (Row.Object values) = subst (λ r. FitsShape (Shape.Object key fields) r) row_is (subst (λ s. FitsShape s row) shape_is fits) in
      let each' : All Can (references_of_row (Shape.Object key fields) (Row.Object values)) =
      subst (λ r. All Can (references_of_row (Shape.Object key fields) r)) row_is (subst (λ s. All Can (references_of_row s row)) shape_is each) in
      rw (fs_are, vs_are) (fields_can (λ kind value. All Can (references_of_value kind value)) fields values fits' (all_pieces Can (λ part. references_of_value part.0.kind part.1) (zip fields values) each'))

  pub ordinals_can : (element : Name) (ordinals os : List ℕ) → references_of_row shape row ≡ map (λ ordinal. (element, ordinal)) ordinals → os ≡ ordinals → All (CanPrint schemas table depth element) os
  ordinals_can element ordinals os named are =
      let Can : Name × ℕ → Type 0 = λ named. CanPrint schemas table depth named.0 named.1 in
      rw are (all_mapped Can (λ ordinal. (element, ordinal)) ordinals (subst (All Can) named each))

  pub pairs_can : (key value : Name) (pairs ps : List (ℕ × ℕ)) → shape ≡ Shape.Map key value → row ≡ Row.Map pairs → ps ≡ pairs → All (CanPrintPair schemas table depth key value) ps
  pairs_can key value pairs ps shape_is row_is are =
      let Can : Name × ℕ → Type 0 = λ named. CanPrint schemas table depth named.0 named.1 in
      let each' : All Can (references_of_row (Shape.Map key value) (Row.Map pairs)) =
      subst (λ r. All Can (references_of_row (Shape.Map key value) r)) row_is (subst (λ s. All Can (references_of_row s row)) shape_is each) in
      rw are (All-weaker (λ pair. All Can ((key, pair.0) ∷ (value, pair.1) ∷ [])) (CanPrintPair schemas table depth key value)
      (λ pair both. (All-head Can (key, pair.0) ((value, pair.1) ∷ []) both, All-head Can (value, pair.1) [] (All-tail Can (key, pair.0) ((value, pair.1) ∷ []) both)))
      pairs (all_pieces Can (λ pair. (key, pair.0) ∷ (value, pair.1) ∷ []) pairs each'))

-- the row that a REFERENCE refers to
pub reference_can : (schemas : List Schema) (table : Table) (depth : ℕ) (name : Name) (ordinal : ℕ) (kind : FieldKind) (value : Value) → kind ≡ FieldKind.Reference name → value ≡ Value.Ref ordinal
    → CanPrintValue schemas table depth kind value → CanPrint schemas table depth name ordinal
reference_can schemas table depth name ordinal kind value kind_is value_is can =
    let named : CanPrintValue schemas table depth (FieldKind.Reference name) (Value.Ref ordinal) =
    subst (CanPrintValue schemas table depth (FieldKind.Reference name)) value_is (subst (λ k. CanPrintValue schemas table depth k value) kind_is can) in
    All-head (λ (row : Name × ℕ). CanPrint schemas table depth row.0 row.1) (name, ordinal) [] named.1
