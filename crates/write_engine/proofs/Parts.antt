-- The parts of a tree are added one behind another.
use Rattle.std.proofs.Common.{◌≡◌, ℕ, zero, suc, ◌+◌, ◌<◌, ◌≤◌, List, [], ◌∷◌, ◌++◌, length, get_or, drop, map, Option, Some, None, refl, sym, ap, subst, ◌∙◌, arith, append_assoc}
use Rattle.std.specs.Prelude.{slice_get, slice_index_or, option_map, option_and_then, IsSome, IsSomeAnd, Result, Ok, Err, IfOk}
use Rattle.std.proofs.lemmas.List.{append-nil}
use Rattle.std.proofs.lemmas.Option.{slice_get_read, slice_get-map, slice_get_within}
use Rattle.row_model.specs.declared.row.Value.{Value}
use Rattle.schema_model.specs.declared.schema.Field.{Field}
use Rattle.schema_model.specs.declared.schema.FieldKind.{FieldKind}
use Rattle.schema_model.specs.declared.schema.Schema.{Schema}
use Rattle.row_model.specs.PlainTree.{PlainTree, PlainPairs, leaf, object, list, set, map as of_map, trees_of_list, pairs_of_list}
use Rattle.row_model.specs.Table.{Table}
use Rattle.write_engine.specs.Cycle.{Adds, AddsFields, AddsAll, AddsPairs, IsMapOf, PutsRow}
use Rattle.ordinal_map.specs.declared.fault.PutRowFault.{PutRowFault}
use Rattle.row_model.specs.Row.{IsValueInRange, stored_value}
use Rattle.write_engine.specs.Leaf.{TellsLeaf}
use Rattle.record_trees.specs.FitsTree.{FitsTree, FitFields, FitAll, FitPairs, IsConsAnd, IsLeafOr, FitsLeaf}
use Rattle.record_trees.specs.Types.{object_fields, list_element, set_element, map_types, referred, shape_at}
use Rattle.schema_model.specs.declared.schema.Shape.{Shape}
use Rattle.schema_model.specs.declared.schema.name.Name.{Name}
use Rattle.row_model.specs.declared.row.Row.{Row}
use Rattle.schema_model.specs.Parts.{index_of_type}

pub drop_at : {A : Type 0} (xs : List A) (k : ℕ) (x : A) → slice_get xs k ≡ Some x → drop k xs ≡ x ∷ drop (k + 1) xs
drop_at [] k x is = absurd cc
drop_at (y ∷ xs) zero x is = let same : y ≡ x = cc in ap (λ z. z ∷ xs) same
drop_at {A = A} (y ∷ xs) (suc k) x is =
    let next : suc (k + 1) ≡ suc k + 1 = omega arith in
    drop_at xs k x is ∙ ap (λ n. x ∷ drop n (y ∷ xs)) next

pub image_at : {A B : Type 0} (see : A → B) (xs : List A) (k : ℕ) (x : A) → k < length xs → x ≡ get_or xs k x → slice_get (map see xs) k ≡ Some (see x)
image_at see xs k x within is = slice_get-map see xs k ∙ ap (option_map see) (slice_get_read xs (length xs) k x refl within is)

cons_at : {A : Type 0} (xs : List A) (k : ℕ) (P : A → List A → Type 0) → IsConsAnd (drop k xs) P → (x : A) × (slice_get xs k ≡ Some x) × P x (drop (k + 1) xs)
cons_at [] zero P h = absurd h
cons_at [] (suc k) P h = absurd h
cons_at (x ∷ xs) zero P h = (x, refl, h)
cons_at (x ∷ xs) (suc k) P h =
    let found = cons_at xs k P h in
    let next : suc (k + 1) ≡ suc k + 1 = omega arith in
    (found.0, found.1, subst (λ n. P found.0 (drop n (x ∷ xs))) next found.2)

-- all items are behind
pub none_left : {A : Type 0} (xs : List A) (k : ℕ) → length xs ≤ k → drop k xs ≡ []
none_left [] zero past = refl
none_left [] (suc k) past = refl
none_left (x ∷ xs) zero past = absurd (omega arith)
none_left (x ∷ xs) (suc k) past = none_left xs k (omega arith)

pub length_images : {A B : Type 0} (see : A → B) (xs : List A) → length (map see xs) ≡ length xs
length_images see [] = refl
length_images see (x ∷ xs) = ap suc (length_images see xs)

pub all_done : (schemas : List Schema) (previous : Table) (t : ℕ) (xs : List PlainTree) (k : ℕ) (start now : Table) (ordinals : List ℕ) → length xs ≤ k
    → ((rest : List ℕ) (after : Table) → AddsAll schemas previous t (trees_of_list (drop k xs)) now rest after → AddsAll schemas previous t (trees_of_list xs) start (ordinals ++ rest) after) → AddsAll schemas previous t (trees_of_list xs) start ordinals now
all_done schemas previous t xs k start now ordinals past so_far =
    subst (λ os. AddsAll schemas previous t (trees_of_list xs) start os now) (append-nil ordinals)
    (so_far [] now (subst (λ rest. AddsAll schemas previous t (trees_of_list rest) now [] now) (sym (none_left xs k past)) (refl, refl)))

pub pairs_done : (schemas : List Schema) (previous : Table) (types : ℕ × ℕ) (xs : List (PlainTree × PlainTree)) (k : ℕ) (start now : Table) (pairs : List (ℕ × ℕ)) → length xs ≤ k
    → ((rest : List (ℕ × ℕ)) (after : Table) → AddsPairs schemas previous types (pairs_of_list (drop k xs)) now rest after → AddsPairs schemas previous types (pairs_of_list xs) start (pairs ++ rest) after)
    → AddsPairs schemas previous types (pairs_of_list xs) start pairs now
pairs_done schemas previous types xs k start now pairs past so_far =
    subst (λ ps. AddsPairs schemas previous types (pairs_of_list xs) start ps now) (append-nil pairs)
    (so_far [] now (subst (λ rest. AddsPairs schemas previous types (pairs_of_list rest) now [] now) (sym (none_left xs k past)) (refl, refl)))

module _ (schemas : List Schema) (previous now : Table) (same : now ≡ previous) where
  module _ (t : ℕ) (xs : List PlainTree) (k : ℕ) (x : PlainTree) (here : slice_get xs k ≡ Some x) where
    pub all_fits : FitAll schemas t (trees_of_list (drop k xs)) → FitsTree schemas t x × FitAll schemas t (trees_of_list (drop (k + 1) xs))
    all_fits fits = subst (λ rest. FitAll schemas t (trees_of_list rest)) (drop_at xs k x here) fits

    pub all_more : (start before middle : Table) (ordinals pushed : List ℕ) (o : ℕ) → pushed ≡ ordinals ++ o ∷ [] → Adds schemas now t x before o middle
        → ((rest : List ℕ) (after : Table) → AddsAll schemas previous t (trees_of_list (drop k xs)) before rest after → AddsAll schemas previous t (trees_of_list xs) start (ordinals ++ rest) after)
        → (rest : List ℕ) (after : Table) → AddsAll schemas previous t (trees_of_list (drop (k + 1) xs)) middle rest after → AddsAll schemas previous t (trees_of_list xs) start (pushed ++ rest) after
    all_more start before middle ordinals pushed o push added so_far rest after h =
        subst (λ all. AddsAll schemas previous t (trees_of_list xs) start all after) (sym (append_assoc ordinals (o ∷ []) rest) ∙ ap (λ (p : List ℕ). p ++ rest) (sym push))
        (so_far (o ∷ rest) after (subst (λ trees. AddsAll schemas previous t (trees_of_list trees) before (o ∷ rest) after) (sym (drop_at xs k x here))
        (o, rest, middle, refl, subst (λ p. Adds schemas p t x before o middle) same added, h)))

    -- the next field, and the trees behind it
    pub field_fits : (fields : List Field) → FitFields schemas (drop k fields) (trees_of_list (drop k xs))
        → (field : Field) × (slice_get fields k ≡ Some field) × (IsLeafOr x (FitsLeaf field.kind) (IsSomeAnd (referred schemas field.kind) (λ t. FitsTree schemas t x)) × FitFields schemas (drop (k + 1) fields) (trees_of_list (drop (k + 1) xs)))
    field_fits fields fits =
        cons_at fields k (λ field others. IsLeafOr x (FitsLeaf field.kind) (IsSomeAnd (referred schemas field.kind) (λ t. FitsTree schemas t x)) × FitFields schemas others (trees_of_list (drop (k + 1) xs)))
        (subst (λ rest. FitFields schemas (drop k fields) (trees_of_list rest)) (drop_at xs k x here) fits)

-- a tree that fits a type has one
some_index : {A : Type 0} (schemas : List Schema) (t : ℕ) (ask : Shape → Option A) (P : A → Type 0) → IsSomeAnd (option_and_then ask (shape_at schemas t)) P → t < length schemas
some_index schemas t ask P fits = of_schema (slice_get schemas t) refl fits
  where
    of_schema : (found : Option Schema) → slice_get schemas t ≡ found → IsSomeAnd (option_and_then ask (option_map (λ schema. schema.shape) found)) P → t < length schemas
    of_schema None e fits = absurd fits
    of_schema (Some schema) e fits = slice_get_within schemas t schema e

pub fits_index : (schemas : List Schema) (t : ℕ) (tree : PlainTree) → FitsTree schemas t tree → t < length schemas
fits_index schemas t (leaf value) fits = absurd fits
fits_index schemas t (object trees) fits = some_index schemas t object_fields _ fits
fits_index schemas t (list trees) fits = some_index schemas t (list_element schemas) _ fits
fits_index schemas t (set trees) fits = some_index schemas t (set_element schemas) _ fits
fits_index schemas t (of_map pairs) fits = some_index schemas t (map_types schemas) _ fits.0

module _ (schemas : List Schema) (previous now : Table) (same : now ≡ previous) where
  module _ (types : ℕ × ℕ) (xs : List (PlainTree × PlainTree)) (k : ℕ) (x : PlainTree × PlainTree) (here : slice_get xs k ≡ Some x) where
    pub pair_fits : FitPairs schemas types (pairs_of_list (drop k xs)) → FitsTree schemas types.0 x.0 × FitsTree schemas types.1 x.1 × FitPairs schemas types (pairs_of_list (drop (k + 1) xs))
    pair_fits fits = subst (λ rest. FitPairs schemas types (pairs_of_list rest)) (drop_at xs k x here) fits

    pub pairs_more : (start before keyed middle now' : Table) (pairs pushed : List (ℕ × ℕ)) (a b : ℕ) → now' ≡ now → pushed ≡ pairs ++ (a, b) ∷ [] → Adds schemas now types.0 x.0 before a keyed → Adds schemas now' types.1 x.1 keyed b middle
        → ((rest : List (ℕ × ℕ)) (after : Table) → AddsPairs schemas previous types (pairs_of_list (drop k xs)) before rest after → AddsPairs schemas previous types (pairs_of_list xs) start (pairs ++ rest) after)
        → (rest : List (ℕ × ℕ)) (after : Table) → AddsPairs schemas previous types (pairs_of_list (drop (k + 1) xs)) middle rest after → AddsPairs schemas previous types (pairs_of_list xs) start (pushed ++ rest) after
    pairs_more start before keyed middle now' pairs pushed a b same' push added added' so_far rest after h =
        subst (λ all. AddsPairs schemas previous types (pairs_of_list xs) start all after) (sym (append_assoc pairs ((a, b) ∷ []) rest) ∙ ap (λ (p : List (ℕ × ℕ)). p ++ rest) (sym push))
        (so_far ((a, b) ∷ rest) after (subst (λ trees. AddsPairs schemas previous types (pairs_of_list trees) before ((a, b) ∷ rest) after) (sym (drop_at xs k x here))
        (a, b, rest, keyed, middle, refl, subst (λ p. Adds schemas p types.0 x.0 before a keyed) same added, subst (λ p. Adds schemas p types.1 x.1 keyed b middle) (same' ∙ same) added', h)))

pub map_types_are : (schemas : List Schema) (key value : Name) (k v : ℕ) → index_of_type schemas key ≡ Some k → index_of_type schemas value ≡ Some v → map_types schemas (Shape.Map key value) ≡ Some (k, v)
map_types_are schemas key value k v is_key is_value = ap (λ i. option_and_then (λ a. option_map (λ b. (a, b)) (index_of_type schemas value)) i) is_key ∙ ap (option_map (λ b. (k, b))) is_value

-- a map's row is put
pub map_added : (schemas : List Schema) (previous previous' : Table) (t : ℕ) (schema : Schema) (key value : Name) (k v : ℕ) (pairs : PlainPairs) (before middle after : Table) (added members : List (ℕ × ℕ)) (ordinal : ℕ)
    → slice_get schemas t ≡ Some schema → schema.shape ≡ Shape.Map key value → index_of_type schemas key ≡ Some k → index_of_type schemas value ≡ Some v → previous' ≡ previous
    → AddsPairs schemas previous (k, v) pairs before added middle → IsMapOf added members → PutsRow previous' t (Row.Map members) middle ordinal after → Adds schemas previous t (of_map pairs) before ordinal after
map_added schemas previous previous' t schema key value k v pairs before middle after added members ordinal type shape is_key is_value same adds is puts =
    let at : shape_at schemas t ≡ Some (Shape.Map key value) = ap (option_map (λ s. s.shape)) type ∙ ap Some shape in
    let types : option_and_then (map_types schemas) (shape_at schemas t) ≡ Some (k, v) = ap (option_and_then (map_types schemas)) at ∙ map_types_are schemas key value k v is_key is_value in
    ((k, v), added, middle, types, adds, (members, is, subst (λ p. PutsRow p t (Row.Map members) middle ordinal after) same puts))

-- the same of what the put answers
pub map_put : (schemas : List Schema) (previous previous' : Table) (t : ℕ) (schema : Schema) (key value : Name) (k v : ℕ) (pairs : PlainPairs) (before middle after : Table) (added members : List (ℕ × ℕ)) (result : Result ℕ PutRowFault)
    → slice_get schemas t ≡ Some schema → schema.shape ≡ Shape.Map key value → index_of_type schemas key ≡ Some k → index_of_type schemas value ≡ Some v → previous' ≡ previous
    → AddsPairs schemas previous (k, v) pairs before added middle → IsMapOf added members → IfOk result (λ ordinal. PutsRow previous' t (Row.Map members) middle ordinal after)
    → IfOk result (λ ordinal. Adds schemas previous t (of_map pairs) before ordinal after)
map_put schemas previous previous' t schema key value k v pairs before middle after added members (Err fault) type shape is_key is_value same adds is puts = tt
map_put schemas previous previous' t schema key value k v pairs before middle after added members (Ok ordinal) type shape is_key is_value same adds is puts =
    map_added schemas previous previous' t schema key value k v pairs before middle after added members ordinal type shape is_key is_value same adds is puts

pub read_at : {A : Type 0} (xs : List A) (k : ℕ) (x d : A) → slice_get xs k ≡ Some x → slice_index_or xs k d ≡ x
read_at [] k x d is = absurd cc
read_at (y ∷ xs) zero x d is = cc
read_at (y ∷ xs) (suc k) x d is = read_at xs k x d is

-- a tree that is no value is a row
pub of_row : (x : PlainTree) (P : Value → Type 0) (Q : Type 0) → TellsLeaf x None → IsLeafOr x P Q → Q
of_row (leaf value) P Q tells h = absurd tells
of_row (object trees) P Q tells h = h
of_row (list trees) P Q tells h = h
of_row (set trees) P Q tells h = h
of_row (of_map pairs) P Q tells h = h

pub as_row : (x : PlainTree) (P : Value → Type 0) (Q : Type 0) → TellsLeaf x None → Q → IsLeafOr x P Q
as_row (leaf value) P Q tells h = absurd tells
as_row (object trees) P Q tells h = h
as_row (list trees) P Q tells h = h
as_row (set trees) P Q tells h = h
as_row (of_map pairs) P Q tells h = h

-- what a field's tree becomes
abbrev pub AddsField : List Schema → Table → Field → PlainTree → Table → Value → Table → Type 0
AddsField schemas previous field x before value middle =
    IsLeafOr x (λ found. FitsLeaf field.kind found × IsValueInRange found × (value ≡ stored_value found) × (middle ≡ before))
    ((t : ℕ) × (ordinal : ℕ) × (referred schemas field.kind ≡ Some t) × Adds schemas previous t x before ordinal middle × (value ≡ Value.Ref ordinal))

pub as_leaf : (schemas : List Schema) (previous : Table) (field : Field) (x : PlainTree) (Q : Type 0) (before middle : Table) (value : Value) → TellsLeaf x (Some value) → IsLeafOr x (FitsLeaf field.kind) Q → middle ≡ before → AddsField schemas previous field x before value middle
as_leaf schemas previous field (leaf found) Q before middle value tells fits same = (fits, tells.0, tells.1, same)
as_leaf schemas previous field (object trees) Q before middle value tells fits same = absurd tells
as_leaf schemas previous field (list trees) Q before middle value tells fits same = absurd tells
as_leaf schemas previous field (set trees) Q before middle value tells fits same = absurd tells
as_leaf schemas previous field (of_map pairs) Q before middle value tells fits same = absurd tells

pub as_reference : (schemas : List Schema) (previous now : Table) → now ≡ previous → (field read : Field) → read ≡ field → (x : PlainTree) (t ordinal : ℕ) (before middle after : Table) (value : Value) → TellsLeaf x None
    → referred schemas read.kind ≡ Some t → Adds schemas now t x before ordinal middle → after ≡ middle → value ≡ Value.Ref ordinal → AddsField schemas previous field x before value after
as_reference schemas previous now same field read is x t ordinal before middle after value tells to added end gives =
    as_row x _ _ tells (
      t,
      ordinal,
      ap (λ f. referred schemas f.kind) (sym is) ∙ to,
      subst (λ m. Adds schemas previous t x before ordinal m) (sym end) (subst (λ p. Adds schemas p t x before ordinal middle) same added),
      gives,
    )

pub referred_fits : (schemas : List Schema) (kind : FieldKind) (x : PlainTree) (t : ℕ) → referred schemas kind ≡ Some t → IsSomeAnd (referred schemas kind) (λ t. FitsTree schemas t x) → FitsTree schemas t x
referred_fits schemas kind x t is fits = subst (λ o. IsSomeAnd o (λ t. FitsTree schemas t x)) is fits

pub some_and : {A : Type 0} (o : Option A) (P : A → Type 0) → IsSomeAnd o P → IsSome o
some_and None P h = absurd h
some_and (Some x) P h = refl

module _ (schemas : List Schema) (previous : Table) (fields : List Field) (xs : List PlainTree) (k : ℕ) (x : PlainTree) (here : slice_get xs k ≡ Some x) (field : Field) (there : slice_get fields k ≡ Some field) where
  pub fields_more : (start before middle : Table) (values pushed : List Value) (value : Value) → pushed ≡ values ++ value ∷ [] → AddsField schemas previous field x before value middle
      → ((rest : List Value) (after : Table) → AddsFields schemas previous (drop k fields) (trees_of_list (drop k xs)) before rest after → AddsFields schemas previous fields (trees_of_list xs) start (values ++ rest) after)
      → (rest : List Value) (after : Table) → AddsFields schemas previous (drop (k + 1) fields) (trees_of_list (drop (k + 1) xs)) middle rest after → AddsFields schemas previous fields (trees_of_list xs) start (pushed ++ rest) after
  fields_more start before middle values pushed value push added so_far rest after h =
      subst (λ all. AddsFields schemas previous fields (trees_of_list xs) start all after) (sym (append_assoc values (value ∷ []) rest) ∙ ap (λ (p : List Value). p ++ rest) (sym push))
      (so_far (value ∷ rest) after (subst (λ trees. AddsFields schemas previous (drop k fields) (trees_of_list trees) before (value ∷ rest) after) (sym (drop_at xs k x here))
      (field, drop (k + 1) fields, value, rest, middle, drop_at fields k field there, refl, added, h)))

pub fields_done : (schemas : List Schema) (previous : Table) (fields : List Field) (xs : List PlainTree) (k : ℕ) (start now : Table) (values : List Value) → length xs ≤ k
    → FitFields schemas (drop k fields) (trees_of_list (drop k xs))
    → ((rest : List Value) (after : Table) → AddsFields schemas previous (drop k fields) (trees_of_list (drop k xs)) now rest after → AddsFields schemas previous fields (trees_of_list xs) start (values ++ rest) after)
    → AddsFields schemas previous fields (trees_of_list xs) start values now
fields_done schemas previous fields xs k start now values past fits so_far =
    let none = none_left xs k past in
    let last : drop k fields ≡ [] = subst (λ rest. FitFields schemas (drop k fields) (trees_of_list rest)) none fits in
    subst (λ vs. AddsFields schemas previous fields (trees_of_list xs) start vs now) (append-nil values)
    (so_far [] now (subst (λ rest. AddsFields schemas previous (drop k fields) (trees_of_list rest) now [] now) (sym none) (last, refl, refl)))
