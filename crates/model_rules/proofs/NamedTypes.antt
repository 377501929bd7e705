-- The indexes of the types that a list of fields or a type names.
use Rattle.std.proofs.Common.{◌≡◌, ℕ, zero, suc, ◌+◌, ◌<◌, ◌∙◌, sym, ap, refl, List, [], ◌∷◌, ◌++◌, Option, Some, None, length, slice_get, take, drop, arith, true, false, Bool, ◌&&◌, is_some, map, append_assoc, cond}
use Rattle.std.proofs.Math.Path.{fun_ext}
use Rattle.schema_model.proofs.BrokenRules.{breaks_itself}
use Rattle.std.specs.Prelude.{Any}
use Rattle.std.specs.List.{filter_map}
use Rattle.std.proofs.lemmas.Bool.{and_parts, and_from, and_left, and_right}
use Rattle.std.proofs.lemmas.List.{take_more, take-append-drop, map-append}
use Rattle.std.proofs.lemmas.List.Elements.{filter_map-append}
use Rattle.std.proofs.lemmas.List.Folds.{list_all-append}
use Rattle.std.proofs.lemmas.Option.{slice_get_within, get_or_from_slice_get}
use Rattle.model_rules.specs.RuleTests.{are_known, all_indexes}
use Rattle.schema_model.specs.Model.{BreaksAt, named_indexes}
use Rattle.schema_model.specs.Parts.{referenced, referenced_names, named_types, index_of_type}
use Rattle.schema_model.specs.declared.model.rule.Rule.TheVariants.{UnknownType}
use Rattle.schema_model.specs.declared.schema.Field.{Field}
use Rattle.schema_model.specs.declared.schema.Schema.{Schema}

-- one field more
names_more : (fields : List Field) (i : ℕ) (field : Field) → slice_get fields i ≡ Some field → referenced_names (take (i + 1) fields) ≡ referenced_names (take i fields) ++ referenced_names (field ∷ [])
names_more fields i field at =
    ap referenced_names (take_more fields i field (slice_get_within fields i field at) ∙ ap (λ f. take i fields ++ f ∷ []) (get_or_from_slice_get fields i field field at))
    ∙ filter_map-append (λ f. referenced f.kind) (take i fields) (field ∷ [])

-- the names of a longer list of fields are known where those of both parts are
pub known_more : (find : List ℕ → Option ℕ) (fields : List Field) (i : ℕ) (field : Field) → slice_get fields i ≡ Some field
    → are_known find (referenced_names (take i fields)) ≡ true → are_known find (referenced_names (field ∷ [])) ≡ true → are_known find (referenced_names (take (i + 1) fields)) ≡ true
known_more find fields i field at front last =
    ap (are_known find) (names_more fields i field at)
    ∙ list_all-append (λ name. is_some (find name)) (referenced_names (take i fields)) (referenced_names (field ∷ []))
    ∙ and_from _ _ front last

-- the row of a longer list of fields
pub row_more : (find : List ℕ → Option ℕ) (fields : List Field) (i : ℕ) (field : Field) → slice_get fields i ≡ Some field → (start old new : List ℕ)
    → old ≡ start ++ filter_map find (referenced_names (take i fields)) → new ≡ old ++ filter_map find (referenced_names (field ∷ [])) → new ≡ start ++ filter_map find (referenced_names (take (i + 1) fields))
row_more find fields i field at start old new front last =
    last ∙ ap (λ xs. xs ++ filter_map find (referenced_names (field ∷ []))) front
    ∙ append_assoc start (filter_map find (referenced_names (take i fields))) (filter_map find (referenced_names (field ∷ [])))
    ∙ ap (λ xs. start ++ xs) (sym (ap (filter_map find) (names_more fields i field at) ∙ filter_map-append find (referenced_names (take i fields)) (referenced_names (field ∷ []))))

-- one unknown name settles it
pub unknown_at : (find : List ℕ → Option ℕ) (fields : List Field) (i : ℕ) (field : Field) → slice_get fields i ≡ Some field → are_known find (referenced_names (field ∷ [])) ≡ false → are_known find (referenced_names fields) ≡ false
unknown_at find fields i field at none =
    ap (λ fs. are_known find (referenced_names fs)) (sym (take-append-drop (i + 1) fields))
    ∙ ap (are_known find) (filter_map-append (λ f. referenced f.kind) (take (i + 1) fields) (drop (i + 1) fields))
    ∙ list_all-append (λ name. is_some (find name)) (referenced_names (take (i + 1) fields)) (referenced_names (drop (i + 1) fields))
    ∙ and_left _ _ (ap (are_known find) (names_more fields i field at)
    ∙ list_all-append (λ name. is_some (find name)) (referenced_names (take i fields)) (referenced_names (field ∷ []))
    ∙ and_right _ _ none)

unknown_first : (find : List ℕ → Option ℕ) (name : List ℕ) (names : List (List ℕ)) (o : Option ℕ) → find name ≡ o → (is_some o && are_known find names) ≡ false
    → (are_known find names ≡ false → Any (λ n. find n ≡ None) names) → Any (λ n. find n ≡ None) (name ∷ names)
unknown_first find name names None at none rest = (0, name, omega arith, refl, at)
unknown_first find name names (Some j) at none rest = let (k, x, inside, same, missing) = rest none in (suc k, x, omega arith, same, missing)

-- where not all names are known one of them is not
pub unknown_found : (find : List ℕ → Option ℕ) (names : List (List ℕ)) → are_known find names ≡ false → Any (λ n. find n ≡ None) names
unknown_found find [] none = absurd (let bad : true ≡ false = none in cc)
unknown_found find (name ∷ names) none = unknown_first find name names (find name) refl none (unknown_found find names)

-- where all names are known each is
pub all_found : (find : List ℕ → Option ℕ) (names : List (List ℕ)) → are_known find names ≡ true → Any (λ n. find n ≡ None) names → ⊥
all_found find [] good (k, x, inside, same, missing) = omega arith
all_found find (name ∷ names) good (zero, x, inside, same, missing) =
    let bad : false ≡ true = sym (ap is_some (ap find same ∙ missing)) ∙ (and_parts (is_some (find name)) (are_known find names) good).0 in cc
all_found find (name ∷ names) good (suc k, x, inside, same, missing) =
    all_found find names (and_parts (is_some (find name)) (are_known find names) good).1 (k, x, let less : k < length names = omega arith in less, same, missing)

row_by : (b : Bool) (row xs : List ℕ) → Some row ≡ cond b (Some xs) None → (b ≡ true) × (row ≡ xs)
row_by true row xs e = (refl, cc)
row_by false row xs e = absurd cc

none_by : (b : Bool) (xs : List ℕ) → None ≡ cond b (Some xs) None → b ≡ false
none_by true xs e = absurd cc
none_by false xs e = refl

-- a row says that each named type is there, and has their indexes
pub known_row : (schemas : List Schema) (find : List ℕ → Option ℕ) (s : Schema) (row : List ℕ) → ((name : List ℕ) → find name ≡ index_of_type schemas name) → Some row ≡ all_indexes find (named_types s)
    → (are_known (index_of_type schemas) (named_types s) ≡ true) × (row ≡ named_indexes schemas s)
known_row schemas find s row indexed found =
    let known = row_by (are_known find (named_types s)) row (filter_map find (named_types s)) found in
    let same : find ≡ index_of_type schemas = fun_ext indexed in
    (ap (λ f. are_known f (named_types s)) (sym same) ∙ known.0, known.1 ∙ ap (λ f. filter_map f (named_types s)) same)

-- a type with a row names no other type
pub names_known : (schemas : List Schema) (t : ℕ) (s : Schema) → slice_get schemas t ≡ Some s → are_known (index_of_type schemas) (named_types s) ≡ true → BreaksAt schemas UnknownType t → ⊥
names_known schemas t s at known breaks = all_found (index_of_type schemas) (named_types s) known (breaks_itself schemas UnknownType t s at breaks)

-- a type without a row names another type
pub names_unknown : (schemas : List Schema) (find : List ℕ → Option ℕ) (t : ℕ) (s : Schema) → slice_get schemas t ≡ Some s → ((name : List ℕ) → find name ≡ index_of_type schemas name) → None ≡ all_indexes find (named_types s) → BreaksAt schemas UnknownType t
names_unknown schemas find t s at indexed none =
    let same : find ≡ index_of_type schemas = fun_ext indexed in
    let unknown = none_by (are_known find (named_types s)) (filter_map find (named_types s)) none in
    (s, at, unknown_found (index_of_type schemas) (named_types s) (ap (λ f. are_known f (named_types s)) (sym same) ∙ unknown))

-- one row more
pub rows_more : {X : Type 0} (f : Schema → X) (schemas : List Schema) (t : ℕ) (s : Schema) → slice_get schemas t ≡ Some s → map f (take (t + 1) schemas) ≡ map f (take t schemas) ++ f s ∷ []
rows_more f schemas t s at =
    ap (map f) (take_more schemas t s (slice_get_within schemas t s at) ∙ ap (λ x. take t schemas ++ x ∷ []) (get_or_from_slice_get schemas t s s at))
    ∙ map-append f (take t schemas) (s ∷ [])
