-- The keys of what a change removes are read one after another.
use Rattle.std.proofs.Common.{◌≡◌, ◌∙◌, ◌⊎◌, ◌<◌, ◌≤◌, ◌+◌, ℕ, List, [], ◌∷◌, ◌++◌, take, drop, length, get_or, Option, Some, None, Err, inl, inr, refl, sym, ap, subst, arith, append_assoc}
use Rattle.std.specs.Prelude.{All, IsSome, IsSomeAnd, slice_get}
use Rattle.std.specs.List.{AllZip, flat_map}
use Rattle.std.specs.Option.{option_and_then, option_map_or}
use Rattle.std.proofs.lemmas.Bool.{cases_lt}
use Rattle.std.proofs.lemmas.List.{append-nil, length-map}
use Rattle.std.proofs.lemmas.List.Elements.{All-contains, All-cons, All-nil}
use Rattle.std.proofs.lemmas.Option.{slice_get_within}
use Rattle.serde_json.specs.Data.{Data}
use Rattle.serde_json.specs.Find.{as_array, get}
use Rattle.schema_model.specs.Model.{IsKept}
use Rattle.schema_model.specs.Parts.{index_of_type, type_names}
use Rattle.schema_model.specs.Path.{Resolves}
use Rattle.schema_model.specs.declared.model.path.Path.{Path}
use Rattle.schema_model.specs.declared.model.rule.Rule.TheVariants.{DuplicateName}
use Rattle.schema_model.specs.declared.schema.Schema.{Schema}
use Rattle.schema_model.proofs.Indexing.{item_name, name_found, name_missing, stands_earlier}
use Rattle.row_model.specs.Key.{IsResolved}
use Rattle.row_model.specs.declared.row.Value.{Value}
use Rattle.json_values.specs.KeyFrom.{SpellsKey}
use Rattle.hol_incremental.specs.Edited.{Keys}
use Rattle.hol_incremental.specs.EditKeys.{TellsKeyPaths}
use Rattle.hol_incremental.specs.Roots.{AreKeyPaths, IsKeyed, key_texts}
use Rattle.hol_incremental.proofs.FoundPaths.{paths_once}
use Rattle.hol_incremental.proofs.OnceLists.{all_of}
use Rattle.hollow_machine.specs.Records.{AreKeyedTypes, AreTypes, Entry, GivesKey, SpellsKeys, entries_at, entries_of_type, listed, names_of, placed, values_under}
use Rattle.producer_orders.proofs.Placed.{entry_at, front_entries, types_all, types_more, types_rest, values_all, values_more, values_rest}
use Rattle.producer_orders.specs.declared.cycle_end.CycleEnd.{CycleEnd}
use Rattle.producer_orders.specs.declared.cycle_end.CycleEnd.TheVariants as cycle_end
use Rattle.change_orders.specs.Reading.{GiveKeys, TellsKeys, TellsKeysBehind}
use Rattle.change_orders.proofs.KeyedRecords.{behind}
use Rattle.change_orders.proofs.KeyedTypes.{under_in}

-- ---- a name leads back to its type

pub index_back : (schemas : List Schema) → IsKept schemas DuplicateName → (t : ℕ) (schema : Schema) → slice_get schemas t ≡ Some schema → index_of_type schemas schema.name ≡ Some t
index_back schemas names t schema at = by_index (index_of_type schemas schema.name) refl
  where
    here : get_or (type_names schemas) t [] ≡ schema.name
    here = item_name (λ (s : Schema). s.name) schemas t schema at

    within : t < length (type_names schemas)
    within = let long = length-map schemas (λ (s : Schema). s.name) in let inside = slice_get_within schemas t schema at in omega (arith, long, inside)

    by_index : (index : Option ℕ) → index_of_type schemas schema.name ≡ index → index_of_type schemas schema.name ≡ Some t
    by_index None is = absurd (name_missing (type_names schemas) schema.name is t within here)
    by_index (Some u) is = elim (cases_lt u t) [
      | inl below ↦ absurd (names t (schema, at, inl (stands_earlier (type_names schemas) t u within (ap (index_of_type schemas) here ∙ is) below)))
      | inr past ↦ elim (cases_lt t u) [
        | inl before ↦ absurd ((name_found (type_names schemas) schema.name u is).2 t before here)
        | inr not ↦ let same : u ≡ t = omega (arith, past, not) in is ∙ ap (λ (n : ℕ). Some n) same
      ]
    ]

-- what stands under the name of a type is that of a type with a primary key, or nothing
pub keyed_or_none : (schemas : List Schema) → IsKept schemas DuplicateName → (json : Data) → AreKeyedTypes schemas json → (t : ℕ) (schema : Schema) → slice_get schemas t ≡ Some schema
    → IsKeyed schemas t ⊎ (values_under json schema.name ≡ [])
keyed_or_none schemas names json keyed t schema at = by_part (get schema.name json) refl
  where
    by_part : (part : Option Data) → get schema.name json ≡ part → IsKeyed schemas t ⊎ (values_under json schema.name ≡ [])
    by_part None is = inr (ap (λ (o : Option Data). option_map_or listed (option_and_then as_array o) []) is)
    by_part (Some part) is =
        let among = under_in json schema.name (subst IsSome (sym is) refl) in
        let there = All-contains (λ name. IsSomeAnd (index_of_type schemas name) (IsKeyed schemas)) (names_of json) schema.name keyed among in
        inl (subst (λ (o : Option ℕ). IsSomeAnd o (IsKeyed schemas)) (index_back schemas names t schema at) there)

-- types with primary keys are types
pub keyed_are : (schemas : List Schema) (json : Data) → AreKeyedTypes schemas json → AreTypes schemas json
keyed_are schemas json keyed =
    all_of (λ name. IsSome (index_of_type schemas name)) (names_of json)
    (λ name among. some_of (index_of_type schemas name) (All-contains (λ n. IsSomeAnd (index_of_type schemas n) (IsKeyed schemas)) (names_of json) name keyed among))
  where
    some_of : (o : Option ℕ) → IsSomeAnd o (IsKeyed schemas) → IsSome o
    some_of None is = absurd is
    some_of (Some t) is = refl

-- ---- the paths of a key

resolved_own : (schemas : List Schema) (t : ℕ) (texts : List (List ℕ)) (paths : List Path) → AllZip (λ text path. Resolves schemas t text path) texts paths → All (λ path. IsResolved schemas path.type_index path) paths
resolved_own schemas t [] [] are = All-nil (λ (path : Path). IsResolved schemas path.type_index path)
resolved_own schemas t [] (path ∷ paths) are = absurd are
resolved_own schemas t (text ∷ texts) [] are = absurd are
resolved_own schemas t (text ∷ texts) (path ∷ paths) are =
    All-cons (λ (p : Path). IsResolved schemas p.type_index p) path paths (subst (λ (u : ℕ). IsResolved schemas u path) (sym are.0.0) (text, are.0)) (resolved_own schemas t texts paths are.1)

pub paths_resolved : (schemas : List Schema) (t : ℕ) (paths : List Path) → AreKeyPaths schemas t paths → All (λ path. IsResolved schemas path.type_index path) paths
paths_resolved schemas t paths are = by_texts (key_texts schemas t) are
  where
    by_texts : (texts : Option (List (List ℕ))) → IsSomeAnd texts (λ ts. AllZip (λ text path. Resolves schemas t text path) ts paths) → All (λ path. IsResolved schemas path.type_index path) paths
    by_texts None are' = absurd are'
    by_texts (Some texts) are' = resolved_own schemas t texts paths are'

-- ---- keys of a type

among_zip : {A B : Type 0} (R : A → B → Type 0) (xs : List A) (x : A) (ys : List A) (zs : List B) → AllZip R (xs ++ x ∷ ys) zs → (z : B) × R x z
among_zip R [] x ys [] are = absurd are
among_zip R [] x ys (z ∷ zs) are = (z, are.0)
among_zip R (w ∷ xs) x ys [] are = absurd are
among_zip R (w ∷ xs) x ys (z ∷ zs) are = among_zip R xs x ys zs are.1

front_zip : {A B : Type 0} (R : A → B → Type 0) (xs ys : List A) (zs : List B) → AllZip R (xs ++ ys) zs → (ws : List B) × AllZip R xs ws
front_zip R [] ys zs are = ([], tt)
front_zip R (x ∷ xs) ys [] are = absurd are
front_zip R (x ∷ xs) ys (z ∷ zs) are = let rest = front_zip R xs ys zs are.1 in (z ∷ rest.0, (are.0, rest.1))

module _ (schemas : List Schema) (t : ℕ) (values : List Data) (before : List Entry) where
  -- the keys before a place, and that at the place
  pub one_key : (found : Keys) (place : ℕ) (value : Data) (paths : List Path) (key : List Value) → slice_get values place ≡ Some value → AreKeyPaths schemas t paths → SpellsKey schemas paths value key
      → GiveKeys schemas (before ++ take place (entries_at t values)) found → GiveKeys schemas (before ++ take (place + 1) (entries_at t values)) (found ++ (t, key) ∷ [])
  one_key found place value paths key at are spells give =
      let more = behind (GivesKey schemas) (before ++ take place (entries_at t values)) found (entry_at t place value) (t, key) give (refl, (paths, are, spells)) in
      subst (λ es. GiveKeys schemas es (found ++ (t, key) ∷ []))
      (append_assoc before (take place (entries_at t values)) (entry_at t place value ∷ []) ∙ ap (λ es. before ++ es) (sym (values_more t values place value at))) more

  pub all_given : (found : Keys) (place : ℕ) → length values ≤ place → GiveKeys schemas (before ++ take place (entries_at t values)) found → GiveKeys schemas (before ++ entries_at t values) found
  all_given found place past give = subst (λ es. GiveKeys schemas (before ++ es) found) (values_all t values place past) give

  -- none are given where one value spells no key
  pub none_given : IsKept schemas DuplicateName → (place : ℕ) (value : Data) (paths : List Path) → slice_get values place ≡ Some value → AreKeyPaths schemas t paths → ((key : List Value) → SpellsKey schemas paths value key → ⊥)
      → (removes : Keys) → GiveKeys schemas (before ++ entries_at t values) removes → ⊥
  none_given names place value paths at are none removes give =
      let (key, gives) = among_zip (GivesKey schemas) (before ++ take place (entries_at t values)) (entry_at t place value) (drop (place + 1) (entries_at t values)) removes
      (subst (λ es. GiveKeys schemas es removes) split give) in
      let (others, are', spells) = gives.1 in
      none key.1 (subst (λ (ps : List Path). SpellsKey schemas ps value key.1) (paths_once schemas names t others paths are' are) spells)
    where
      split : before ++ entries_at t values ≡ (before ++ take place (entries_at t values)) ++ entry_at t place value ∷ drop (place + 1) (entries_at t values)
      split =
          ap (λ es. before ++ es) (sym (values_rest t values (place + 1)) ∙ ap (λ es. es ++ drop (place + 1) (entries_at t values)) (values_more t values place value at))
          ∙ ap (λ es. before ++ es) (append_assoc (take place (entries_at t values)) (entry_at t place value ∷ []) (drop (place + 1) (entries_at t values)))
          ∙ sym (append_assoc before (take place (entries_at t values)) (entry_at t place value ∷ drop (place + 1) (entries_at t values)))

-- there are none of a type without a key
pub nothing_given : (schemas : List Schema) (t : ℕ) (values : List Data) (before : List Entry) (found : Keys) → values ≡ [] → GiveKeys schemas before found → GiveKeys schemas (before ++ entries_at t values) found
nothing_given schemas t values before found none give =
    subst (λ vs. GiveKeys schemas (before ++ entries_at t vs) found) (sym none) (subst (λ es. GiveKeys schemas es found) (sym (append-nil before)) give)

pub unkeyed_none : (schemas : List Schema) (t : ℕ) (values : List Data) → IsKeyed schemas t ⊎ (values ≡ []) → TellsKeyPaths schemas t None → values ≡ []
unkeyed_none schemas t values (inl keyed) not = absurd (not keyed)
unkeyed_none schemas t values (inr none) not = none

-- ---- keys of all types

module _ (schemas : List Schema) (json : Data) (t : ℕ) (schema : Schema) (values : List Data) (at : slice_get schemas t ≡ Some schema) (are : values ≡ values_under json schema.name) where
  pub type_given : (found : Keys) → GiveKeys schemas (front_entries schemas json t ++ entries_at t values) found → GiveKeys schemas (front_entries schemas json (t + 1)) found
  type_given found give = subst (λ es. GiveKeys schemas es found) (sym (types_more schemas json t schema values at are)) give

  pub type_not_given : ((removes : Keys) → GiveKeys schemas (front_entries schemas json t ++ entries_at t values) removes → ⊥) → (removes : Keys) → SpellsKeys schemas json removes → ⊥
  type_not_given none removes spells =
      let whole = subst (λ es. AllZip (GivesKey schemas) es removes)
      (sym (ap (λ es. es ++ flat_map (entries_of_type json) (drop (t + 1) (placed schemas))) (sym (types_more schemas json t schema values at are)) ∙ types_rest schemas json (t + 1))) spells.read in
      let front = front_zip (GivesKey schemas) (front_entries schemas json t ++ entries_at t values) (flat_map (entries_of_type json) (drop (t + 1) (placed schemas))) removes whole in
      none front.0 front.1

pub types_given : (schemas : List Schema) (json : Data) (t : ℕ) (found : Keys) → length schemas ≤ t → AreKeyedTypes schemas json → GiveKeys schemas (front_entries schemas json t) found → SpellsKeys schemas json found
types_given schemas json t found past keyed give = record { types = keyed_are schemas json keyed; read = subst (λ es. AllZip (GivesKey schemas) es found) (types_all schemas json t past) give }

-- keys of a type that are none end the reading of all
pub keys_end : (schemas : List Schema) (json : Data) (t : ℕ) (schema : Schema) (values : List Data) → slice_get schemas t ≡ Some schema → values ≡ values_under json schema.name → (found : Keys) (end : CycleEnd)
    → TellsKeysBehind schemas (front_entries schemas json t ++ entries_at t values) found (Err end) → TellsKeys schemas json (Err end)
keys_end schemas json t schema values at are found (cycle_end.Refused why) told = (told.0, type_not_given schemas json t schema values at are told.1)
keys_end schemas json t schema values at are found (cycle_end.Stopped stop) told = told
