-- The records of each type stand at rising places.
use Rattle.std.proofs.Common.{◌≡◌, ◌<◌, ◌≤◌, ◌+◌, ◌++◌, ℕ, suc, List, [], ◌∷◌, length, map, refl, arith}
use Rattle.std.specs.Prelude.{All, AllPairs}
use Rattle.std.specs.List.{flat_map, range_with_len, zip}
use Rattle.std.proofs.lemmas.List.Elements.{All-append, All-cons, All-head, All-map, All-nil, All-tail, All-weaker}
use Rattle.std.proofs.lemmas.List.Kept.{AllPairs-cons}
use Rattle.serde_json.specs.Data.{Data}
use Rattle.schema_model.specs.declared.schema.Schema.{Schema}
use Rattle.hollow_machine.specs.Records.{Entry, entries, entries_at, entries_of_type, placed, values_under}

-- ---- pairs of two lists

module _ {X : Type 0} (R : X → X → Type 0) where
  no_pairs : AllPairs R []
  no_pairs i j d before inside = absurd (omega (arith, inside))

  pairs_head : (x : X) (xs : List X) → AllPairs R (x ∷ xs) → All (R x) xs
  pairs_head x xs all k d inside = all 0 (suc k) d (omega arith) (omega (arith, inside))

  pairs_tail : (x : X) (xs : List X) → AllPairs R (x ∷ xs) → AllPairs R xs
  pairs_tail x xs all i j d before inside = all (suc i) (suc j) d (omega (arith, before)) (omega (arith, inside))

  pairs_append : (xs ys : List X) → AllPairs R xs → AllPairs R ys → All (λ x. All (R x) ys) xs → AllPairs R (xs ++ ys)
  pairs_append [] ys one other across = other
  pairs_append (x ∷ xs) ys one other across =
      AllPairs-cons R x (xs ++ ys) (All-append (R x) xs ys (pairs_head x xs one) (All-head (λ z. All (R z) ys) x xs across))
      (pairs_append xs ys (pairs_tail x xs one) other (All-tail (λ z. All (R z) ys) x xs across))

-- ---- records

-- Of one type, the second record stands behind the first one.
abbrev pub StandsBehind : Entry → Entry → Type 0
StandsBehind earlier later = earlier.type_index ≡ later.type_index → earlier.place < later.place

abbrev entry_at : ℕ → ℕ × Data → Entry
entry_at t at = record { type_index = t; place = at.0; value = at.1 }

-- the records of a type, from a place on
abbrev entries_from : ℕ → ℕ → List Data → List Entry
entries_from t from values = map (entry_at t) (zip (range_with_len from (length values)) values)

past_place : (t from : ℕ) (values : List Data) → All (λ entry. from ≤ entry.place) (entries_from t from values)
past_place t from [] = All-nil (λ entry. from ≤ entry.place)
past_place t from (value ∷ values) =
    All-cons (λ entry. from ≤ entry.place) (entry_at t (from, value)) (entries_from t (from + 1) values) (omega arith)
    (All-weaker (λ entry. from + 1 ≤ entry.place) (λ entry. from ≤ entry.place) (λ entry past. omega (arith, past)) (entries_from t (from + 1) values) (past_place t (from + 1) values))

places_rise : (t from : ℕ) (values : List Data) → AllPairs StandsBehind (entries_from t from values)
places_rise t from [] = no_pairs StandsBehind
places_rise t from (value ∷ values) =
    AllPairs-cons StandsBehind (entry_at t (from, value)) (entries_from t (from + 1) values)
    (All-weaker (λ entry. from + 1 ≤ entry.place) (StandsBehind (entry_at t (from, value))) (λ entry past type. omega (arith, past)) (entries_from t (from + 1) values) (past_place t (from + 1) values))
    (places_rise t (from + 1) values)

module _ (add : Data) where
  -- the records of some types, from an index on
  abbrev types_from : ℕ → List Schema → List Entry
  types_from from schemas = flat_map (entries_of_type add) (zip (range_with_len from (length schemas)) schemas)

  abbrev of_one : ℕ → Schema → List Entry
  of_one t schema = entries_at t (values_under add schema.name)

  typed_one : (t : ℕ) (schema : Schema) → All (λ entry. entry.type_index ≡ t) (of_one t schema)
  typed_one t schema = All-map (λ entry. entry.type_index ≡ t) (entry_at t) (placed (values_under add schema.name)) (λ k d inside. refl)

  past_type : (from : ℕ) (schemas : List Schema) → All (λ entry. from ≤ entry.type_index) (types_from from schemas)
  past_type from [] = All-nil (λ entry. from ≤ entry.type_index)
  past_type from (schema ∷ schemas) =
      All-append (λ entry. from ≤ entry.type_index) (of_one from schema) (types_from (from + 1) schemas)
      (All-weaker (λ entry. entry.type_index ≡ from) (λ entry. from ≤ entry.type_index) (λ entry type. omega (arith, type)) (of_one from schema) (typed_one from schema))
      (All-weaker (λ entry. from + 1 ≤ entry.type_index) (λ entry. from ≤ entry.type_index) (λ entry past. omega (arith, past)) (types_from (from + 1) schemas) (past_type (from + 1) schemas))

  types_rise : (from : ℕ) (schemas : List Schema) → AllPairs StandsBehind (types_from from schemas)
  types_rise from [] = no_pairs StandsBehind
  types_rise from (schema ∷ schemas) =
      pairs_append StandsBehind (of_one from schema) (types_from (from + 1) schemas) (places_rise from 0 (values_under add schema.name)) (types_rise (from + 1) schemas)
      (All-weaker (λ entry. entry.type_index ≡ from) (λ entry. All (StandsBehind entry) (types_from (from + 1) schemas))
      (λ entry type. All-weaker (λ other. from + 1 ≤ other.type_index) (StandsBehind entry) (λ other past same. absurd (omega (arith, type, past, same))) (types_from (from + 1) schemas) (past_type (from + 1) schemas))
      (of_one from schema) (typed_one from schema))

-- of two records of a type the second one stands behind the first
pub entries_rise : (schemas : List Schema) (add : Data) → AllPairs StandsBehind (entries schemas add)
entries_rise schemas add = types_rise add 0 schemas
