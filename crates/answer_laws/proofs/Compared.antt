-- Two states are the same, or there is a first place at which they differ.
use Rattle.std.proofs.Common.{◌≡◌, ◌<◌, ◌≤◌, ◌+◌, ◌∙◌, ℕ, suc, List, [], ◌∷◌, length, Option, Some, None, inl, inr, refl, sym, ap, subst, arith}
use Rattle.std.specs.Prelude.{IsSome, option_and_then, slice_get}
use Rattle.std.specs.Cmp.{nat_cmp_total}
use Rattle.std.specs.FinMap.{get, keys, nat_cmp-IsAntisymmetric, same_map}
use Rattle.std.proofs.lemmas.Bool.{cases_lt}
use Rattle.std.proofs.lemmas.List.{length-map}
use Rattle.std.proofs.lemmas.Option.{slice_get-get_or, slice_get_cases, slice_get_past, slice_get_within}
use Rattle.ordinal_set.specs.Ordinals.{bound_of}
use Rattle.schema_model.specs.declared.schema.Schema.{Schema}
use Rattle.schema_model.specs.declared.schema.Shape.TheVariants.{Set}
use Rattle.schema_model.specs.Growth.{Agree, ModelsAgree}
use Rattle.row_model.specs.declared.row.Row.{Row}
use Rattle.row_model.specs.BothStates.{rows_in}
use Rattle.row_model.specs.Table.{RowMap, Table, row_at}
use Rattle.row_model.specs.View.{seen_type}
use Rattle.chain_check.specs.declared.place.Place.{Place}
use Rattle.chain_check.specs.declared.place.RowPlace.{RowPlace}
use Rattle.chain_check.specs.Compare.{Compare, IsFirst, IsFirstApart, IsFirstOtherRow, IsOtherRow, State, nowhere, seen_by}
use Rattle.answer_laws.proofs.Deciding.{all_or_first, decide}
use Rattle.answer_laws.proofs.Ordinals.{live_below}

some_schema : Schema
some_schema = record { name = []; shape = Set [] }

pub at_inside : (schemas : List Schema) (t : ℕ) → t < length schemas → (schema : Schema) × (slice_get schemas t ≡ Some schema)
at_inside schemas t inside = (_, slice_get-get_or schemas t some_schema inside)

-- ---- models

-- one schema stands at a place
one_schema : (schemas : List Schema) (place : ℕ) (found other : Schema) → slice_get schemas place ≡ Some found → slice_get schemas place ≡ Some other → found ≡ other
one_schema schemas place found other is there = let one : Some found ≡ Some other = sym is ∙ there in cc

no_schema : (schemas : List Schema) (place : ℕ) (other : Schema) → slice_get schemas place ≡ None → slice_get schemas place ≡ Some other → ⊥
no_schema schemas place other is there = let clash : None ≡ Some other = sym is ∙ there in cc

module _ (fresh : List Schema) (schema : Schema) where
  -- The schema agrees with the one at a place, if that has its name.
  abbrev AgreesAt : ℕ → Type 0
  AgreesAt place = (other : Schema) → slice_get fresh place ≡ Some other → schema.name ≡ other.name → Agree schema other

  -- The model has a schema of its name with which it does not agree.
  abbrev IsApart : Type 0
  IsApart = (place : ℕ) × (other : Schema) × (slice_get fresh place ≡ Some other) × (schema.name ≡ other.name) × (Agree schema other → ⊥)

  -- what does not agree with the schema at a place is apart from it
  apart_from : (place : ℕ) (found : Schema) → slice_get fresh place ≡ Some found → (AgreesAt place → ⊥) → (IsApart → ⊥) → ⊥
  apart_from place found is never apart = decide (Agree schema found) (λ either. elim either [
    | inl agree ↦ never (λ other there named. subst (Agree schema) (one_schema fresh place found other is there) agree)
    | inr not ↦ never (λ other there named. absurd (apart (place, found, is, named ∙ ap (λ (s : Schema). s.name) (sym (one_schema fresh place found other is there)), not)))
  ])

  apart_at : (place : ℕ) (found : Option Schema) → slice_get fresh place ≡ found → (AgreesAt place → ⊥) → (IsApart → ⊥) → ⊥
  apart_at place None is never apart = never (λ other there named. absurd (no_schema fresh place other is there))
  apart_at place (Some found) is never apart = apart_from place found is never apart

  -- that it neither agrees with what has its name nor is apart from it cannot be
  agrees_or_apart : (((place : ℕ) → AgreesAt place) → ⊥) → (IsApart → ⊥) → ⊥
  agrees_or_apart agrees apart = all_or_first AgreesAt (length fresh)
      (λ all. agrees (λ place other there named. all place (slice_get_within fresh place other there) other there named))
      (λ place below never before. apart_at place (slice_get fresh place) refl never apart)

module _ (walked fresh : List Schema) where
  -- The type at an index agrees with what has its name.
  abbrev TypeAgrees : ℕ → Type 0
  TypeAgrees t = (schema : Schema) → slice_get walked t ≡ Some schema → (place : ℕ) → AgreesAt fresh schema place

  -- a type that does not is the first, where those before do
  apart_first : (t : ℕ) (schema : Schema) → slice_get walked t ≡ Some schema → IsApart fresh schema → ((u : ℕ) → u < t → TypeAgrees u) → IsFirstApart walked fresh schema
  apart_first t schema there (place, other, here, named, apart) before = record {
    type_index = t;
    there = there;
    first = record {
      holds = record { schema = schema; there = there; place = place; other = other; here = here; named = named; apart = apart };
      least = λ u below gone. gone.apart (before u below gone.schema gone.there gone.place gone.other gone.here gone.named);
    };
  }

  -- that two models neither agree nor is a type the first in which they do not cannot be
  agree_or_type : (ModelsAgree walked fresh → ⊥) → ((schema : Schema) → IsFirstApart walked fresh schema → ⊥) → ⊥
  agree_or_type agree apart = all_or_first TypeAgrees (length walked)
      (λ all. agree (λ t place schema other there here named. all t (slice_get_within walked t schema there) schema there place other here named))
      (λ t below never before.
      let here = at_inside walked t below in
      agrees_or_apart fresh here.0
      (λ agrees. never (λ schema there place. subst (λ (s : Schema). AgreesAt fresh s place) (one_schema walked t here.0 schema here.1 there) (agrees place)))
      (λ other. apart here.0 (apart_first t here.0 here.1 other before)))

-- ---- rows

-- lists that have the same at each place
same_lists : {A : Type 0} (xs ys : List A) → ((k : ℕ) → slice_get xs k ≡ slice_get ys k) → xs ≡ ys
same_lists [] [] each = refl
same_lists [] (y ∷ ys) each = let first : None ≡ Some y = each 0 in absurd cc
same_lists (x ∷ xs) [] each = let first : Some x ≡ None = each 0 in absurd cc
same_lists (x ∷ xs) (y ∷ ys) each =
    let first : Some x ≡ Some y = each 0 in
    let one : x ≡ y = cc in
    let rest = same_lists xs ys (λ k. each (suc k)) in
    λ i. one i ∷ rest i

-- a row of a type that the table has
of_type : (table : Table) (t : ℕ) (rows : RowMap) (o : ℕ) → slice_get table t ≡ Some rows → row_at table t o ≡ get rows o
of_type table t rows o is = ap (option_and_then (λ (m : RowMap). get m o)) is

-- no row is live
dead_none : (o : Option Row) → (IsSome o → ⊥) → o ≡ None
dead_none None dead = refl
dead_none (Some row) dead = absurd (dead refl)

module _ (walked fresh : Table) where
  -- The rows of a type are the same.
  abbrev SameRows : ℕ → Type 0
  SameRows t = (o : ℕ) → row_at walked t o ≡ row_at fresh t o

  -- past all live rows both have none
  past_bounds : (t o : ℕ) → bound_of (keys (rows_in walked t)) ≤ o → bound_of (keys (rows_in fresh t)) ≤ o → row_at walked t o ≡ row_at fresh t o
  past_bounds t o high higher =
      dead_none (row_at walked t o) (λ live. let below = live_below walked t o live in omega (arith, below, high))
      ∙ sym (dead_none (row_at fresh t o) (λ live. let below = live_below fresh t o live in omega (arith, below, higher)))

  -- that the rows of a type are neither the same nor is one the first that differs cannot be
  same_or_row : (t : ℕ) → (SameRows t → ⊥) → ((o : ℕ) → IsFirst (IsOtherRow walked fresh t) o → ⊥) → ⊥
  same_or_row t same other =
      let one = bound_of (keys (rows_in walked t)) in
      let two = bound_of (keys (rows_in fresh t)) in
      all_or_first (λ o. row_at walked t o ≡ row_at fresh t o) (one + two)
      (λ all. same (λ o. elim (cases_lt o (one + two)) [ inl below ↦ all o below | inr past ↦ past_bounds t o (omega (arith, past)) (omega (arith, past)) ]))
      (λ o below differ before. other o (record { holds = differ; least = λ earlier less unlike. unlike (before earlier less) }))

  -- tables of as many types with the same rows
  same_tables : length walked ≡ length fresh → ((t : ℕ) → t < length fresh → SameRows t) → walked ≡ fresh
  same_tables long each = same_lists walked fresh (λ t. elim (cases_lt t (length fresh)) [
    | inl inside ↦ of_places t inside (slice_get walked t) (slice_get fresh t) refl refl
    | inr past ↦ slice_get_past walked t (omega (arith, long, past)) ∙ sym (slice_get_past fresh t past)
  ])
    where
      none_inside : (table : Table) (t : ℕ) → t < length table → slice_get table t ≡ None → ⊥
      none_inside table t inside none = elim (slice_get_cases table t).1 [
        | inl found ↦ let is : None ≡ Some found.0 = sym none ∙ found.2 in absurd cc
        | inr past ↦ absurd (omega (arith, past.0, inside))
      ]

      of_places : (t : ℕ) → t < length fresh → (a b : Option RowMap) → slice_get walked t ≡ a → slice_get fresh t ≡ b → a ≡ b
      of_places t inside None None is is' = refl
      of_places t inside None (Some n) is is' = absurd (none_inside walked t (omega (arith, long, inside)) is)
      of_places t inside (Some m) None is is' = absurd (none_inside fresh t inside is')
      of_places t inside (Some m) (Some n) is is' =
          ap Some (same_map nat_cmp_total nat_cmp-IsAntisymmetric m n (λ o. sym (of_type walked t m o is) ∙ each t inside o ∙ of_type fresh t n o is'))

  -- that tables of as many types are neither the same nor is a row the first that differs cannot be
  same_or_place : length walked ≡ length fresh → (walked ≡ fresh → ⊥) → ((place : RowPlace) → place.type_index < length fresh → IsFirstOtherRow walked fresh place → ⊥) → ⊥
  same_or_place long same other = all_or_first SameRows (length fresh)
      (λ all. same (same_tables long all))
      (λ t below never before. same_or_row t never (λ o first. other (record { type_index = t; ordinal = o }) below (record {
        of_types = record { holds = (o, first.holds); least = λ earlier less unlike. unlike.1 (before earlier less unlike.0) };
        of_ordinals = first;
      })))

-- ---- states

-- that two states are neither the same nor differ at a first place cannot be
pub same_or_differ : (walked fresh : State) → length walked.table ≡ length walked.schemas → (Compare walked fresh None → ⊥) → ((place : Place) → Compare walked fresh (Some place) → ⊥) → ⊥
same_or_differ walked fresh long same differ = decide (walked.tag ≡ fresh.tag) (λ tags. elim tags [
  | inr other ↦ differ nowhere (inl (record { tags = other; is = refl }))
  | inl tag ↦ agree_or_type walked.schemas fresh.schemas
      (λ models.
      let seen : Table = seen_by walked fresh in
      let many : length seen ≡ length walked.schemas = length-map walked.schemas (seen_type fresh.schemas fresh.table) in
      same_or_place walked.table seen (long ∙ sym many)
      (λ rows. same (record { tags = tag; models = models; rows = rows }))
      (λ place below first.
      let there = at_inside walked.schemas place.type_index (subst (λ n. place.type_index < n) many below) in
      differ (record { type_name = Some there.0.name; ordinal = Some place.ordinal })
      (inr (inr (record { tags = tag; models = models; at = place; first = first; schema = there.0; there = there.1; is = refl })))))
      (λ schema first. differ (record { type_name = Some schema.name; ordinal = None }) (inr (inl (record { tags = tag; schema = schema; first = first; is = refl }))))
])
