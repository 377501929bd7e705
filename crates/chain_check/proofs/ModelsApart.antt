-- The first type in which models do not agree, and models that are the same.
use Rattle.std.proofs.Common.{◌≡◌, ◌<◌, ◌+◌, inl, inr, ℕ, List, length, Option, Some, None, sym, ap, ◌∙◌, subst, arith, below_more}
use Rattle.std.specs.Prelude.{slice_get}
use Rattle.std.proofs.lemmas.Bool.{cases_lt}
use Rattle.std.specs.Option.{option_map}
use Rattle.std.proofs.lemmas.Option.{slice_get-map, slice_get_past}
use Rattle.schema_model.specs.declared.schema.Schema.{Schema}
use Rattle.schema_model.specs.Growth.{Agree, ModelsAgree}
use Rattle.schema_model.specs.Parts.{type_names}
use Rattle.chain_check.specs.Compare.{IsFirstApart}
use Rattle.chain_check.proofs.FirstPlaces.{same_lists}

-- a schema agrees with that of its name in a model
abbrev pub AgreesWith : List Schema → Schema → Type 0
AgreesWith fresh schema = (place : ℕ) (other : Schema) → slice_get fresh place ≡ Some other → schema.name ≡ other.name → Agree schema other

-- the first types of a model agree
abbrev pub FirstAgree : List Schema → List Schema → ℕ → Type 0
FirstAgree walked fresh count = (earlier : ℕ) → earlier < count → (schema : Schema) → slice_get walked earlier ≡ Some schema → AgreesWith fresh schema

same_there : (walked : List Schema) (t : ℕ) (a b : Schema) → slice_get walked t ≡ Some a → slice_get walked t ≡ Some b → a ≡ b
same_there walked t a b at other = let one : Some a ≡ Some b = sym at ∙ other in cc

-- one type more agrees
pub agrees_more : (walked fresh : List Schema) (t : ℕ) (schema : Schema) → slice_get walked t ≡ Some schema → AgreesWith fresh schema → FirstAgree walked fresh t → FirstAgree walked fresh (t + 1)
agrees_more walked fresh t schema there agrees before =
    below_more (λ u. (s : Schema) → slice_get walked u ≡ Some s → AgreesWith fresh s) t before (λ s at. subst (AgreesWith fresh) (same_there walked t schema s there at) agrees)

none_past : (walked : List Schema) (t : ℕ) (schema : Schema) → slice_get walked t ≡ Some schema → length walked < t + 1 → ⊥
none_past walked t schema at past = let none : None ≡ Some schema = sym (slice_get_past walked t (omega (arith, past))) ∙ at in absurd cc

-- all of them do
pub agrees_all : (walked fresh : List Schema) (count : ℕ) → length walked < count + 1 → FirstAgree walked fresh count → ModelsAgree walked fresh
agrees_all walked fresh count long each t u schema other at there named = elim (cases_lt t count) [
  | inl below ↦ each t below schema at u other there named
  | inr past ↦ absurd (none_past walked t schema at (omega (arith, past, long)))
]

-- where one does not, it is the first of these
pub apart_first : (walked fresh : List Schema) (t : ℕ) (schema : Schema) → slice_get walked t ≡ Some schema → (place : ℕ) × (other : Schema) × (slice_get fresh place ≡ Some other) × (schema.name ≡ other.name) × (Agree schema other → ⊥)
    → FirstAgree walked fresh t → IsFirstApart walked fresh schema
apart_first walked fresh t schema there (place, other, here, named, apart) before = record {
  type_index = t;
  there = there;
  first = record { holds = record { schema = schema; there = there; place = place; other = other; here = here; named = named; apart = apart }; least = λ u below gone. gone.apart (before u below gone.schema gone.there gone.place gone.other gone.here gone.named) };
}

-- models with the same schemas
pub same_models : (model other : List Schema) (count : ℕ) → length model ≡ length other → length model < count + 1 → ((t : ℕ) → t < count → slice_get model t ≡ slice_get other t) → model ≡ other
same_models model other count long past each = same_lists model other (λ t. elim (cases_lt t count) [
  | inl below ↦ each t below
  | inr over ↦ slice_get_past model t (omega (arith, over, past)) ∙ sym (slice_get_past other t (omega (arith, over, past, long)))
])

-- ---- the type of a name

pub not_there : (place : ℕ) → ◌≡◌ {A = Option ℕ} None (Some place) → ⊥
not_there place e = cc

pub named_at : (schemas : List Schema) (place : ℕ) (other : Schema) (name text : List ℕ) → slice_get schemas place ≡ Some other → name ≡ other.name → text ≡ name
    → slice_get (type_names schemas) place ≡ Some text
named_at schemas place other name text at named is =
    slice_get-map (λ (s : Schema). s.name) schemas place ∙ ap (option_map (λ (s : Schema). s.name)) at ∙ ap Some (sym named ∙ sym is)

pub name_there : (schemas : List Schema) (place : ℕ) (found : Schema) (name text : List ℕ) → slice_get schemas place ≡ Some found → slice_get (type_names schemas) place ≡ Some text → text ≡ name
    → name ≡ found.name
name_there schemas place found name text at named is =
    let both : Some found.name ≡ Some text = sym (slice_get-map (λ (s : Schema). s.name) schemas place ∙ ap (option_map (λ (s : Schema). s.name)) at) ∙ named in
    let one : found.name ≡ text = cc in
    sym is ∙ sym one

pub agrees_there : (schema : Schema) (schemas : List Schema) (p place : ℕ) (found other : Schema) → ◌≡◌ {A = Option ℕ} (Some p) (Some place) → slice_get schemas p ≡ Some found
    → slice_get schemas place ≡ Some other → Agree schema found → Agree schema other
agrees_there schema schemas p place found other same there at agree =
    let one : p ≡ place = cc in
    let both : Some found ≡ Some other = sym there ∙ ap (slice_get schemas) one ∙ at in
    let alike : found ≡ other = cc in
    subst (Agree schema) alike agree
