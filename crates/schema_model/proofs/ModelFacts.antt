-- What a model's rules give to its look-ups and paths.
use Rattle.std.proofs.Common.{◌≡◌, ℕ, ◌<◌, ◌≤◌, ◌∙◌, sym, ap, subst, refl, List, [], Option, Some, None, length, get_or, take, slice_get, arith, inl, inr}
use Rattle.std.specs.Prelude.{◌↔◌, Contains}
use Rattle.std.specs.Option.{is_none}
use Rattle.std.proofs.lemmas.Bool.{cases_lt, cases_order}
use Rattle.std.proofs.lemmas.List.{get_or-take, length-take, length-map}
use Rattle.std.proofs.lemmas.List.Elements.{Contains-get_or}
use Rattle.std.proofs.lemmas.Option.{slice_get_within, get_or_from_slice_get, slice_get-get_or}
use Rattle.schema_model.specs.Model.{IsKept, StandsEarlier}
use Rattle.schema_model.specs.Parts.{name_index, index_of_type, type_names}
use Rattle.schema_model.specs.declared.model.rule.Rule.TheVariants.{TooMany, DuplicateName}
use Rattle.schema_model.specs.declared.schema.Schema.{Schema}
use Rattle.schema_model.specs.declared.schema.Shape.TheVariants.{Set}
use Rattle.schema_model.proofs.Indexing.{name_found, name_missing, contained, not_contained}
use Rattle.schema_model.proofs.BrokenRules.{few_types}

-- a model has at most 512 types
pub few_schemas : (schemas : List Schema) → IsKept schemas TooMany → length schemas ≤ 512
few_schemas schemas kept =
    elim (cases_lt 512 (length schemas)) [
      | inl more ↦ let few = few_types schemas 512 more (kept 512) in absurd (omega arith)
      | inr few ↦ few
    ]

first_place : (schemas : List Schema) (name : List ℕ) (t : ℕ) (o : Option ℕ) → IsKept schemas DuplicateName → slice_get (type_names schemas) t ≡ Some name → index_of_type schemas name ≡ o → o ≡ Some t
first_place schemas name t None apart at e =
    absurd (name_missing (type_names schemas) name e t (slice_get_within (type_names schemas) t name at) (get_or_from_slice_get (type_names schemas) t name [] at))
first_place schemas name t (Some j) apart at e =
    let names = type_names schemas in
    let found = name_found names name j e in
    let here : get_or names t [] ≡ name = get_or_from_slice_get names t name [] at in
    let inside = slice_get_within names t name at in
    elim (cases_order j t) [
      | inl same ↦ ap Some same
      | inr (inl less) ↦
          let d : Schema = record { name = []; shape = Set [] } in
          let long : t < length schemas = rw (sym (length-map schemas (λ s. s.name))) inside in
          let front : j < length (take t names) = rw (length-take t names) (omega arith) in
          let earlier : StandsEarlier names t =
          subst (λ n. Contains (take t names) n) (get_or-take t names j [] less ∙ found.1 ∙ sym here) (Contains-get_or (take t names) j [] front) in
          absurd (apart t (get_or schemas t d, slice_get-get_or schemas t d long, inl earlier))
      | inr (inr more) ↦ absurd (found.2 t more here)
    ]

-- the index of a name is where it stands
pub index_at : (schemas : List Schema) (name : List ℕ) → IsKept schemas DuplicateName → (t : ℕ) → (index_of_type schemas name ≡ Some t) ↔ (slice_get (type_names schemas) t ≡ Some name)
index_at schemas name apart t = (
  λ e. let found = name_found (type_names schemas) name t e in slice_get-get_or (type_names schemas) t [] found.0 ∙ ap Some found.1,
  λ at. first_place schemas name t (index_of_type schemas name) apart at refl,
)

none_there : (names : List (List ℕ)) (name : List ℕ) (o : Option ℕ) → name_index names name ≡ o → (Contains names name → ⊥) → o ≡ None
none_there names name None e none = refl
none_there names name (Some j) e none = absurd (none (contained names name (ap is_none e)))

-- a name has no index exactly where it is not in the list
pub index_none : (names : List (List ℕ)) (name : List ℕ) → (name_index names name ≡ None) ↔ (Contains names name → ⊥)
index_none names name = (λ e. not_contained names name (ap is_none e), λ none. none_there names name (name_index names name) refl none)
