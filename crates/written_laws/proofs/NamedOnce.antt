-- Lemmas on schemas that stand in a model at rising indexes: no name stands twice among them, and there are few.
use Rattle.std.proofs.Common.{◌≡◌, ◌<◌, ◌≤◌, ℕ, zero, suc, List, [], take, get_or, length, Some, sym, ◌∙◌, inl, inr, arith}
use Rattle.std.specs.Prelude.{All, slice_get}
use Rattle.std.specs.List.{AllZip}
use Rattle.std.proofs.lemmas.Bool.{cases_lt}
use Rattle.std.proofs.lemmas.List.{get_or-take, get_or_default, length-take}
use Rattle.std.proofs.lemmas.Option.{get_or_from_slice_get, slice_get-get_or, slice_get_within}
use Rattle.schema_model.specs.declared.model.rule.Rule.TheVariants.{DuplicateName}
use Rattle.schema_model.specs.declared.schema.Schema.{Schema}
use Rattle.schema_model.specs.Model.{IsKept, StandsEarlier}
use Rattle.schema_model.specs.Parts.{type_names}
use Rattle.row_model.specs.Row.{Rises}
use Rattle.schema_model.proofs.Indexing.{item_name}
use Rattle.delta_blob.proofs.Indexed.{one_index, zip_beside}

module _ (schemas : List Schema) (apart : IsKept schemas DuplicateName) (indexes : List ℕ) (rises : Rises indexes) (listed : List Schema)
    (are : AllZip (λ index schema. slice_get schemas index ≡ Some schema) indexes listed) where
  first_there : (t : ℕ) (schema : Schema) → slice_get listed t ≡ Some schema → StandsEarlier (type_names listed) t → ⊥
  first_there t schema at (k, inside, same) =
      let names = type_names listed in
      let below : k < t = omega (arith, inside, length-take t names) in
      let here : k < length listed = let within = slice_get_within listed t schema at in omega (arith, within, below) in
      let other = get_or listed k schema in
      let there = slice_get-get_or listed k schema here in
      let own = item_name (λ (s : Schema). s.name) listed t schema at in
      let its = item_name (λ (s : Schema). s.name) listed k other there in
      let name : other.name ≡ schema.name =
      sym its ∙ sym (get_or-take t names k [] below) ∙ get_or_default (take t names) k [] (get_or names t []) inside ∙ same ∙ own in
      let (i, at_i, is_i) = zip_beside (λ index one. slice_get schemas index ≡ Some one) indexes listed t schema are at in
      let (j, at_j, is_j) = zip_beside (λ index one. slice_get schemas index ≡ Some one) indexes listed k other are there in
      let rising = rises k t 0 below (slice_get_within indexes t i at_i) in
      let equal = one_index schemas apart j i other schema is_j is_i name in
      absurd (omega (arith, rising, equal, get_or_from_slice_get indexes k j 0 at_j, get_or_from_slice_get indexes t i 0 at_i))

  pub named_once : IsKept listed DuplicateName
  named_once t (schema, at, inl again) = first_there t schema at again
  named_once t (schema, at, inr field) =
      let (i, at_i, is_i) = zip_beside (λ index one. slice_get schemas index ≡ Some one) indexes listed t schema are at in
      apart i (schema, is_i, inr field)

-- numbers that rise are not below their places
not_below : (numbers : List ℕ) (k : ℕ) → Rises numbers → k < length numbers → k ≤ get_or numbers k 0
not_below numbers zero rises inside = omega arith
not_below numbers (suc k) rises inside = omega (arith, not_below numbers k rises (omega (arith, inside)), rises k (suc k) 0 (omega arith) inside)

-- numbers that rise below a limit are no more than it
pub few_rising : (limit : ℕ) (numbers : List ℕ) → Rises numbers → All (λ number. number < limit) numbers → length numbers ≤ limit
few_rising limit numbers rises below =
    elim (cases_lt limit (length numbers)) [
      | inl more ↦ absurd (omega (arith, not_below numbers limit rises more, below limit 0 more))
      | inr few ↦ few
    ]
