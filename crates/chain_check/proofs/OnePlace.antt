-- The comparison of two states gives one answer.
use Rattle.std.proofs.Common.{◌≡◌, inl, inr, ℕ, List, Option, Some, None, refl, sym, ap, ◌∙◌, subst}
use Rattle.std.specs.Prelude.{slice_get}
use Rattle.schema_model.specs.declared.schema.Schema.{Schema}
use Rattle.schema_model.specs.Growth.{ModelsAgree}
use Rattle.row_model.specs.Table.{Table, row_at}
use Rattle.chain_check.specs.declared.place.Place.{Place}
use Rattle.chain_check.specs.declared.place.RowPlace.{RowPlace}
use Rattle.chain_check.specs.Compare.{AreSame, Disagrees, State, IsFirst, FirstOtherType, IsOtherRow, HasOtherRow, IsFirstOtherRow, Compare, seen_by}
use Rattle.chain_check.proofs.FirstPlaces.{one_first}

-- models that agree do so in each type
pub no_type : (walked fresh : List Schema) (schema : Schema) → ModelsAgree walked fresh → FirstOtherType walked fresh (Some schema) → ⊥
no_type walked fresh schema agree first =
    let apart = first.first.holds in
    apart.apart (agree first.type_index apart.place apart.schema apart.other apart.there apart.here apart.named)

-- the schema at a place
one_there : (schemas : List Schema) (t u : ℕ) (a b : Schema) → t ≡ u → slice_get schemas t ≡ Some a → slice_get schemas u ≡ Some b → a ≡ b
one_there schemas t u a b same at other = let one : Some a ≡ Some b = sym at ∙ ap (slice_get schemas) same ∙ other in cc

-- models differ in one type first
one_type : (walked fresh : List Schema) (a b : Schema) → FirstOtherType walked fresh (Some a) → FirstOtherType walked fresh (Some b) → a ≡ b
one_type walked fresh a b first other =
    one_there walked first.type_index other.type_index a b (one_first (Disagrees walked fresh) first.type_index other.type_index first.first other.first) first.there other.there

-- tables differ in one row first
one_row : (walked fresh : Table) (a b : RowPlace) → IsFirstOtherRow walked fresh a → IsFirstOtherRow walked fresh b → a ≡ b
one_row walked fresh a b first other =
    let types = one_first (HasOtherRow walked fresh) a.type_index b.type_index first.of_types other.of_types in
    let ordinals = one_first (IsOtherRow walked fresh b.type_index) a.ordinal b.ordinal (subst (λ t. IsFirst (IsOtherRow walked fresh t) a.ordinal) types first.of_ordinals) other.of_ordinals in
    λ i. record { type_index = types i; ordinal = ordinals i }

-- states that are the same differ nowhere
no_place : (walked fresh : State) (place : Place) → AreSame walked fresh → Compare walked fresh (Some place) → ⊥
no_place walked fresh place same (inl at) = at.tags same.tags
no_place walked fresh place same (inr (inl at)) = no_type walked.schemas fresh.schemas at.schema same.models at.first
no_place walked fresh place same (inr (inr at)) = at.first.of_ordinals.holds (ap (λ (t : Table). row_at t at.at.type_index at.at.ordinal) same.rows)

-- two places
one_where : (walked fresh : State) (a b : Place) → Compare walked fresh (Some a) → Compare walked fresh (Some b) → a ≡ b
one_where walked fresh a b (inl at) (inl other) = at.is ∙ sym other.is
one_where walked fresh a b (inl at) (inr (inl other)) = absurd (at.tags other.tags)
one_where walked fresh a b (inl at) (inr (inr other)) = absurd (at.tags other.tags)
one_where walked fresh a b (inr (inl at)) (inl other) = absurd (other.tags at.tags)
one_where walked fresh a b (inr (inl at)) (inr (inl other)) =
    let same = one_type walked.schemas fresh.schemas at.schema other.schema at.first other.first in
    at.is ∙ (λ i. record { type_name = Some (same i).name; ordinal = None }) ∙ sym other.is
one_where walked fresh a b (inr (inl at)) (inr (inr other)) = absurd (no_type walked.schemas fresh.schemas at.schema other.models at.first)
one_where walked fresh a b (inr (inr at)) (inl other) = absurd (other.tags at.tags)
one_where walked fresh a b (inr (inr at)) (inr (inl other)) = absurd (no_type walked.schemas fresh.schemas other.schema at.models other.first)
one_where walked fresh a b (inr (inr at)) (inr (inr other)) =
    let places = one_row walked.table (seen_by walked fresh) at.at other.at at.first other.first in
    let same = one_there walked.schemas at.at.type_index other.at.type_index at.schema other.schema (ap (λ (p : RowPlace). p.type_index) places) at.there other.there in
    at.is ∙ (λ i. record { type_name = Some (same i).name; ordinal = Some (places i).ordinal }) ∙ sym other.is

pub one_place : (walked fresh : State) (place other : Option Place) → Compare walked fresh place → Compare walked fresh other → place ≡ other
one_place walked fresh None None at there = refl
one_place walked fresh None (Some other) at there = absurd (no_place walked fresh other at there)
one_place walked fresh (Some place) None at there = absurd (no_place walked fresh place there at)
one_place walked fresh (Some place) (Some other) at there = ap Some (one_where walked fresh place other at there)
