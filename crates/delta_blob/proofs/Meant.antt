-- In a model, where no name stands twice, the type that is meant is the one that the schema means.
use Rattle.std.proofs.Common.{◌≡◌, ◌∙◌, ℕ, List, Option, None, Some, ap, arith, get_or, inl, inr, option_map, refl, slice_get, subst, sym}
use Rattle.std.specs.Prelude.{All}
use Rattle.std.proofs.lemmas.List.{length-map}
use Rattle.std.proofs.lemmas.Option.{get_or_from_slice_get, same_Some, slice_get-get_or, slice_get-map, slice_get_cases, slice_get_within}
use Rattle.schema_model.specs.declared.model.rule.Rule.TheVariants.{DuplicateName}
use Rattle.schema_model.specs.declared.schema.Schema.{Schema}
use Rattle.schema_model.specs.Growth.{Agree}
use Rattle.schema_model.specs.Model.{IsKept}
use Rattle.schema_model.specs.Parts.{index_of_type, type_names}
use Rattle.schema_model.proofs.ModelFacts.{index_at, index_none}
use Rattle.delta_blob.specs.declared.part.DeltaPart.{DeltaPart}
use Rattle.delta_blob.specs.Meant.{IsIndexFor, IsMeant}
use Rattle.delta_blob.specs.Patch.{AgreesWith, Means}

-- the name of the type at an index
pub name_there : (schemas : List Schema) (t : ℕ) (mine : Schema) → slice_get schemas t ≡ Some mine → slice_get (type_names schemas) t ≡ Some mine.name
name_there schemas t mine stands = slice_get-map (λ (s : Schema). s.name) schemas t ∙ ap (option_map (λ (s : Schema). s.name)) stands

-- the type at an index whose name is this one
pub schema_there : (schemas : List Schema) (t : ℕ) (name : List ℕ) → slice_get (type_names schemas) t ≡ Some name → (mine : Schema) × (slice_get schemas t ≡ Some mine) × (mine.name ≡ name)
schema_there schemas t name named =
    elim (slice_get_cases schemas t).1 [
      | inl (mine, inside, stands, at) ↦ (mine, stands, same_Some mine.name name (sym (name_there schemas t mine stands) ∙ named))
      | inr (past, none) ↦ absurd (let within = slice_get_within (type_names schemas) t name named in omega (arith, past, within, length-map schemas (λ (s : Schema). s.name)))
    ]

-- what holds of each holds of the one at an index
pub all_at : {X : Type 0} (P : X → Type 0) (xs : List X) (t : ℕ) (x : X) → All P xs → slice_get xs t ≡ Some x → P x
all_at P xs t x all at = subst P (get_or_from_slice_get xs t x x at) (all t x (slice_get_within xs t x at))

module _ (schemas : List Schema) (kept : IsKept schemas DuplicateName) where
  -- where no name stands twice a schema means one type in both ways
  pub meant_means : (schema mine : Schema) (t : ℕ) → IsMeant schemas schema t mine → Agree mine schema → Means schemas schema t mine
  meant_means schema mine t meant agree =
      let named : Some mine.name ≡ Some schema.name = sym (name_there schemas t mine meant.stands) ∙ (index_at schemas schema.name kept t).0 meant.first in
      record { stands = meant.stands; named = same_Some mine.name schema.name named; agree = agree }

  pub means_meant : (schema mine : Schema) (t : ℕ) → Means schemas schema t mine → IsMeant schemas schema t mine
  means_meant schema mine t means = record {
    first = (index_at schemas schema.name kept t).1 (name_there schemas t mine means.stands ∙ ap (λ (name : List ℕ). Some name) means.named);
    stands = means.stands;
  }

  -- a schema that agrees with the model's of its name has an index, if there is one
  index_by : (part : DeltaPart) → AgreesWith schemas part → (o : Option ℕ) → index_of_type schemas part.schema.name ≡ o → IsIndexFor schemas part.schema o
  index_by part agrees None none = none
  index_by part agrees (Some t) first =
      let (mine, stands, named) = schema_there schemas t part.schema.name ((index_at schemas part.schema.name kept t).0 first) in
      let agree = all_at (λ (mine : Schema). mine.name ≡ part.schema.name → Agree mine part.schema) schemas t mine agrees stands named in
      record { mine = mine; meant = record { first = first; stands = stands }; agree = agree }

  pub index_for : (part : DeltaPart) → AgreesWith schemas part → IsIndexFor schemas part.schema (index_of_type schemas part.schema.name)
  index_for part agrees = index_by part agrees (index_of_type schemas part.schema.name) refl

  -- the index of a schema is that of its name
  pub index_is : (schema : Schema) (o : Option ℕ) → IsIndexFor schemas schema o → index_of_type schemas schema.name ≡ o
  index_is schema None none = none
  index_is schema (Some t) agrees = agrees.meant.first

  -- and it agrees with each type of its name
  pub agrees_with : (part : DeltaPart) (o : Option ℕ) → IsIndexFor schemas part.schema o → AgreesWith schemas part
  agrees_with part None none = λ k d inside name.
      let there = name_there schemas k (get_or schemas k d) (slice_get-get_or schemas k d inside) in
      let names = type_names schemas in
      let within = slice_get_within names k (get_or schemas k d).name there in
      let same = get_or_from_slice_get names k (get_or schemas k d).name part.schema.name there ∙ name in
      absurd ((index_none names part.schema.name).0 none (k, within, same))
  agrees_with part (Some t) agrees = λ k d inside name.
      let stands = slice_get-get_or schemas k d inside in
      let index = (index_at schemas part.schema.name kept k).1 (name_there schemas k (get_or schemas k d) stands ∙ ap (λ (n : List ℕ). Some n) name) in
      let same : t ≡ k = same_Some t k (sym agrees.meant.first ∙ index) in
      let one = same_Some agrees.mine (get_or schemas k d) (sym agrees.meant.stands ∙ ap (slice_get schemas) same ∙ stands) in
      subst (λ (mine : Schema). Agree mine part.schema) one agrees.agree
