-- Types that are those of a model, each at most once: no name stands twice among them, nor in one of them.
use Rattle.std.proofs.Common.{◌≡◌, ◌⊎◌, ◌<◌, ◌+◌, ℕ, zero, suc, List, [], ◌∷◌, ◌++◌, take, get_or, length, Some, refl, sym, ap, ◌∙◌, subst, inl, inr, arith}
use Rattle.std.specs.Prelude.{All, Contains, option_map, slice_get}
use Rattle.std.specs.List.{AllZip}
use Rattle.std.proofs.lemmas.Bool.{cases_lt}
use Rattle.std.proofs.lemmas.List.{get_or-take, get_or_default, length-map, length-take, take_more}
use Rattle.std.proofs.lemmas.Option.{get_or_from_slice_get, slice_get-get_or, slice_get-map, slice_get_within}
use Rattle.std.proofs.lemmas.Slice.Zip.{all_zipped_more}
use Rattle.schema_model.specs.declared.model.rule.Rule.TheVariants.{DuplicateName, TooMany}
use Rattle.schema_model.specs.declared.schema.Schema.{Schema}
use Rattle.schema_model.specs.Model.{IsKept, StandsEarlier}
use Rattle.schema_model.specs.Parts.{fields_of, index_of_type, type_names}
use Rattle.schema_model.proofs.Indexing.{item_name}
use Rattle.schema_model.proofs.ModelFacts.{index_at}
use Rattle.delta_blob.specs.declared.part.DeltaPart.{DeltaPart}
use Rattle.delta_blob.specs.OfModel.{HasFewFields, IsOwnAt}
use Rattle.delta_blob.specs.Patch.{NamesOnce, schemas_in}

-- what stands beside one of a list
pub zip_at : {X Y : Type 0} (R : X → Y → Type 0) (xs : List X) (ys : List Y) (k : ℕ) (x : X) → AllZip R xs ys → slice_get xs k ≡ Some x → (y : Y) × (slice_get ys k ≡ Some y) × R x y
zip_at R [] [] k x r at = absurd cc
zip_at R (z ∷ xs) (y ∷ ys) zero x r at = let same : z ≡ x = cc in (y, refl, subst (λ z. R z y) same r.0)
zip_at R (z ∷ xs) (y ∷ ys) (suc k) x r at = zip_at R xs ys k x r.1 at
zip_at R [] (y ∷ ys) k x r at = absurd r
zip_at R (z ∷ xs) [] k x r at = absurd r

-- the other way about
pub zip_beside : {X Y : Type 0} (R : X → Y → Type 0) (xs : List X) (ys : List Y) (k : ℕ) (y : Y) → AllZip R xs ys → slice_get ys k ≡ Some y → (x : X) × (slice_get xs k ≡ Some x) × R x y
zip_beside R [] [] k y r at = absurd cc
zip_beside R (x ∷ xs) (z ∷ ys) zero y r at = let same : z ≡ y = cc in (x, refl, subst (R x) same r.0)
zip_beside R (x ∷ xs) (z ∷ ys) (suc k) y r at = zip_beside R xs ys k y r.1 at
zip_beside R [] (z ∷ ys) k y r at = absurd r
zip_beside R (x ∷ xs) [] k y r at = absurd r

-- ---- numbers that stand once

-- No number stands at two places.
abbrev pub StandOnce : List ℕ → Type 0
StandOnce numbers = (a b number : ℕ) → a < b → slice_get numbers a ≡ Some number → slice_get numbers b ≡ Some number → ⊥

in_front : (numbers : List ℕ) (last place number : ℕ) → slice_get (numbers ++ last ∷ []) place ≡ Some number → (slice_get numbers place ≡ Some number) ⊎ ((place ≡ length numbers) × (number ≡ last))
in_front [] last zero number at = inr (refl, cc)
in_front [] last (suc place) number at = absurd cc
in_front (n ∷ numbers) last zero number at = inl at
in_front (n ∷ numbers) last (suc place) number at = elim (in_front numbers last place number at) [ inl front ↦ inl front | inr end ↦ inr (omega (arith, end.0), end.1) ]

pub once_more : (numbers : List ℕ) (last : ℕ) → StandOnce numbers → (Contains numbers last → ⊥) → StandOnce (numbers ++ last ∷ [])
once_more numbers last once new a b number below at_a at_b =
    elim (in_front numbers last b number at_b) [
      | inl front_b ↦
          elim (in_front numbers last a number at_a) [
            | inl front_a ↦ once a b number below front_a front_b
            | inr end_a ↦ absurd (let within = slice_get_within numbers b number front_b in omega (arith, within, end_a.0, below))
          ]
      | inr end_b ↦
          elim (in_front numbers last a number at_a) [
            | inl front_a ↦
                let at = front_a ∙ ap Some end_b.1 in
                new (a, slice_get_within numbers a last at, get_or_from_slice_get numbers a last _ at)
            | inr end_a ↦ absurd (omega (arith, end_a.0, end_b.0, below))
          ]
    ]

-- ---- the names of types at such indexes

-- the index of a type in the model, by its name
index_is : (schemas : List Schema) → IsKept schemas DuplicateName → (index : ℕ) (schema : Schema) → slice_get schemas index ≡ Some schema → index_of_type schemas schema.name ≡ Some index
index_is schemas apart index schema at =
    (index_at schemas schema.name apart index).1 (slice_get-map (λ (s : Schema). s.name) schemas index ∙ ap (option_map (λ (s : Schema). s.name)) at)

-- types of one name stand at one index
pub one_index : (schemas : List Schema) → IsKept schemas DuplicateName → (i j : ℕ) (a b : Schema) → slice_get schemas i ≡ Some a → slice_get schemas j ≡ Some b → a.name ≡ b.name → i ≡ j
one_index schemas apart i j a b at_i at_j name =
    let one : Some i ≡ Some j = sym (index_is schemas apart i a at_i) ∙ ap (index_of_type schemas) name ∙ index_is schemas apart j b at_j in
    cc

-- the schema of a part
schema_at : (parts : List DeltaPart) (t : ℕ) (schema : Schema) → slice_get (schemas_in parts) t ≡ Some schema → (part : DeltaPart) × (slice_get parts t ≡ Some part) × (part.schema ≡ schema)
schema_at [] t schema at = absurd cc
schema_at (part ∷ parts) zero schema at = (part, refl, cc)
schema_at (part ∷ parts) (suc t) schema at = schema_at parts t schema at

module _ (schemas : List Schema) (parts : List DeltaPart) (indexes : List ℕ) (are : AllZip (IsOwnAt schemas) parts indexes) where
  index_there : (t : ℕ) (schema : Schema) → slice_get (schemas_in parts) t ≡ Some schema → (index : ℕ) × (slice_get indexes t ≡ Some index) × (slice_get schemas index ≡ Some schema)
  index_there t schema at =
      let (part, at_part, same) = schema_at parts t schema at in
      let (index, at_index, is) = zip_at (IsOwnAt schemas) parts indexes t part are at_part in
      (index, at_index, is ∙ ap (λ (s : Schema). Some s) same)

  first_there : IsKept schemas DuplicateName → StandOnce indexes → (t : ℕ) (schema : Schema) → slice_get (schemas_in parts) t ≡ Some schema → StandsEarlier (type_names (schemas_in parts)) t → ⊥
  first_there apart once t schema at (k, inside, same) =
      let listed = schemas_in parts in
      let names = type_names listed in
      let below : k < t = omega (arith, inside, length-take t names) in
      let here : k < length listed = let within = slice_get_within listed t schema at in omega (arith, within, below) in
      let other = get_or listed k schema in
      let there = slice_get-get_or listed k schema here in
      let own = item_name (λ (s : Schema). s.name) listed t schema at in
      let its = item_name (λ (s : Schema). s.name) listed k other there in
      let name : other.name ≡ schema.name =
      sym its ∙ sym (get_or-take t names k [] below) ∙ get_or_default (take t names) k [] (get_or names t []) inside ∙ same ∙ own in
      let (i, at_i, is_i) = index_there t schema at in
      let (j, at_j, is_j) = index_there k other there in
      let equal = one_index schemas apart j i other schema is_j is_i name in
      once k t i below (at_j ∙ ap Some equal) at_i

  -- where no index stands twice no name does, in a model without fields of one name
  pub names_once : IsKept schemas DuplicateName → StandOnce indexes → NamesOnce parts
  names_once apart once t (schema, at, inl again) = first_there apart once t schema at again
  names_once apart once t (schema, at, inr field) =
      let (index, at_index, is) = index_there t schema at in
      apart index (schema, is, inr field)

  -- they have few fields
  pub own_few : IsKept schemas TooMany → All HasFewFields parts
  own_few few = λ k d inside.
      let part = get_or parts k d in
      let (index, at_index, is) = zip_at (IsOwnAt schemas) parts indexes k part are (slice_get-get_or parts k d inside) in
      elim (cases_lt 1024 (length (fields_of part.schema))) [ inl many ↦ absurd (few index (part.schema, is, inr many)) | inr kept ↦ kept ]

-- ---- walking over the types

-- the index of one more type
pub indexes_more : (schemas : List Schema) (parts : List DeltaPart) (place index : ℕ) (part : DeltaPart) (indexes all : List ℕ) → place < length parts → part ≡ get_or parts place part
    → AllZip (IsOwnAt schemas) (take place parts) indexes → slice_get schemas index ≡ Some part.schema → all ≡ indexes ++ index ∷ [] → AllZip (IsOwnAt schemas) (take (place + 1) parts) all
indexes_more schemas parts place index part indexes all inside is before at pushed =
    let next : take (place + 1) parts ≡ take place parts ++ part ∷ [] = take_more parts place part inside ∙ ap (λ (p : DeltaPart). take place parts ++ p ∷ []) (sym is) in
    subst (λ (ps : List DeltaPart). AllZip (IsOwnAt schemas) ps all) (sym next)
    (subst (λ (is : List ℕ). AllZip (IsOwnAt schemas) (take place parts ++ part ∷ []) is) (sym pushed) (all_zipped_more (IsOwnAt schemas) (take place parts) indexes part index before at))

-- the type of a name stands in the model
pub type_inside : (schemas : List Schema) (name : List ℕ) (t : ℕ) → slice_get (type_names schemas) t ≡ Some name → t < length schemas
type_inside schemas name t at = let within = slice_get_within (type_names schemas) t name at in omega (arith, within, length-map schemas (λ (s : Schema). s.name))
