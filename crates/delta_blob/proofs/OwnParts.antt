-- Types of a delta that are the model's own: all of them are there, and agree with it.
use Rattle.std.proofs.Common.{◌≡◌, ◌∙◌, Bool, true, ℕ, List, [], ◌∷◌, Option, None, Some, ap, cond, get_or, is_some, refl, slice_get}
use Rattle.std.specs.Prelude.{All, Contains}
use Rattle.std.proofs.lemmas.List.Elements.{All-head, All-tail}
use Rattle.std.proofs.lemmas.Option.{get_or_from_slice_get, slice_get-get_or, slice_get_within}
use Rattle.schema_model.specs.declared.schema.Schema.{Schema}
use Rattle.schema_model.specs.Growth.{Agree}
use Rattle.schema_model.specs.Model.{IsModel}
use Rattle.schema_model.specs.Parts.{index_of_type, type_names}
use Rattle.schema_model.proofs.ModelFacts.{index_none}
use Rattle.schema_growth.proofs.Growths.{grown_agrees, grows_itself}
use Rattle.delta_blob.specs.declared.part.DeltaPart.{DeltaPart}
use Rattle.delta_blob.specs.Patch.{AgreesWith, NamesOwn, parts_for}
use Rattle.delta_blob.proofs.Meant.{name_there}

-- a schema of a model agrees with each of its name, itself included
pub own_agrees : (schemas : List Schema) → IsModel schemas → (t u : ℕ) (mine schema : Schema) → slice_get schemas t ≡ Some mine → slice_get schemas u ≡ Some schema → mine.name ≡ schema.name → Agree mine schema
own_agrees schemas model = grown_agrees schemas schemas model (grows_itself schemas)

-- the index at which a schema stands
contained_at : (schemas : List Schema) (schema : Schema) → Contains schemas schema → (t : ℕ) × (slice_get schemas t ≡ Some schema)
contained_at schemas schema (t, inside, same) = (t, slice_get-get_or schemas t schema inside ∙ ap (λ (s : Schema). Some s) same)

part_agrees : (schemas : List Schema) → IsModel schemas → (part : DeltaPart) → Contains schemas part.schema → AgreesWith schemas part
part_agrees schemas model part own = λ k d inside name.
    let (t, at) = contained_at schemas part.schema own in
    own_agrees schemas model k t (get_or schemas k d) part.schema (slice_get-get_or schemas k d inside) at name

-- the model's own types agree with it
pub all_own_agree : (schemas : List Schema) → IsModel schemas → (parts : List DeltaPart) → NamesOwn schemas parts → All (AgreesWith schemas) parts
all_own_agree schemas model parts own = λ k d inside. part_agrees schemas model (get_or parts k d) (own k d inside)

some_by : (o : Option ℕ) → (o ≡ None → ⊥) → is_some o ≡ true
some_by None none = absurd (none refl)
some_by (Some t) none = refl

own_there : (schemas : List Schema) (schema : Schema) → Contains schemas schema → is_some (index_of_type schemas schema.name) ≡ true
own_there schemas schema own =
    let (t, at) = contained_at schemas schema own in
    let there = name_there schemas t schema at in
    let names = type_names schemas in
    some_by (index_of_type schemas schema.name) (λ none.
    (index_none names schema.name).0 none (t, slice_get_within names t schema.name there, get_or_from_slice_get names t schema.name schema.name there))

-- and none of them is passed over
pub all_own_there : (schemas : List Schema) (parts : List DeltaPart) → NamesOwn schemas parts → parts_for schemas parts ≡ parts
all_own_there schemas [] own = refl
all_own_there schemas (part ∷ parts) own =
    let Own : DeltaPart → Type 0 = λ part. Contains schemas part.schema in
    let here = own_there schemas part.schema (All-head Own part parts own) in
    let rest = all_own_there schemas parts (All-tail Own part parts own) in
    ap (λ (b : Bool). cond b (part ∷ parts_for schemas parts) (parts_for schemas parts)) here ∙ ap (λ (ps : List DeltaPart). part ∷ ps) rest
