-- The order `model` has an answer.
use Rattle.std.proofs.Common.{◌≡◌, ◌<◌, ◌∙◌, ℕ, zero, suc, List, [], ◌∷◌, length, Option, None, Some, inl, inr, refl, sym, subst, arith}
use Rattle.std.specs.Prelude.{IsSomeAnd, codes, option_and_then, slice_get}
use Rattle.serde_json.specs.Data.{Data, null, boolean, number, string, array, object, Items, no_items, item}
use Rattle.serde_json.specs.Find.{at, get, get_item}
use Rattle.schema_model.specs.declared.model.rule.Rule.{Rule}
use Rattle.schema_model.specs.declared.schema.Field.{Field}
use Rattle.schema_model.specs.declared.schema.Schema.{Schema}
use Rattle.schema_model.specs.declared.schema.Shape.{Shape}
use Rattle.schema_model.specs.Model.{BreaksAt, IsModel, rule_place}
use Rattle.blob_faults.proofs.LeastNumber.{no_number}
use Rattle.state_blobs.specs.Published.{Published, new_producer}
use Rattle.json_values.specs.SchemaJson.{AreSchemas, HasParts, HasText, IsArrayOf, IsField, IsKindName, IsKindOrFloat, IsSchema, ItemsAre, StandsFor, StandsForWithFloats, shape_name}
use Rattle.json_values.specs.SchemasFrom.{BreaksWithFloats, HasFloat, HasFloatAt, IsFloatField}
use Rattle.hol_answers.specs.declared.refusal.Refusal.TheVariants as refusal
use Rattle.hol_answers.specs.declared.reply.Reply.TheVariants as reply
use Rattle.hollow_machine.specs.ModelOrder.{BreaksRule, IsNamed, model_form}
use Rattle.hollow_machine.specs.State.{Machine, with_producer}
use Rattle.answer_laws.specs.Answered.{IsAnsweredBy, IsSound}
use Rattle.answer_laws.proofs.Deciding.{decide}

-- ---- the items of an array

-- an item stands for each thing
item_of : {A : Type 0} (R : Data → A → Type 0) (items : Items) (xs : List A) (t : ℕ) (x : A) → ItemsAre R items xs → slice_get xs t ≡ Some x → (d : Data) × (get_item t items ≡ Some d) × R d x
item_of R no_items [] t x are there = absurd cc
item_of R no_items (y ∷ xs) t x are there = absurd are
item_of R (item d items) [] t x are there = absurd are
item_of R (item d items) (y ∷ xs) zero x are there = let same : y ≡ x = cc in (d, refl, subst (R d) same are.0)
item_of R (item d items) (y ∷ xs) (suc t) x are there = item_of R items xs t x are.1 there

-- and each item for a thing
thing_of : {A : Type 0} (R : Data → A → Type 0) (items : Items) (xs : List A) (t : ℕ) (d : Data) → ItemsAre R items xs → get_item t items ≡ Some d → (x : A) × R d x
thing_of R no_items xs t d are there = absurd cc
thing_of R (item e items) [] t d are there = absurd are
thing_of R (item e items) (x ∷ xs) zero d are there = let same : e ≡ d = cc in (x, subst (λ v. R v x) same are.0)
thing_of R (item e items) (x ∷ xs) (suc t) d are there = thing_of R items xs t d are.1 there

-- ---- names

named_at : (value : Data) (schemas : List Schema) → StandsForWithFloats value schemas → (t : ℕ) (schema : Schema) → slice_get schemas t ≡ Some schema → IsNamed value t schema.name
named_at (array items) schemas are t schema there =
    let (d, found, is) = item_of (IsSchema IsKindOrFloat) items schemas t schema are there in
    subst (λ (o : Option Data). IsSomeAnd o (λ s. HasText s (codes "name") schema.name)) (sym found) is.name
named_at null schemas are t schema there = absurd are
named_at (boolean b) schemas are t schema there = absurd are
named_at (number n) schemas are t schema there = absurd are
named_at (string text) schemas are t schema there = absurd are
named_at (object _) schemas are t schema there = absurd are

float_named : (value : Data) (schemas : List Schema) → StandsForWithFloats value schemas → (t : ℕ) → HasFloatAt value t → (name : List ℕ) × IsNamed value t name
float_named (array items) schemas are t has = by_item (get_item t items) refl has
  where
    by_item : (found : Option Data) → get_item t items ≡ found → IsSomeAnd found HasFloat → (name : List ℕ) × IsNamed (array items) t name
    by_item None is some = absurd some
    by_item (Some d) is some =
        let (schema, stands) = thing_of (IsSchema IsKindOrFloat) items schemas t d are is in
        (schema.name, subst (λ (o : Option Data). IsSomeAnd o (λ s. HasText s (codes "name") schema.name)) (sym is) stands.name)
float_named null schemas are t has = absurd are
float_named (boolean b) schemas are t has = absurd are
float_named (number n) schemas are t has = absurd are
float_named (string text) schemas are t has = absurd are
float_named (object _) schemas are t has = absurd are

broken_named : (value : Data) (schemas : List Schema) → StandsForWithFloats value schemas → (rule : Rule) (t : ℕ) → BreaksAt schemas rule t → (name : List ℕ) × IsNamed value t name
broken_named value schemas are rule t (schema, there, breaks) = (schema.name, named_at value schemas are t schema there)

-- the type that breaks a rule has a name
breaking_named : (value : Data) (schemas : List Schema) → StandsForWithFloats value schemas → (rule : Rule) (t : ℕ) → BreaksWithFloats value schemas rule t → (name : List ℕ) × IsNamed value t name
breaking_named value schemas are Rule.FloatField t broken = float_named value schemas are t broken
breaking_named value schemas are Rule.TooMany t broken = broken_named value schemas are Rule.TooMany t broken
breaking_named value schemas are Rule.LongName t broken = broken_named value schemas are Rule.LongName t broken
breaking_named value schemas are Rule.DuplicateName t broken = broken_named value schemas are Rule.DuplicateName t broken
breaking_named value schemas are Rule.UnknownType t broken = broken_named value schemas are Rule.UnknownType t broken
breaking_named value schemas are Rule.CyclicModel t broken = broken_named value schemas are Rule.CyclicModel t broken
breaking_named value schemas are Rule.TooDeep t broken = broken_named value schemas are Rule.TooDeep t broken
breaking_named value schemas are Rule.BadPath t broken = broken_named value schemas are Rule.BadPath t broken

-- ---- schemas without a FLOAT or a DOUBLE

fields_narrow : (items : Items) (fields : List Field) → ItemsAre (IsField IsKindOrFloat) items fields → ((k : ℕ) → IsSomeAnd (get_item k items) IsFloatField → ⊥) → ItemsAre (IsField IsKindName) items fields
fields_narrow no_items [] are none = tt
fields_narrow no_items (f ∷ fields) are none = absurd are
fields_narrow (item d items) [] are none = absurd are
fields_narrow (item d items) (f ∷ fields) are none = (of_kind are.0.kind.2, fields_narrow items fields are.1 (λ k. none (suc k)))
  where
    of_kind : IsKindOrFloat f.kind are.0.kind.0 → IsField IsKindName d f
    of_kind (inl is) = record { name = are.0.name; kind = (are.0.kind.0, are.0.kind.1, is); target = are.0.target }
    of_kind (inr float) = absurd (none 0 (are.0.kind.0, are.0.kind.1, float.1))

found_narrow : (found : Option Data) (fields : List Field) → IsSomeAnd found (λ d. IsArrayOf (IsField IsKindOrFloat) d fields) → ((k : ℕ) → IsSomeAnd (option_and_then (at k) found) IsFloatField → ⊥)
    → IsSomeAnd found (λ d. IsArrayOf (IsField IsKindName) d fields)
found_narrow None fields are none = absurd are
found_narrow (Some (array items)) fields are none = fields_narrow items fields are none
found_narrow (Some null) fields are none = absurd are
found_narrow (Some (boolean b)) fields are none = absurd are
found_narrow (Some (number n)) fields are none = absurd are
found_narrow (Some (string text)) fields are none = absurd are
found_narrow (Some (object _)) fields are none = absurd are

schema_narrow : (value : Data) (schema : Schema) → IsSchema IsKindOrFloat value schema → (HasFloat value → ⊥) → IsSchema IsKindName value schema
schema_narrow value schema is none = record { name = is.name; kind = is.kind; parts = of_shape schema.shape is.kind is.parts }
  where
    of_shape : (shape : Shape) → HasText value (codes "kind") (shape_name shape) → HasParts IsKindOrFloat value shape → HasParts IsKindName value shape
    of_shape (Shape.Object key fields) kind has = (found_narrow (get (codes "fields") value) fields has.0 (λ k float. none (kind, (k, float))), has.1)
    of_shape (Shape.Set element) kind has = has
    of_shape (Shape.List element) kind has = has
    of_shape (Shape.Map key element) kind has = has

schemas_narrow : (value : Data) (schemas : List Schema) → StandsForWithFloats value schemas → ((t : ℕ) → HasFloatAt value t → ⊥) → StandsFor value schemas
schemas_narrow (array items) schemas are none = each items schemas are none
  where
    each : (items : Items) (schemas : List Schema) → ItemsAre (IsSchema IsKindOrFloat) items schemas → ((t : ℕ) → IsSomeAnd (get_item t items) HasFloat → ⊥) → ItemsAre (IsSchema IsKindName) items schemas
    each no_items [] are none = tt
    each no_items (s ∷ schemas) are none = absurd are
    each (item d items) [] are none = absurd are
    each (item d items) (s ∷ schemas) are none = (schema_narrow d s are.0 (none 0), each items schemas are.1 (λ t. none (suc t)))
schemas_narrow null schemas are none = absurd are
schemas_narrow (boolean b) schemas are none = absurd are
schemas_narrow (number n) schemas are none = absurd are
schemas_narrow (string text) schemas are none = absurd are
schemas_narrow (object _) schemas are none = absurd are

-- ---- the first rule that is broken

-- where no rule is the first that is broken, by a first type, none is
module _ (Broken : Rule → ℕ → Type 0)
    (none : (rule : Rule) (t : ℕ) → ((before : Rule) → rule_place before < rule_place rule → (u : ℕ) → Broken before u → ⊥) → Broken rule t → ((u : ℕ) → u < t → Broken rule u → ⊥) → ⊥) where
  -- A rule at a place is broken.
  abbrev BrokenAt : ℕ → Type 0
  BrokenAt place = (rule : Rule) × (rule_place rule ≡ place) × ((t : ℕ) × Broken rule t)

  no_first : (place : ℕ) → BrokenAt place → ((other : ℕ) → other < place → BrokenAt other → ⊥) → ⊥
  no_first place (rule, is, (t, broken)) earlier = no_number (Broken rule) (λ u here least.
      none rule u (λ before less w other. earlier (rule_place before) (omega (arith, less, is)) (before, refl, (w, other))) here least) t broken

  none_broken : (rule : Rule) (t : ℕ) → Broken rule t → ⊥
  none_broken rule t broken = no_number BrokenAt no_first (rule_place rule) (rule, refl, (t, broken))

-- ---- schemas that are a model

module _ (value : Data) (schemas : List Schema) (are : StandsForWithFloats value schemas) where
  -- The value breaks this rule first, in the first type that breaks it, which has this name.
  abbrev BreaksFirst : Rule → List ℕ → Type 0
  BreaksFirst rule name = (t : ℕ) × BreaksRule value rule t × IsNamed value t name

  -- that schemas are neither a model nor break a rule first cannot be
  pub model_or_rule : (StandsFor value schemas → IsModel schemas → ⊥) → ((rule : Rule) (name : List ℕ) → BreaksFirst rule name → ⊥) → ⊥
  model_or_rule model breaks = decide ((t : ℕ) × HasFloatAt value t) (λ either. elim either [
    | inl some ↦ none_broken (BreaksWithFloats value schemas) (λ rule t earlier broken least.
        let named = breaking_named value schemas are rule t broken in
        breaks rule named.0 (t, inr (schemas, are, some, record { earlier = earlier; broken = broken; least = least }), named.1)) Rule.FloatField some.0 some.1
    | inr never ↦
        let stands = schemas_narrow value schemas are (λ t has. never (t, has)) in
        decide ((rule : Rule) × (t : ℕ) × BreaksAt schemas rule t) (λ rules. elim rules [
          | inl some ↦ none_broken (BreaksAt schemas) (λ rule t earlier broken least.
              let named = broken_named value schemas are rule t broken in
              breaks rule named.0 (t, inl (schemas, stands, record { earlier = earlier; broken = broken; least = least }), named.1)) some.0 some.1 some.2
          | inr kept ↦ model stands (λ rule t broken. kept (rule, t, broken))
        ])
  ])

-- ---- the order

module _ (machine : Machine) (value : Data) (schemas : List Schema) (are : StandsForWithFloats value schemas) where
  of_none : machine.producer ≡ None → IsAnsweredBy model_form machine value
  of_none new none = model_or_rule value schemas are
      (λ stands model. none (reply.Model (length schemas)) (with_producer machine (Some (new_producer schemas))) (schemas, new, stands, model, refl, refl))
      (λ rule name breaks. none (reply.Refused (refusal.BadModel rule name)) machine ((new, breaks), refl))

  of_producer : (producer : Option Published) → machine.producer ≡ producer → IsAnsweredBy model_form machine value
  of_producer None is none = of_none is none
  of_producer (Some last) is none = none (reply.Refused refusal.ModelFixed) machine ((λ new. (let clash : Some last ≡ None = sym is ∙ new in absurd cc)), refl)

pub model_answered : (machine : Machine) → IsSound machine → (value : Data) → AreSchemas value → IsAnsweredBy model_form machine value
model_answered machine sound value (schemas, are) = of_producer machine value schemas are machine.producer refl
