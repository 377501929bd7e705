-- The order `grow` has an answer.
use Rattle.std.proofs.Common.{◌≡◌, ℕ, List, length, Option, None, Some, refl, sym, subst}
use Rattle.std.specs.Prelude.{IsSome, IsSomeAnd, slice_get}
use Rattle.std.proofs.lemmas.List.{length-map}
use Rattle.std.proofs.lemmas.Option.{slice_get_within}
use Rattle.serde_json.specs.Data.{Data}
use Rattle.schema_model.specs.declared.schema.Schema.{Schema}
use Rattle.schema_model.specs.Growth.{Grows, GrowsAt, IsNotGrown}
use Rattle.row_model.specs.View.{seen_type}
use Rattle.json_values.specs.SchemaJson.{AreSchemas, StandsForWithFloats}
use Rattle.state_blobs.specs.Published.{Published}
use Rattle.hol_answers.specs.declared.refusal.Refusal.TheVariants as refusal
use Rattle.hol_answers.specs.declared.reply.Reply.TheVariants as reply
use Rattle.hollow_machine.specs.GrowOrder.{GrowsNot, GrowsOn, grow_form, grown_producer}
use Rattle.hollow_machine.specs.State.{Machine, with_producer}
use Rattle.answer_laws.specs.Answered.{HasRows, IsAnsweredBy, IsSound}
use Rattle.answer_laws.proofs.Compared.{at_inside}
use Rattle.answer_laws.proofs.Deciding.{all_or_first}
use Rattle.answer_laws.proofs.Models.{model_or_rule}

-- that a model neither grows another one nor is a type of that the first that it does not have cannot be
grows_or_not : (schemas grown : List Schema) → (Grows schemas grown → ⊥) → ((t : ℕ) (schema : Schema) → slice_get schemas t ≡ Some schema → IsNotGrown schemas grown t → ⊥) → ⊥
grows_or_not schemas grown grows lacks = all_or_first (GrowsAt schemas grown) (length schemas)
    (λ all. grows (λ t schema there. all t (slice_get_within schemas t schema there) schema there))
    (λ t below never before. (let here = at_inside schemas t below in lacks t here.0 here.1 (record { not = never; first = before })))

module _ (machine : Machine) (value : Data) (schemas : List Schema) (are : StandsForWithFloats value schemas) where
  module _ (last : Published) (is : machine.producer ≡ Some last) where
    there : (P : Published → Type 0) → P last → IsSomeAnd machine.producer P
    there P holds = subst (λ (o : Option Published). IsSomeAnd o P) (sym is) holds

    of_last : IsAnsweredBy grow_form machine value
    of_last none = model_or_rule value schemas are
        (λ stands model. grows_or_not last.model schemas
        (λ grows.
        let next = with_producer machine (Some (grown_producer schemas last)) in
        none (reply.Grow (length schemas)) next (there (GrowsOn machine value (length schemas) next) (schemas, stands, model, grows, refl, refl)))
        (λ t schema at first. none (reply.Refused (refusal.NotGrown schema.name)) machine
        (there (GrowsNot value schema.name) (schemas, stands, model, t, first, subst (λ (o : Option Schema). IsSomeAnd o (λ s. s.name ≡ schema.name)) (sym at) refl), refl)))
        (λ rule name breaks. none (reply.Refused (refusal.BadModel rule name)) machine ((subst (λ (o : Option Published). IsSome o) (sym is) refl, breaks), refl))

  of_producer : (producer : Option Published) → machine.producer ≡ producer → IsAnsweredBy grow_form machine value
  of_producer None is none = none (reply.Refused refusal.NoModel) machine (is, refl)
  of_producer (Some last) is none = of_last last is none

pub grow_answered : (machine : Machine) → IsSound machine → (value : Data) → AreSchemas value → IsAnsweredBy grow_form machine value
grow_answered machine sound value (schemas, are) = of_producer machine value schemas are machine.producer refl

-- a producer that has grown has rows for each type of its model
pub grown_rows : (schemas : List Schema) (last : Published) → HasRows (grown_producer schemas last)
grown_rows schemas last = length-map schemas (seen_type last.model last.rows)
