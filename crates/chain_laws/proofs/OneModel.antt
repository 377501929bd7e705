-- The order `model` has one answer, and leaves one machine.
use Rattle.std.proofs.Common.{◌≡◌, ◌⊎◌, ℕ, List, length, Option, Some, None, Ok, Err, inl, inr, refl, sym, ap, subst, ◌∙◌, arith}
use Rattle.std.specs.Prelude.{IsSomeAnd, codes}
use Rattle.std.proofs.lemmas.Bool.{cases_order}
use Rattle.serde_json.specs.Data.{Data, string}
use Rattle.serde_json.specs.Find.{at}
use Rattle.schema_model.specs.declared.model.rule.Rule.{Rule}
use Rattle.schema_model.specs.declared.schema.Schema.{Schema}
use Rattle.schema_model.specs.Model.{BreaksAt, IsFirstBroken, IsModel, rule_place}
use Rattle.json_values.specs.declared.fault.SchemasFault.TheVariants as fault
use Rattle.json_values.specs.SchemaJson.{HasText, StandsFor}
use Rattle.json_values.specs.SchemasFrom.{IsRefused}
use Rattle.json_values.proofs.OneSchemaList.{one_list, rule_exactly}
use Rattle.hol_answers.specs.declared.refusal.Refusal.{Refusal}
use Rattle.hol_answers.specs.declared.refusal.Refusal.TheVariants as refused
use Rattle.hol_answers.specs.declared.reply.Reply.{Reply}
use Rattle.hol_answers.specs.declared.reply.Reply.TheVariants as reply
use Rattle.hollow_machine.specs.ModelOrder.{BreaksRule, IsNamed, ModelRefusal, ModelStep}
use Rattle.hollow_machine.specs.State.{Machine, with_producer}
use Rattle.state_blobs.specs.Published.{new_producer}

-- ---- the first rule that is broken

-- a rule has its place alone
place_one : (rule other : Rule) → rule_place rule ≡ rule_place other → rule ≡ other
place_one Rule.TooMany Rule.TooMany e = refl
place_one Rule.LongName Rule.LongName e = refl
place_one Rule.DuplicateName Rule.DuplicateName e = refl
place_one Rule.FloatField Rule.FloatField e = refl
place_one Rule.UnknownType Rule.UnknownType e = refl
place_one Rule.CyclicModel Rule.CyclicModel e = refl
place_one Rule.TooDeep Rule.TooDeep e = refl
place_one Rule.BadPath Rule.BadPath e = refl
place_one rule other e = absurd (omega (arith, e))

broken_one : (schemas : List Schema) (rule other : Rule) (t u : ℕ) → IsFirstBroken schemas rule t → IsFirstBroken schemas other u → (rule ≡ other) × (t ≡ u)
broken_one schemas rule other t u is also =
    elim (cases_order (rule_place rule) (rule_place other)) [
      | inl same ↦ by_place (place_one rule other same)
      | inr (inl before) ↦ absurd (also.earlier rule before t is.broken)
      | inr (inr behind) ↦ absurd (is.earlier other behind u also.broken)
    ]
  where
    by_place : rule ≡ other → (rule ≡ other) × (t ≡ u)
    by_place same =
        let there : BreaksAt schemas other t = subst (λ (r : Rule). BreaksAt schemas r t) same is.broken in
        let here : BreaksAt schemas rule u = subst (λ (r : Rule). BreaksAt schemas r u) (sym same) also.broken in
        elim (cases_order t u) [
          | inl e ↦ (same, e)
          | inr (inl below) ↦ absurd (also.least t below there)
          | inr (inr above) ↦ absurd (is.least u above here)
        ]

module _ (value : Data) where
  -- a list that stands for schemas has no FLOAT or DOUBLE
  no_float : (schemas : List Schema) (rule : Rule) (t : ℕ) → StandsFor value schemas → IsRefused value rule t → ⊥
  no_float schemas rule t stands is = elim ((rule_exactly value (Ok schemas) stands rule t).1 is) [ inl same ↦ absurd cc | inr free ↦ free ]

  refused_one : (rule other : Rule) (t u : ℕ) → IsRefused value rule t → IsRefused value other u → (rule ≡ other) × (t ≡ u)
  refused_one rule other t u is also =
      elim ((rule_exactly value (Err (fault.Rule rule t)) is other u).1 also) [
        | inl same ↦ (let rules : rule ≡ other = cc in let types : t ≡ u = cc in (rules, types))
        | inr free ↦ absurd free
      ]

  pub breaks_one : (rule other : Rule) (t u : ℕ) → BreaksRule value rule t → BreaksRule value other u → (rule ≡ other) × (t ≡ u)
  breaks_one rule other t u (inl (schemas, stands, first)) (inl (others, also, first_too)) =
      let same = one_list value others schemas also stands in
      broken_one schemas rule other t u first (subst (λ (s : List Schema). IsFirstBroken s other u) same first_too)
  breaks_one rule other t u (inl (schemas, stands, first)) (inr is) = absurd (no_float schemas other u stands is)
  breaks_one rule other t u (inr is) (inl (schemas, stands, first)) = absurd (no_float schemas rule t stands is)
  breaks_one rule other t u (inr is) (inr also) = refused_one rule other t u is also

  pub breaks_not : (schemas : List Schema) (rule : Rule) (t : ℕ) → StandsFor value schemas → IsModel schemas → BreaksRule value rule t → ⊥
  breaks_not schemas rule t stands model (inl (others, also, first)) =
      let same = one_list value others schemas also stands in model rule t (subst (λ (s : List Schema). BreaksAt s rule t) same first.broken)
  breaks_not schemas rule t stands model (inr is) = no_float schemas rule t stands is

  pub named_one : (t : ℕ) (a b : List ℕ) → IsNamed value t a → IsNamed value t b → a ≡ b
  named_one t a b one other = by_schema (at t value) one other
    where
      by_schema : (found : Option Data) → IsSomeAnd found (λ schema. HasText schema (codes "name") a) → IsSomeAnd found (λ schema. HasText schema (codes "name") b) → a ≡ b
      by_schema None x y = absurd x
      by_schema (Some schema) x y = let both : Some (string a) ≡ Some (string b) = sym x ∙ y in cc

-- ---- the order

module _ (machine : Machine) (value : Data) where
  abbrev Kind : Refusal → Type 0
  Kind refusal =
      (((machine.producer ≡ None) → ⊥) × (refusal ≡ refused.ModelFixed))
      ⊎ ((machine.producer ≡ None) × ((rule : Rule) × (name : List ℕ) × (t : ℕ) × (refusal ≡ refused.BadModel rule name) × BreaksRule value rule t × IsNamed value t name))

  kind : (refusal : Refusal) → ModelRefusal machine value refusal → Kind refusal
  kind refused.ModelFixed is = inl (is, refl)
  kind (refused.BadModel rule name) is = inr (is.0, (rule, name, is.1.0, refl, is.1.1, is.1.2))
  kind _ is = absurd is

  kinds_one : (r s : Refusal) → Kind r → Kind s → r ≡ s
  kinds_one r s (inl fixed) (inl also) = fixed.1 ∙ sym also.1
  kinds_one r s (inl fixed) (inr bad) = absurd (fixed.0 bad.0)
  kinds_one r s (inr bad) (inl fixed) = absurd (fixed.0 bad.0)
  kinds_one r s (inr (none, (rule, name, t, is, breaks, named))) (inr (none_too, (other, called, u, is_too, breaks_too, named_too))) =
      let same = breaks_one value rule other t u breaks breaks_too in
      let names = named_one value u name called (subst (λ k. IsNamed value k name) same.1 named) named_too in
      is ∙ (λ i. refused.BadModel (same.0 i) (names i)) ∙ sym is_too

  not_kind : (schemas : List Schema) (refusal : Refusal) → machine.producer ≡ None → StandsFor value schemas → IsModel schemas → Kind refusal → ⊥
  not_kind schemas refusal none stands model (inl fixed) = fixed.0 none
  not_kind schemas refusal none stands model (inr (none_too, (rule, name, t, is, breaks, named))) = breaks_not value schemas rule t stands model breaks

  pub one_model : (one other : Reply) (next after : Machine) → ModelStep machine value one next → ModelStep machine value other after → (one ≡ other) × (next ≡ after)
  one_model (reply.Model n) (reply.Model m) next after (schemas, none, stands, model, count, next_is) (others, none_too, also, model_too, count_too, after_is) =
      let same = one_list value schemas others stands also in (
        ap (λ k. reply.Model k) (count ∙ ap (λ (s : List Schema). length s) same ∙ sym count_too),
        next_is ∙ ap (λ (s : List Schema). with_producer machine (Some (new_producer s))) same ∙ sym after_is,
      )
  one_model (reply.Model n) (reply.Refused refusal) next after (schemas, none, stands, model, count, next_is) other = absurd (not_kind schemas refusal none stands model (kind refusal other.0))
  one_model (reply.Refused refusal) (reply.Model n) next after one (schemas, none, stands, model, count, next_is) = absurd (not_kind schemas refusal none stands model (kind refusal one.0))
  one_model (reply.Refused r) (reply.Refused s) next after one other = (ap (λ x. reply.Refused x) (kinds_one r s (kind r one.0) (kind s other.0)), one.1 ∙ sym other.1)
  one_model (reply.Model n) _ next after one other = absurd other
  one_model (reply.Refused r) _ next after one other = absurd other
  one_model _ other_answer next after one other = absurd one
