-- The order `grow` has one answer, and leaves one machine.
use Rattle.std.proofs.Common.{◌≡◌, ◌⊎◌, ℕ, List, length, Option, Some, None, inl, inr, refl, sym, ap, subst, ◌∙◌}
use Rattle.std.specs.Prelude.{IsSome, IsSomeAnd, slice_get}
use Rattle.std.proofs.lemmas.Bool.{cases_order}
use Rattle.serde_json.specs.Data.{Data}
use Rattle.schema_model.specs.declared.model.rule.Rule.{Rule}
use Rattle.schema_model.specs.declared.schema.Schema.{Schema}
use Rattle.schema_model.specs.Growth.{GrowsAt, IsNotGrown}
use Rattle.json_values.proofs.OneSchemaList.{one_list}
use Rattle.hol_answers.specs.declared.refusal.Refusal.{Refusal}
use Rattle.hol_answers.specs.declared.refusal.Refusal.TheVariants as refused
use Rattle.hol_answers.specs.declared.reply.Reply.{Reply}
use Rattle.hol_answers.specs.declared.reply.Reply.TheVariants as reply
use Rattle.hollow_machine.specs.GrowOrder.{GrowRefusal, GrowsNot, GrowsOn, GrowStep, grown_producer}
use Rattle.hollow_machine.specs.ModelOrder.{BreaksRule, IsNamed}
use Rattle.hollow_machine.specs.State.{Machine, with_producer}
use Rattle.state_blobs.specs.Published.{Published}
use Rattle.chain_laws.proofs.OneModel.{breaks_not, breaks_one, named_one}
use Rattle.chain_laws.proofs.StoreNames.{found_with, name_once}

-- one type is the first that has not grown
first_one : (own grown : List Schema) (t u : ℕ) → IsNotGrown own grown t → IsNotGrown own grown u → t ≡ u
first_one own grown t u is also =
    elim (cases_order t u) [
      | inl same ↦ same
      | inr (inl before) ↦ absurd (is.not (also.first t before))
      | inr (inr behind) ↦ absurd (also.not (is.first u behind))
    ]

module _ (machine : Machine) (value : Data) where
  no_some : (P : Published → Type 0) → machine.producer ≡ None → IsSomeAnd machine.producer P → ⊥
  no_some P none some = subst (λ (producer : Option Published). IsSomeAnd producer P) none some

  same_last : (last other : Published) → machine.producer ≡ Some last → machine.producer ≡ Some other → other ≡ last
  same_last last other is also = let both : Some other ≡ Some last = sym also ∙ is in cc

  -- ---- why the order is refused

  abbrev Breaks : Refusal → Type 0
  Breaks refusal = (rule : Rule) × (name : List ℕ) × (t : ℕ) × (refusal ≡ refused.BadModel rule name) × BreaksRule value rule t × IsNamed value t name

  abbrev IsOther : Refusal → Type 0
  IsOther refusal = (name : List ℕ) × (refusal ≡ refused.NotGrown name) × IsSomeAnd machine.producer (GrowsNot value name)

  abbrev Why : Refusal → Type 0
  Why refusal = ((machine.producer ≡ None) × (refusal ≡ refused.NoModel)) ⊎ ((IsSome machine.producer × Breaks refusal) ⊎ IsOther refusal)

  why : (refusal : Refusal) → GrowRefusal machine value refusal → Why refusal
  why refused.NoModel is = inl (is, refl)
  why (refused.BadModel rule name) is = inr (inl (is.0, (rule, name, is.1.0, refl, is.1.1, is.1.2)))
  why (refused.NotGrown name) is = inr (inr (name, refl, is))
  why _ is = absurd is

  none_there : machine.producer ≡ None → IsSome machine.producer → ⊥
  none_there none some = let bad = subst IsSome none some in absurd cc

  breaks_alike : (r s : Refusal) → Breaks r → Breaks s → r ≡ s
  breaks_alike r s (rule, name, t, is, breaks, named) (other, called, u, is_too, breaks_too, named_too) =
      let same = breaks_one value rule other t u breaks breaks_too in
      let names = named_one value u name called (subst (λ k. IsNamed value k name) same.1 named) named_too in
      is ∙ (λ i. refused.BadModel (same.0 i) (names i)) ∙ sym is_too

  -- of one producer one name is told
  name_alike : (last : Published) (a b : List ℕ) → GrowsNot value a last → GrowsNot value b last → a ≡ b
  name_alike last a b (schemas, stands, model, t, not, named) (others, also, model_too, u, not_too, named_too) =
      let same = one_list value others schemas also stands in
      let index = first_one last.model schemas t u not (subst (λ (s : List Schema). IsNotGrown last.model s u) same not_too) in
      name_once (slice_get last.model u) a b (subst (λ k. IsSomeAnd (slice_get last.model k) (λ (s : Schema). s.name ≡ a)) index named) named_too

  other_alike : (r s : Refusal) → IsOther r → IsOther s → r ≡ s
  other_alike r s (name, is, some) (called, is_too, some_too) =
      let (last, at, not) = found_with machine.producer (GrowsNot value name) some in
      let (other, also, not_too) = found_with machine.producer (GrowsNot value called) some_too in
      let here = subst (GrowsNot value called) (same_last last other at also) not_too in
      is ∙ ap (λ n. refused.NotGrown n) (name_alike last name called not here) ∙ sym is_too

  -- what breaks no rule
  broken_not : (refusal other : Refusal) → Breaks refusal → IsOther other → ⊥
  broken_not refusal other (rule, called, t, is, breaks, its_name) (name, is_too, some) =
      let (last, at, (schemas, stands, model, u, not, named)) = found_with machine.producer (GrowsNot value name) some in
      breaks_not value schemas rule t stands model breaks

  why_one : (r s : Refusal) → Why r → Why s → r ≡ s
  why_one r s (inl none) (inl also) = none.1 ∙ sym also.1
  why_one r s (inl none) (inr (inl bad)) = absurd (none_there none.0 bad.0)
  why_one r s (inl none) (inr (inr (name, is, some))) = absurd (no_some (GrowsNot value name) none.0 some)
  why_one r s (inr (inl bad)) (inl none) = absurd (none_there none.0 bad.0)
  why_one r s (inr (inl bad)) (inr (inl also)) = breaks_alike r s bad.1 also.1
  why_one r s (inr (inl bad)) (inr (inr other)) = absurd (broken_not r s bad.1 other)
  why_one r s (inr (inr (name, is, some))) (inl none) = absurd (no_some (GrowsNot value name) none.0 some)
  why_one r s (inr (inr other)) (inr (inl bad)) = absurd (broken_not s r bad.1 other)
  why_one r s (inr (inr other)) (inr (inr also)) = other_alike r s other also

  -- ---- the order

  grown_alike : (n m : ℕ) (next after : Machine) → IsSomeAnd machine.producer (GrowsOn machine value n next) → IsSomeAnd machine.producer (GrowsOn machine value m after)
      → (reply.Grow n ≡ reply.Grow m) × (next ≡ after)
  grown_alike n m next after one other =
      let (last, is, (schemas, stands, model, grows, count, next_is)) = found_with machine.producer (GrowsOn machine value n next) one in
      let (same, also, (others, stands_too, model_too, grows_too, count_too, after_is)) = found_with machine.producer (GrowsOn machine value m after) other in
      let lasts = same_last last same is also in
      let lists = one_list value schemas others stands stands_too in (
        ap (λ k. reply.Grow k) (count ∙ ap (λ (s : List Schema). length s) lists ∙ sym count_too),
        next_is ∙ (λ i. with_producer machine (Some (grown_producer (lists i) (sym lasts i)))) ∙ sym after_is,
      )

  grown_not : (n : ℕ) (next : Machine) (refusal : Refusal) → IsSomeAnd machine.producer (GrowsOn machine value n next) → Why refusal → ⊥
  grown_not n next refusal some (inl none) = no_some (GrowsOn machine value n next) none.0 some
  grown_not n next refusal some (inr (inl (there, (rule, name, t, is, breaks, named)))) =
      let (last, at, (schemas, stands, model, grows, count, next_is)) = found_with machine.producer (GrowsOn machine value n next) some in
      breaks_not value schemas rule t stands model breaks
  grown_not n next refusal some (inr (inr (name, is, some_not))) =
      let (last, at, (schemas, stands, model, grows, count, next_is)) = found_with machine.producer (GrowsOn machine value n next) some in
      let (other, also, (others, stands_too, model_too, t, not, named)) = found_with machine.producer (GrowsNot value name) some_not in
      let here = subst (λ (s : List Schema). GrowsAt last.model s t) (one_list value schemas others stands stands_too) (grows t) in
      not.not (subst (λ (l : Published). GrowsAt l.model others t) (sym (same_last last other at also)) here)

  pub one_grow : (one other : Reply) (next after : Machine) → GrowStep machine value one next → GrowStep machine value other after → (one ≡ other) × (next ≡ after)
  one_grow (reply.Grow n) (reply.Grow m) next after one other = grown_alike n m next after one other
  one_grow (reply.Grow n) (reply.Refused refusal) next after one other = absurd (grown_not n next refusal one (why refusal other.0))
  one_grow (reply.Refused refusal) (reply.Grow n) next after one other = absurd (grown_not n after refusal other (why refusal one.0))
  one_grow (reply.Refused r) (reply.Refused s) next after one other = (ap (λ x. reply.Refused x) (why_one r s (why r one.0) (why s other.0)), one.1 ∙ sym other.1)
  one_grow (reply.Grow n) _ next after one other = absurd other
  one_grow (reply.Refused r) _ next after one other = absurd other
  one_grow _ other_answer next after one other = absurd one
