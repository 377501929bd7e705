-- The spots of the steps of a history, as the oldest one goes.
use Rattle.std.proofs.Common.{◌≡◌, ◌<◌, ◌≤◌, ◌+◌, inl, inr, ℕ, zero, suc, List, [], ◌∷◌, ◌++◌, length, Bool, true, false, ◌&&◌, Option, Some, refl, sym, ap, ◌∙◌, subst, arith, length-append}
use Rattle.std.specs.Prelude.{slice_get}
use Rattle.std.specs.BTreeSet.{BTreeSet}
use Rattle.std.proofs.lemmas.Bool.{cases_Bool, cases_eq, cases_lt, eq-eqb, ne_eqb}
use Rattle.std.proofs.lemmas.Option.{slice_get_past}
use Rattle.row_model.specs.Before.{PastPart}
use Rattle.hol_history.specs.declared.spots.Spot.{Spot}
use Rattle.hol_history.specs.History.{PastStep}
use Rattle.hol_history.specs.Spots.{Sets, has}
use Rattle.hol_history.specs.Steps.{AreSpots, step_names, step_touches, touches, touches_at}

-- a spot under another number is of another step
apart : (past : List PastPart) (number t o n : ℕ) → (n ≡ number → ⊥) → step_names past number t o n ≡ false
apart past number t o n other = ap (λ (b : Bool). b && touches past t o) (ne_eqb n number other)

-- a spot under the number of a step is one of it where the step touched the row
level : (past : List PastPart) (number t o : ℕ) (b : Bool) → touches past t o ≡ b → step_names past number t o number ≡ b
level past number t o b is = ap (λ (c : Bool). c && touches past t o) (eq-eqb number number refl) ∙ only (touches past t o) ∙ is
  where
    only : (c : Bool) → (true && c) ≡ c
    only true = refl
    only false = refl

front_at : (steps : List PastStep) (last : PastStep) (place : ℕ) → place < length steps → slice_get (steps ++ last ∷ []) place ≡ slice_get steps place
front_at [] last place within = absurd (omega arith)
front_at (s ∷ steps) last zero within = refl
front_at (s ∷ steps) last (suc place) within = front_at steps last place (omega arith)

last_at : (steps : List PastStep) (last : PastStep) → slice_get (steps ++ last ∷ []) (length steps) ≡ Some last
last_at [] last = refl
last_at (s ∷ steps) last = last_at steps last

-- the oldest step is taken out
pub spots_dropped : (old new : BTreeSet Spot) (next number : ℕ) (steps front : List PastStep) (last : PastStep) → AreSpots old next steps → steps ≡ front ++ last ∷ [] → number + length steps ≡ next
    → Sets false (step_names last.past number) old new → AreSpots new next front
spots_dropped old new next number steps front last are is counted set = record { within = let le = are.within in omega (arith, long); told = at; fresh = beyond }
  where
    long : length steps ≡ length front + 1
    long = ap length is ∙ length-append front (last ∷ [])

    off : (t o place : ℕ) → length front ≤ place → touches_at front place t o ≡ false
    off t o place le = ap (λ (found : Option PastStep). step_touches found t o) (slice_get_past front place le)

    at_last : (t o : ℕ) → touches_at steps (length front) t o ≡ touches last.past t o
    at_last t o = ap (λ (ss : List PastStep). touches_at ss (length front) t o) is ∙ ap (λ (found : Option PastStep). step_touches found t o) (last_at front last)

    gone : (t o n : ℕ) → n + length front + 1 ≡ next → has new t o n ≡ false
    gone t o n level_with = elim (cases_Bool (step_names last.past number t o n)) [
      | inl named ↦ set.are t o n named
      | inr other ↦
          let same : n ≡ number = omega (arith, long) in
          set.others t o n other ∙ are.told t o n (length front) level_with ∙ at_last t o ∙ untouched t o (subst (λ (k : ℕ). step_names last.past number t o k ≡ false) same other)
    ]
      where
        untouched : (t o : ℕ) → step_names last.past number t o number ≡ false → touches last.past t o ≡ false
        untouched t o none = sym (level last.past number t o (touches last.past t o) refl) ∙ none

    at : (t o n place : ℕ) → n + place + 1 ≡ next → has new t o n ≡ touches_at front place t o
    at t o n place sum = elim (cases_lt place (length front)) [
      | inl before ↦
          set.others t o n (apart last.past number t o n (λ same. omega (arith, long)))
          ∙ are.told t o n place sum
          ∙ ap (λ (ss : List PastStep). touches_at ss place t o) is
          ∙ ap (λ (found : Option PastStep). step_touches found t o) (front_at front last place before)
      | inr behind ↦ elim (cases_eq place (length front)) [
        | inl same ↦ gone t o n (omega arith) ∙ sym (off t o place behind)
        | inr other ↦
            set.others t o n (apart last.past number t o n (λ same. omega (arith, long)))
            ∙ are.told t o n place sum
            ∙ ap (λ (found : Option PastStep). step_touches found t o) (slice_get_past steps place (omega (arith, long)))
            ∙ sym (off t o place behind)
      ]
    ]

    beyond : (t o n : ℕ) → next ≤ n → has new t o n ≡ false
    beyond t o n le = set.others t o n (apart last.past number t o n (λ same. omega (arith, long))) ∙ are.fresh t o n le
