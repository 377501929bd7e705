-- The steps that lead to one place stand between two places of a partition.
use Rattle.std.proofs.Common.{◌≡◌, ℕ, ◌+◌, ◌-◌, ◌<◌, ◌≤◌, List, get_or, take, drop, length, true, false, ltb, leb, sym, ◌∙◌, ap, subst, arith, inl, inr}
use Rattle.std.specs.List.{Contains}
use Rattle.std.specs.List.Sorted.{IsPartitionPoint}
use Rattle.std.proofs.lemmas.Bool.{cases_lt, ltb-true, ltb-false, leb-true, leb-false}
use Rattle.std.proofs.lemmas.List.{get_or-take, get_or-drop, length-drop, length-take-le}
use Rattle.std.proofs.lemmas.List.Elements.{Contains-get_or}
use Rattle.hol_io.specs.declared.name.BlobName.TheVariants.{Announced}
use Rattle.hol_plan.specs.declared.steps.Step.{Step}
use Rattle.hol_plan.specs.Ways.{IsGroup}

-- Any step.
any : Step
any = record { begin = 0; end = 0; name = Announced }

module _ (steps : List Step) (place first behind : ℕ)
    (lower : IsPartitionPoint (λ (s : Step). ltb s.end place ≡ true) (λ (s : Step). ltb s.end place ≡ false) steps first)
    (upper : IsPartitionPoint (λ (s : Step). leb s.end place ≡ true) (λ (s : Step). leb s.end place ≡ false) steps behind)
    (first_in : first ≤ length steps) (behind_in : behind ≤ length steps) where
  pub in_order : first ≤ behind
  in_order = elim (cases_lt behind first) [
    | inr up ↦ up
    | inl down ↦
        let one : (get_or steps behind any).end < place = ltb-true (get_or steps behind any).end place (lower.0 behind any (omega arith) down) in
        let other : place < (get_or steps behind any).end = leb-false (get_or steps behind any).end place (upper.1 behind any (omega arith) (omega arith)) in
        absurd (omega arith)
  ]

  long : length (take (behind - first) (drop first steps)) ≡ behind - first
  long = length-take-le (behind - first) (drop first steps) (omega (arith, length-drop first steps, behind_in))

  read : (k : ℕ) (d : Step) → k < behind - first → get_or (take (behind - first) (drop first steps)) k d ≡ get_or steps (first + k) d
  read k d within = get_or-take (behind - first) (drop first steps) k d within ∙ get_or-drop first steps k d

  pub group_is : IsGroup steps place (take (behind - first) (drop first steps))
  group_is = record {
    each = λ k d within.
        let inside : k < behind - first = subst (λ n. k < n) long within in
        let above : place ≤ (get_or steps (first + k) d).end = ltb-false (get_or steps (first + k) d).end place (lower.1 (first + k) d (omega arith) (omega (arith, behind_in))) in
        let below : (get_or steps (first + k) d).end ≤ place = leb-true (get_or steps (first + k) d).end place (upper.0 (first + k) d (omega arith) (omega arith)) in
        subst (λ step. Contains steps step × (step.end ≡ place)) (sym (read k d inside))
        (Contains-get_or steps (first + k) d (omega (arith, behind_in)), omega arith);
    whole = λ step listed leads.
        let at : get_or steps listed.0 step ≡ step = listed.2 in
        let ends : (get_or steps listed.0 step).end ≡ place = ap (λ (s : Step). s.end) at ∙ leads in
        let from : first ≤ listed.0 = elim (cases_lt listed.0 first) [
          | inr up ↦ up
          | inl down ↦ let one : (get_or steps listed.0 step).end < place = ltb-true (get_or steps listed.0 step).end place (lower.0 listed.0 step (omega arith) down) in absurd (omega arith)
        ] in
        let to : listed.0 < behind = elim (cases_lt listed.0 behind) [
          | inl down ↦ down
          | inr up ↦ let one : place < (get_or steps listed.0 step).end = leb-false (get_or steps listed.0 step).end place (upper.1 listed.0 step up listed.1) in absurd (omega arith)
        ] in
        let inside : listed.0 - first < behind - first = omega arith in
        let again : first + (listed.0 - first) ≡ listed.0 = omega arith in
        (listed.0 - first, omega (arith, long), read (listed.0 - first) step inside ∙ (ap (λ k. get_or steps k step) again ∙ at));
  }
