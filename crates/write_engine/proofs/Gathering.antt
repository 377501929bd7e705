-- The members of a set, and the entries of a map, by rising key.
use Rattle.std.proofs.Common.{◌≡◌, ℕ, zero, suc, ◌≤◌, take, true, false, cond, List, [], ◌∷◌, ◌++◌, length, Option, Some, None, refl, sym, ap, subst, ◌∙◌, inl, inr, arith}
use Rattle.std.specs.Prelude.{nat_eq, is_some}
use Rattle.std.specs.List.{dedup}
use Rattle.std.specs.List.Retain.{DiffersFromLast, IsFiltered}
use Rattle.std.proofs.lemmas.List.Filters.{dedup_is}
use Rattle.std.proofs.lemmas.List.Kept.{AllPairs-from_increasing, Contains-dedup_nat, Contains-from_dedup}
use Rattle.std.proofs.lemmas.List.Sorted.{Contains-permutation, IsPermutation-sym}
use Rattle.std.specs.List.Sorted.{IsPermutation, IsSorted, IsStrictlySortedBy}
use Rattle.std.specs.Map.{lookup, keys_of}
use Rattle.std.specs.Ordering.{nat_cmp, is_eq}
use Rattle.std.proofs.lemmas.Map.Keys.{below_from_sorted, IsStrictlyIncreasing-dedup}
use Rattle.row_model.specs.Row.{Rises}
use Rattle.write_engine.specs.Cycle.{IsSetOf, IsMapOf}
use Rattle.std.proofs.lemmas.Bool.{cases_eq, cond-true, cond-false}
use Rattle.write_engine.proofs.Members.{same_test, apart_test}

rises : (keys : List ℕ) → IsStrictlySortedBy nat_cmp keys → Rises keys
rises keys sorted = λ i j d before inside. below_from_sorted keys i j d sorted before inside

tie : (q k : ℕ) → is_eq (nat_cmp q k) ≡ nat_eq q k
tie q k = grind arith

lookup_tie : (q : ℕ) (es : List (ℕ × ℕ)) → lookup (λ k. is_eq (nat_cmp q k)) es ≡ lookup (nat_eq q) es
lookup_tie q [] = refl
lookup_tie q (e ∷ es) = ap (λ b. cond b (Some e.1) (lookup (λ k. is_eq (nat_cmp q k)) es)) (tie q e.0) ∙ ap (λ o. cond (nat_eq q e.0) (Some e.1) o) (lookup_tie q es)

-- what is left when elements are sorted and each is kept once
pub is_set : (elements copied sorted members : List ℕ) → copied ≡ elements → IsPermutation copied sorted → IsSorted nat_cmp sorted → IsFiltered (DiffersFromLast nat_eq) [] sorted members → IsSetOf elements members
is_set elements copied sorted members same moved is_sorted filtered =
    subst (λ (es : List ℕ). IsSetOf es members) same (subst (IsSetOf copied) (sym (dedup_is nat_eq sorted members filtered)) record {
      rising = AllPairs-from_increasing (dedup nat_eq sorted) (IsStrictlyIncreasing-dedup sorted is_sorted);
      same = λ q. (
        (λ among. Contains-permutation sorted copied q (IsPermutation-sym copied sorted moved) (Contains-from_dedup nat_eq sorted q among)),
        (λ among. Contains-dedup_nat sorted q (Contains-permutation copied sorted q moved among)),
      );
    })

pub is_map : (pairs entries members : List (ℕ × ℕ)) → members ≡ entries → IsStrictlySortedBy nat_cmp (keys_of entries) → ((q : ℕ) → lookup (λ k. is_eq (nat_cmp q k)) entries ≡ lookup (nat_eq q) pairs) → IsMapOf pairs members
is_map pairs entries members is sorted same = subst (IsMapOf pairs) (sym is) record {
  rising = rises (keys_of entries) sorted;
  same = λ q. sym (lookup_tie q entries) ∙ same q;
}

pub take_whole : {A : Type 0} (xs : List A) (k : ℕ) → length xs ≤ k → take k xs ≡ xs
take_whole [] zero past = refl
take_whole [] (suc k) past = refl
take_whole (x ∷ xs) zero past = absurd (omega arith)
take_whole (x ∷ xs) (suc k) past = ap (λ rest. x ∷ rest) (take_whole xs k (omega arith))

-- ---- one more pair

first_of : Option ℕ → Option ℕ → Option ℕ
first_of None other = other
first_of (Some v) other = Some v

lookup_push : (q : ℕ) (es : List (ℕ × ℕ)) (e : ℕ × ℕ) → lookup (nat_eq q) (es ++ e ∷ []) ≡ first_of (lookup (nat_eq q) es) (cond (nat_eq q e.0) (Some e.1) None)
unfolding first_of
lookup_push q [] e = refl
lookup_push q (x ∷ es) e =
    elim (nat_eq q x.0) as (λ b. cond b (Some x.1) (lookup (nat_eq q) (es ++ e ∷ [])) ≡ first_of (cond b (Some x.1) (lookup (nat_eq q) es)) (cond (nat_eq q e.0) (Some e.1) None)) [
      | true ↦ refl
      | false ↦ lookup_push q es e
    ]

some_stays : (o other : Option ℕ) → is_some o ≡ true → first_of o other ≡ o
unfolding first_of
some_stays None other live = absurd cc
some_stays (Some v) other live = refl

none_gives : (o other : Option ℕ) → other ≡ None → first_of o other ≡ o
unfolding first_of
none_gives None other none = none
none_gives (Some v) other none = refl

none_takes : (o other : Option ℕ) → o ≡ None → first_of o other ≡ other
unfolding first_of
none_takes o other none = ap (λ (x : Option ℕ). first_of x other) none

-- a key that stands already changes nothing
pub pair_again : (old : ℕ → Option ℕ) (es : List (ℕ × ℕ)) (e : ℕ × ℕ) → ((q : ℕ) → old q ≡ lookup (nat_eq q) es) → is_some (old e.0) ≡ true → (q : ℕ) → old q ≡ lookup (nat_eq q) (es ++ e ∷ [])
pair_again old es e so_far live q =
    so_far q
    ∙ sym (lookup_push q es e
    ∙ elim (cases_eq q e.0) [
      | inl same ↦ some_stays (lookup (nat_eq q) es) _ (ap is_some (sym (so_far q)) ∙ ap (λ n. is_some (old n)) same ∙ live)
      | inr apart ↦ none_gives (lookup (nat_eq q) es) _ (cond-false (nat_eq q e.0) (Some e.1) None (apart_test q e.0 apart))
    ])

-- a new key gets its value
pub pair_more : (old new : ℕ → Option ℕ) (es : List (ℕ × ℕ)) (e : ℕ × ℕ) → ((q : ℕ) → old q ≡ lookup (nat_eq q) es) → is_some (old e.0) ≡ false → ((q : ℕ) → new q ≡ cond (is_eq (nat_cmp e.0 q)) (Some e.1) (old q)) → (q : ℕ) → new q ≡ lookup (nat_eq q) (es ++ e ∷ [])
pair_more old new es e so_far none update q =
    update q ∙ ap (λ b. cond b (Some e.1) (old q)) (tie e.0 q)
    ∙ elim (cases_eq q e.0) [
      | inl same ↦ cond-true (nat_eq e.0 q) (Some e.1) (old q) (same_test e.0 q (sym same))
          ∙ sym (lookup_push q es e ∙ none_takes (lookup (nat_eq q) es) _ (sym (so_far q) ∙ ap old same ∙ no_value (old e.0) none) ∙ cond-true (nat_eq q e.0) (Some e.1) None (same_test q e.0 same))
      | inr apart ↦ cond-false (nat_eq e.0 q) (Some e.1) (old q) (apart_test e.0 q (λ same. apart (sym same)))
          ∙ so_far q
          ∙ sym (lookup_push q es e ∙ none_gives (lookup (nat_eq q) es) _ (cond-false (nat_eq q e.0) (Some e.1) None (apart_test q e.0 apart)))
    ]
  where
    no_value : (o : Option ℕ) → is_some o ≡ false → o ≡ None
    no_value None none = refl
    no_value (Some v) none = absurd cc
