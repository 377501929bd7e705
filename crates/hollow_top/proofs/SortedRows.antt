-- Walking a map of rows by ordinal: the entries below an ordinal, and those from it on.
use Rattle.std.proofs.Common.{◌≡◌, ◌<◌, ◌≤◌, ◌+◌, inl, inr, ℕ, List, [], ◌∷◌, ◌++◌, true, Option, Some, None, refl, sym, ◌∙◌, subst, arith, append_assoc, append-nil}
use Rattle.std.specs.Prelude.{IsSome}
use Rattle.std.specs.List.{AllByRecursion}
use Rattle.std.specs.Ordering.{nat_cmp}
use Rattle.std.specs.FinMap.{find, is_sorted}
use Rattle.std.proofs.lemmas.Bool.{and_parts, cases_order}
use Rattle.row_model.specs.declared.row.Row.{Row}
use Rattle.row_model.proofs.RowEntries.{Entry, AreFrom, from_lower, from_none, from_below, skips, finds, finds_none}

-- The entries that are walked, and those that are left: none of these is below the ordinal, and each row from it on is
-- found among them.
pub record AreWalked (all : List Entry) (ordinal : ℕ) (walked left : List Entry) : Type 0 where
  pub whole : all ≡ walked ++ left
  pub from : AreFrom ordinal left
  pub sorted : is_sorted nat_cmp left ≡ true
  pub found : (q : ℕ) → ordinal ≤ q → find nat_cmp q all ≡ find nat_cmp q left

pub walk_starts : (all : List Entry) → is_sorted nat_cmp all ≡ true → AreWalked all 0 [] all
walk_starts all sorted = record { whole = refl; from = from_none all; sorted = sorted; found = λ q le. refl }

-- where no row is under the ordinal, none is left there
pub walk_passes : (all : List Entry) (ordinal : ℕ) (walked left : List Entry) → AreWalked all ordinal walked left → find nat_cmp ordinal all ≡ None → AreWalked all (ordinal + 1) walked left
walk_passes all ordinal walked [] w none = record { whole = w.whole; from = tt; sorted = w.sorted; found = λ q le. w.found q (omega arith) }
walk_passes all ordinal walked (e ∷ es) w none =
    let sorted = and_parts _ _ w.sorted in
    let other : ordinal ≡ e.0 → ⊥ = λ same.
    let here : find nat_cmp ordinal (e ∷ es) ≡ Some e.1 = subst (λ q. find nat_cmp q (e ∷ es) ≡ Some e.1) (sym same) (finds e es) in
    let gone = sym (w.found ordinal (omega arith)) ∙ none in
    absurd cc in
    let above : ordinal + 1 ≤ e.0 = above_it ordinal e.0 w.from.0 other in
    record {
      whole = w.whole;
      from = (above, from_lower (ordinal + 1) (e.0 + 1) es (omega arith) (from_below e.0 es sorted.0));
      sorted = w.sorted;
      found = λ q le. w.found q (omega arith);
    }
  where
    above_it : (a b : ℕ) → a ≤ b → (a ≡ b → ⊥) → a + 1 ≤ b
    above_it a b le other = omega arith

-- the row under the ordinal is the first that is left
pub walk_takes : (all : List Entry) (ordinal : ℕ) (row : Row) (walked left : List Entry) → AreWalked all ordinal walked left → find nat_cmp ordinal all ≡ Some row →
    (rest : List Entry) × (left ≡ (ordinal, row) ∷ rest) × AreWalked all (ordinal + 1) (walked ++ (ordinal, row) ∷ []) rest
walk_takes all ordinal row walked [] w some = let gone = sym (w.found ordinal (omega arith)) ∙ some in absurd cc
walk_takes all ordinal row walked (e ∷ es) w some =
    let sorted = and_parts _ _ w.sorted in
    let behind = from_below e.0 es sorted.0 in
    elim (cases_order ordinal e.0) [
      | inr (inl below) ↦ (let gone = sym (w.found ordinal (omega arith)) ∙ some in
          let none = finds_none ordinal (ordinal + 1) (e ∷ es) (omega arith) (omega arith, from_lower (ordinal + 1) (e.0 + 1) es (omega arith) behind) in
          absurd cc)
      | inl same ↦ (
          let here : find nat_cmp ordinal (e ∷ es) ≡ Some e.1 = subst (λ q. find nat_cmp q (e ∷ es) ≡ Some e.1) (sym same) (finds e es) in
          let gone = sym (w.found ordinal (omega arith)) ∙ some in
          let row_is : e.1 ≡ row = cc in
          let e_is : e ≡ (ordinal, row) = λ i. (sym same i, row_is i) in (
            es,
            (λ i. e_is i ∷ es),
            record {
              whole = w.whole ∙ (λ i. walked ++ e_is i ∷ es) ∙ sym (append_assoc walked ((ordinal, row) ∷ []) es);
              from = from_lower (ordinal + 1) (e.0 + 1) es (omega arith) behind;
              sorted = sorted.1;
              found = λ q le. w.found q (omega arith) ∙ skips q e es (λ equal. omega (arith, equal, same, le));
            },
          ))
      | inr (inr above) ↦ absurd (omega (arith, w.from.0, above))
    ]

-- from past every row on none is left
pub walk_ends : (all : List Entry) (ordinal : ℕ) (walked left : List Entry) → AreWalked all ordinal walked left → ((q : ℕ) → IsSome (find nat_cmp q all) → q < ordinal) → all ≡ walked
walk_ends all ordinal walked [] w past = w.whole ∙ append-nil walked
walk_ends all ordinal walked (e ∷ es) w past =
    let found = w.found e.0 w.from.0 ∙ finds e es in
    absurd (omega (arith, w.from.0, past e.0 (subst (λ (o : Option Row). IsSome o) (sym found) refl)))

-- what holds of each row that is found holds of each entry
pub each_found : (P : Entry → Type 0) (es : List Entry) → is_sorted nat_cmp es ≡ true → ((q : ℕ) (row : Row) → find nat_cmp q es ≡ Some row → P (q, row)) → AllByRecursion P es
each_found P [] sorted each = tt
each_found P (e ∷ es) sorted each =
    let parts = and_parts _ _ sorted in (
      each e.0 e.1 (finds e es),
      each_found P es parts.1 (λ q row found. each q row (skips q e es (λ same.
          let none = finds_none q (e.0 + 1) es (omega (arith, same)) (from_below e.0 es parts.0) in
          absurd cc) ∙ found)),
    )
