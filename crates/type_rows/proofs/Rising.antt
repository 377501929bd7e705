-- Ordinals that rise from a number on.
use Rattle.std.proofs.Common.{◌≡◌, ℕ, ◌+◌, ◌<◌, ◌≤◌, List, [], ◌∷◌, true, Option, None, sym, subst, arith}
use Rattle.std.specs.Prelude.{IsSome, is_some}
use Rattle.std.specs.List.{AllByRecursion}
use Rattle.std.specs.List.Sorted.{IsStrictlySortedBy}
use Rattle.std.specs.Ordering.{nat_cmp}
use Rattle.std.specs.declared.cmp.Ordering.TheVariants.{Less}
use Rattle.std.proofs.lemmas.Bool.{false≢true}
use Rattle.std.proofs.lemmas.Cmp.{ranked}

-- Numbers that rise, none below the first one.
abbrev pub RiseFrom : ℕ → List ℕ → Type 0
RiseFrom low [] = Unit {0}
RiseFrom low (o ∷ os) = (low ≤ o) × RiseFrom (o + 1) os

from_all : (k low : ℕ) (os : List ℕ) → low ≤ k + 1 → AllByRecursion (λ m. nat_cmp k m ≡ Less) os → IsStrictlySortedBy nat_cmp os → RiseFrom low os
unfolding IsStrictlySortedBy
from_all k low [] le all s = tt
from_all k low (o ∷ os) le all s = (let above : k < o = ranked k o Less (sym all.0) in omega arith, from_all o (o + 1) os (omega arith) s.0 s.1)

pub from_sorted : (os : List ℕ) → IsStrictlySortedBy nat_cmp os → RiseFrom 0 os
unfolding IsStrictlySortedBy
from_sorted [] s = tt
from_sorted (o ∷ os) s = (omega arith, from_all o (o + 1) os (omega arith) s.0 s.1)

pub none_is_not : {X : Type 0} (found : Option X) → found ≡ None → IsSome found → ⊥
none_is_not found none some = false≢true (subst (λ f. is_some f ≡ true) none some)
