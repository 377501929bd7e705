-- Entries of a map of rows, by rising ordinal: from which ordinal on they stand, and what a look-up finds among them.
use Rattle.std.proofs.Common.{◌≡◌, ◌<◌, ◌≤◌, ◌+◌, ℕ, List, [], ◌∷◌, true, Some, None, refl, sym, ap, ◌∙◌, arith}
use Rattle.std.specs.Prelude.{cond}
use Rattle.std.specs.Ordering.{nat_cmp, is_eq, is_lt}
use Rattle.std.specs.declared.cmp.Ordering.{Ordering}
use Rattle.std.specs.declared.cmp.Ordering.TheVariants.{Less, Equal, Greater}
use Rattle.std.specs.Cmp.{ranked, nat_cmp_is}
use Rattle.std.specs.FinMap.{find}
use Rattle.std.specs.FinMap.Entries.{below_all}
use Rattle.std.proofs.lemmas.Bool.{and_parts}
use Rattle.row_model.specs.declared.row.Row.{Row}

abbrev pub Entry : Type 0
Entry = ℕ × Row

-- no entry is below the ordinal
abbrev pub AreFrom : ℕ → List Entry → Type 0
AreFrom ordinal [] = Unit {0}
AreFrom ordinal (e ∷ es) = (ordinal ≤ e.0) × AreFrom ordinal es

pub from_lower : (low high : ℕ) (es : List Entry) → low ≤ high → AreFrom high es → AreFrom low es
from_lower low high [] le from = tt
from_lower low high (e ∷ es) le from = (omega arith, from_lower low high es le from.1)

pub from_none : (es : List Entry) → AreFrom 0 es
from_none [] = tt
from_none (e ∷ es) = (omega arith, from_none es)

less_is : (o : Ordering) → is_lt o ≡ true → o ≡ Less
less_is Less e = refl
less_is Equal e = absurd cc
less_is Greater e = absurd cc

lower : (x y : ℕ) (o : Ordering) → o ≡ nat_cmp x y → o ≡ Less → x < y
lower x y Less is e = ranked x y Less is
lower x y Equal is e = absurd cc
lower x y Greater is e = absurd cc

pub from_below : (x : ℕ) (es : List Entry) → below_all nat_cmp x es ≡ true → AreFrom (x + 1) es
from_below x [] all = tt
from_below x (e ∷ es) all =
    let parts = and_parts _ _ all in
    let first : x < e.0 = lower x e.0 (nat_cmp x e.0) refl (less_is (nat_cmp x e.0) parts.0) in
    (omega arith, from_below x es parts.1)

-- a search skips another key, and finds an equal one
pub skips : (q : ℕ) (e : Entry) (es : List Entry) → (q ≡ e.0 → ⊥) → find nat_cmp q (e ∷ es) ≡ find nat_cmp q es
skips q e es other = skipped (nat_cmp q e.0) refl
  where
    skipped : (o : Ordering) → o ≡ nat_cmp q e.0 → cond (is_eq (nat_cmp q e.0)) (Some e.1) (find nat_cmp q es) ≡ find nat_cmp q es
    skipped Less is = ap (λ o. cond (is_eq o) (Some e.1) (find nat_cmp q es)) (sym is)
    skipped Equal is = absurd (other (ranked q e.0 Equal is))
    skipped Greater is = ap (λ o. cond (is_eq o) (Some e.1) (find nat_cmp q es)) (sym is)

pub finds : (e : Entry) (es : List Entry) → find nat_cmp e.0 (e ∷ es) ≡ Some e.1
finds e es = ap (λ o. cond (is_eq o) (Some e.1) (find nat_cmp e.0 es)) (sym (nat_cmp_is e.0 e.0 Equal refl))

-- nothing is found below the first key
pub finds_none : (q low : ℕ) (es : List Entry) → q < low → AreFrom low es → find nat_cmp q es ≡ None
finds_none q low [] below from = refl
finds_none q low (e ∷ es) below from = skips q e es (λ same. omega (arith, same, below, from.0)) ∙ finds_none q low es below from.1
