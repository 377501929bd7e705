-- The rows of two states, and the first that differ.
use Rattle.std.proofs.Common.{◌≡◌, ◌≢◌, ◌<◌, ◌+◌, inl, inr, ℕ, length, Option, Some, None, refl, sym, ap, ◌∙◌, arith, below_more}
use Rattle.std.specs.Prelude.{slice_get, IsSome, option_and_then}
use Rattle.std.specs.Cmp.{nat_cmp_total}
use Rattle.std.specs.FinMap.{get, same_map, nat_cmp-IsAntisymmetric}
use Rattle.std.proofs.lemmas.Bool.{cases_lt}
use Rattle.std.proofs.lemmas.Option.{slice_get_cases, slice_get_past}
use Rattle.row_model.specs.declared.row.Row.{Row}
use Rattle.row_model.specs.Table.{IsLive, RowMap, Table, row_at}
use Rattle.chain_check.specs.Compare.{FirstOtherOrdinal}
use Rattle.chain_check.proofs.FirstPlaces.{same_lists}

-- no row is live
dead_none : (o : Option Row) → (IsSome o → ⊥) → o ≡ None
dead_none None dead = refl
dead_none (Some row) dead = absurd (dead refl)

-- past all live rows both have none
pub same_past : (walked fresh : Table) (t bound : ℕ) → ((o : ℕ) → IsLive walked t o → o < bound) → ((o : ℕ) → IsLive fresh t o → o < bound)
    → ((o : ℕ) → o < bound → row_at walked t o ≡ row_at fresh t o) → FirstOtherOrdinal walked fresh t None
same_past walked fresh t bound live live' before o = elim (cases_lt o bound) [
  | inl below ↦ before o below
  | inr past ↦
      dead_none (row_at walked t o) (λ is. let below = live o is in absurd (omega (arith, below, past)))
      ∙ sym (dead_none (row_at fresh t o) (λ is. let below = live' o is in absurd (omega (arith, below, past))))
]

-- the first that differ in a type
pub first_ordinal : (walked fresh : Table) (t o : ℕ) → (row_at walked t o ≢ row_at fresh t o) → ((p : ℕ) → p < o → row_at walked t p ≡ row_at fresh t p) → FirstOtherOrdinal walked fresh t (Some o)
first_ordinal walked fresh t o differ before = record { holds = differ; least = λ p below other. other (before p below) }

-- one type more has the same rows
pub same_more_types : (walked fresh : Table) (t : ℕ) → ((u p : ℕ) → u < t → row_at walked u p ≡ row_at fresh u p) → FirstOtherOrdinal walked fresh t None
    → (u p : ℕ) → u < t + 1 → row_at walked u p ≡ row_at fresh u p
same_more_types walked fresh t before here u p below = below_more (λ v. (q : ℕ) → row_at walked v q ≡ row_at fresh v q) t (λ v lt q. before v q lt) here u below p

none_inside : (table : Table) (t : ℕ) → t < length table → slice_get table t ≡ None → ⊥
none_inside table t inside none = elim (slice_get_cases table t).1 [
  | inl found ↦ let is : None ≡ Some found.0 = sym none ∙ found.2 in absurd cc
  | inr past ↦ absurd (omega (arith, past.0, inside))
]

-- a row of a type that the table has
of_type : (table : Table) (t : ℕ) (rows : RowMap) (o : ℕ) → slice_get table t ≡ Some rows → row_at table t o ≡ get rows o
of_type table t rows o is = ap (option_and_then (λ (m : RowMap). get m o)) is

-- tables of as many types with the same rows
pub same_tables : (walked fresh : Table) → length walked ≡ length fresh → ((t o : ℕ) → t < length fresh → row_at walked t o ≡ row_at fresh t o) → walked ≡ fresh
same_tables walked fresh long each = same_lists walked fresh (λ t. elim (cases_lt t (length fresh)) [
  | inl inside ↦ of_places t inside (slice_get walked t) (slice_get fresh t) refl refl
  | inr past ↦ slice_get_past walked t (omega (arith, long, past)) ∙ sym (slice_get_past fresh t past)
])
  where
    of_places : (t : ℕ) → t < length fresh → (a b : Option RowMap) → slice_get walked t ≡ a → slice_get fresh t ≡ b → a ≡ b
    of_places t inside None None is is' = refl
    of_places t inside None (Some n) is is' = absurd (none_inside walked t (omega (arith, long, inside)) is)
    of_places t inside (Some m) None is is' = absurd (none_inside fresh t inside is')
    of_places t inside (Some m) (Some n) is is' =
        ap Some (same_map nat_cmp_total nat_cmp-IsAntisymmetric m n (λ o. sym (of_type walked t m o is) ∙ each t o inside ∙ of_type fresh t n o is'))
