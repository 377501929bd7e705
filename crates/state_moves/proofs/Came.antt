-- The ordinals that came in the last step, those that left, and the rows that stayed.
use Rattle.std.proofs.Common.{◌≡◌, ◌<◌, ℕ, List, [], length, get_or, Bool, true, false, inl, inr, Option, Some, None, refl, sym, ◌∙◌, subst, arith}
use Rattle.std.specs.Prelude.{IsSome, Contains, slice_get, ◌↔◌}
use Rattle.std.specs.List.{AllZip}
use Rattle.std.specs.Ordering.{nat_cmp}
use Rattle.std.specs.FinMap.{find, get}
use Rattle.std.proofs.lemmas.Bool.{false≢true}
use Rattle.std.proofs.lemmas.List.{get_or_default}
use Rattle.std.proofs.lemmas.Map.Keys.{sorted_from_strictly_increasing}
use Rattle.std.proofs.lemmas.Option.{slice_get-get_or, slice_get_within}
use Rattle.row_model.specs.declared.row.Row.{Row}
use Rattle.row_model.specs.Table.{RowMap, Table, IsLive, row_at}
use Rattle.row_model.specs.Before.{FitsPast, PastPart, is_new, left_rows, no_part, rows_before, table_before}
use Rattle.state_moves.proofs.Changed.{any_place}
use Rattle.state_moves.proofs.PastRows.{any_at, before_kept, before_new, found, left_live, live_before, live_kept, place_of}
use Rattle.state_moves.proofs.Tables.{before_at, fits_at, none_off, past_length, row_of}

-- ---- one type

-- what is live now has not left
pub not_left : (now : RowMap) (part : PastPart) (q : ℕ) → FitsPast now part → IsSome (get now q) → find nat_cmp q (left_rows part) ≡ None
not_left now part q fits live = of_found (find nat_cmp q (left_rows part)) refl
  where
    of_found : (o : Option Row) → find nat_cmp q (left_rows part) ≡ o → find nat_cmp q (left_rows part) ≡ None
    of_found None is = is
    of_found (Some r) is =
        let (k, inside, at) = place_of part.gone part.rows q r is in
        let free : get now q ≡ None = subst (λ (o : ℕ). get now o ≡ None) at (fits.gone_free k 0 inside) in
        absurd (false≢true (subst IsSome free live))

-- an ordinal left where it was live before and is not live now
pub left_is_gone : (now : RowMap) (part : PastPart) (o : ℕ) → FitsPast now part → Contains part.gone o ↔ (IsSome (get (rows_before now part) o) × ¬ IsSome (get now o))
left_is_gone now part o fits = (goes, comes)
  where
    goes : Contains part.gone o → IsSome (get (rows_before now part) o) × ¬ IsSome (get now o)
    goes (k, inside, at) =
        let here : get_or part.gone k 0 ≡ o = get_or_default part.gone k 0 o inside ∙ at in
        let free : get now o ≡ None = subst (λ q. get now q ≡ None) here (fits.gone_free k 0 inside) in
        let within : k < length part.rows = omega (arith, inside, fits.rows) in
        let there = slice_get-get_or part.rows k (Row.List []) within in (
          left_live now part o (get_or part.rows k (Row.List [])) (found part.gone part.rows o k (get_or part.rows k (Row.List [])) (sorted_from_strictly_increasing part.gone fits.gone_rise) inside here there),
          λ live. false≢true (subst IsSome free live),
        )

    comes : IsSome (get (rows_before now part) o) × ¬ IsSome (get now o) → Contains part.gone o
    comes (live, dead) = elim (live_before now part o live) [
      | inl (r, there) ↦ let (k, inside, at) = place_of part.gone part.rows o r there in (k, inside, get_or_default part.gone k o 0 inside ∙ at)
      | inr (none, old, now_live) ↦ absurd (dead now_live)
    ]

-- an ordinal came where it is live now and was not before
pub came_is_new : (now : RowMap) (part : PastPart) (o : ℕ) → FitsPast now part → Contains part.came o ↔ (IsSome (get now o) × ¬ IsSome (get (rows_before now part) o))
came_is_new now part o fits = (comes, λ new. by_new (is_new part o) refl new.0 new.1)
  where
    comes : Contains part.came o → IsSome (get now o) × ¬ IsSome (get (rows_before now part) o)
    comes (k, inside, at) =
        let here : get_or part.came k 0 ≡ o = get_or_default part.came k 0 o inside ∙ at in
        let live : IsSome (get now o) = subst (λ (q : ℕ). IsSome (get now q)) here (fits.came_live k 0 inside) in
        let free : get (rows_before now part) o ≡ None = before_new now part o (not_left now part o fits live) (any_at part.came o k inside here) in
        (live, λ was. false≢true (subst IsSome free was))

    by_new : (b : Bool) → is_new part o ≡ b → IsSome (get now o) → (IsSome (get (rows_before now part) o) → ⊥) → Contains part.came o
    by_new true is live was_not = let (k, inside, at) = any_place part.came o is in (k, inside, get_or_default part.came k o 0 inside ∙ at)
    by_new false is live was_not = absurd (was_not (subst IsSome (sym (before_kept now part o (not_left now part o fits live) is)) live))

-- an ordinal that stays has one row
pub stays_row : (now : RowMap) (part : PastPart) (o : ℕ) → FitsPast now part → IsSome (get now o) → IsSome (get (rows_before now part) o) → get (rows_before now part) o ≡ get now o
stays_row now part o fits live was = (live_kept now part o (not_left now part o fits live) was).1

-- ---- each type

module _ (table : Table) (past : List PastPart) (fits : AllZip FitsPast table past) where
  -- what is kept of a type
  abbrev pub part_of : ℕ → PastPart
  part_of t = get_or past t no_part

  module _ (t : ℕ) (rows : RowMap) (is : slice_get table t ≡ Some rows) where
    pub part_is : slice_get past t ≡ Some (part_of t)
    part_is = slice_get-get_or past t no_part (omega (arith, slice_get_within table t rows is, past_length table past fits))

    part_fits : FitsPast rows (part_of t)
    part_fits = fits_at table past t rows (part_of t) fits is part_is

    now_row : (o : ℕ) → row_at table t o ≡ get rows o
    now_row o = row_of table t o rows is

    old_row : (o : ℕ) → row_at (table_before table past) t o ≡ get (rows_before rows (part_of t)) o
    old_row o = row_of (table_before table past) t o (rows_before rows (part_of t)) (before_at table past t rows (part_of t) is part_is)

    pub came_at : (o : ℕ) → Contains (part_of t).came o ↔ (IsLive table t o × ¬ IsLive (table_before table past) t o)
    came_at o =
        let both = came_is_new rows (part_of t) o part_fits in (
          λ among. (subst IsSome (sym (now_row o)) (both.0 among).0, λ was. (both.0 among).1 (subst IsSome (old_row o) was)),
          λ new. both.1 (subst IsSome (now_row o) new.0, λ was. new.1 (subst IsSome (sym (old_row o)) was)),
        )

    pub gone_at : (o : ℕ) → Contains (part_of t).gone o ↔ (IsLive (table_before table past) t o × ¬ IsLive table t o)
    gone_at o =
        let both = left_is_gone rows (part_of t) o part_fits in (
          λ among. (subst IsSome (sym (old_row o)) (both.0 among).0, λ live. (both.0 among).1 (subst IsSome (now_row o) live)),
          λ left. both.1 (subst IsSome (old_row o) left.0, λ live. left.1 (subst IsSome (sym (now_row o)) live)),
        )

    pub one_row_of : (o : ℕ) → IsLive (table_before table past) t o → IsLive table t o → row_at (table_before table past) t o ≡ row_at table t o
    one_row_of o was live = old_row o ∙ stays_row rows (part_of t) o part_fits (subst IsSome (now_row o) live) (subst IsSome (old_row o) was) ∙ sym (now_row o)

  pub one_row : (t ordinal : ℕ) → IsLive (table_before table past) t ordinal → IsLive table t ordinal → row_at (table_before table past) t ordinal ≡ row_at table t ordinal
  one_row t o was live = of_type (slice_get table t) refl
    where
      of_type : (found : Option RowMap) → slice_get table t ≡ found → row_at (table_before table past) t o ≡ row_at table t o
      of_type None none = absurd (none_off table t o none live)
      of_type (Some rows) is = one_row_of t rows is o was live
