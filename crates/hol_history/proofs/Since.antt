-- A row of a version left in a step since, where it is kept, or no step touched it.
use Rattle.std.proofs.Common.{◌≡◌, ◌<◌, ◌≤◌, ◌⊎◌, inl, inr, ℕ, zero, suc, List, [], ◌∷◌, length, Bool, true, false, Option, Some, None, refl, sym, ap, ◌∙◌, subst, arith}
use Rattle.std.specs.Prelude.{option_and_then, slice_get, zip}
use Rattle.std.specs.FinMap.{find}
use Rattle.std.specs.Ordering.{nat_cmp}
use Rattle.std.proofs.lemmas.Bool.{cases_lt, cases_order, false≢true}
use Rattle.schema_model.specs.declared.schema.Schema.{Schema}
use Rattle.row_model.specs.declared.row.Row.{Row}
use Rattle.row_model.specs.Before.{PastPart, left_rows}
use Rattle.row_model.specs.Table.{Table, row_at}
use Rattle.row_model.proofs.RowEntries.{finds, skips}
use Rattle.hol_history.specs.History.{PastStep, StandsOn}
use Rattle.hol_history.specs.Kept.{IsFirstTouch}
use Rattle.hol_history.specs.Steps.{is_touched, part_at, step_touches, touches, touches_at, touches_row}
use Rattle.hol_history.specs.Then.{table_at}
use Rattle.hol_history.proofs.OldTables.{absent_then, left_then}

-- ---- the first step that touched a row

in_step : (found : Option PastStep) (t o : ℕ) → step_touches found t o ≡ true → (step : PastStep) × (found ≡ Some step) × (touches step.past t o ≡ true)
in_step None t o is = absurd (false≢true is)
in_step (Some step) t o is = (step, refl, is)

in_part : (found : Option PastPart) (o : ℕ) → touches_row found o ≡ true → (part : PastPart) × (found ≡ Some part) × (is_touched part o ≡ true)
in_part None o is = absurd (false≢true is)
in_part (Some part) o is = (part, refl, is)

module _ (steps : List PastStep) (t o : ℕ) where
  -- no step from a place on touched the row
  abbrev pub Untouched : ℕ → Type 0
  Untouched from = (q : ℕ) → q ≤ from → touches_at steps q t o ≡ false

  -- one did, and none older than it
  abbrev Touched : ℕ → Type 0
  Touched from = (q : ℕ) × (q ≤ from) × (touches_at steps q t o ≡ true) × ((other : ℕ) → q < other → other ≤ from → touches_at steps other t o ≡ false)

  first : (from : ℕ) → Untouched from ⊎ Touched from
  first zero = by (touches_at steps 0 t o) refl
    where
      by : (b : Bool) → touches_at steps 0 t o ≡ b → Untouched 0 ⊎ Touched 0
      by true is = inr (0, omega arith, is, λ other after within. absurd (omega (arith, after, within)))
      by false is = inl (λ q within. subst (λ (n : ℕ). touches_at steps n t o ≡ false) (let same : 0 ≡ q = omega (arith, within) in same) is)
  first (suc from) = by (touches_at steps (suc from) t o) refl (first from)
    where
      earlier : touches_at steps (suc from) t o ≡ false → (q : ℕ) → q ≤ suc from → (q ≤ from → touches_at steps q t o ≡ false) → touches_at steps q t o ≡ false
      earlier is q within below = elim (cases_lt q (suc from)) [
        | inl low ↦ below (omega (arith, low))
        | inr high ↦ subst (λ (n : ℕ). touches_at steps n t o ≡ false) (let same : suc from ≡ q = omega (arith, within, high) in same) is
      ]

      by : (b : Bool) → touches_at steps (suc from) t o ≡ b → Untouched from ⊎ Touched from → Untouched (suc from) ⊎ Touched (suc from)
      by true is newer = inr (suc from, omega arith, is, λ other after within. absurd (omega (arith, after, within)))
      by false is newer = elim newer [
        | inl none ↦ inl (λ q within. earlier is q within (none q))
        | inr (q, le, touched, older) ↦ inr (q, omega (arith, le), touched, λ other after within. earlier is other within (older other after))
      ]

-- ---- where a row that left stands

place_in : (os : List ℕ) (rs : List Row) (o : ℕ) (r : Row) → find nat_cmp o (zip os rs) ≡ Some r → (k : ℕ) × (slice_get os k ≡ Some o) × (slice_get rs k ≡ Some r)
place_in [] rs o r is = absurd cc
place_in (x ∷ os) [] o r is = absurd cc
place_in (x ∷ os) (w ∷ rs) o r is = elim (cases_order o x) [
  | inl same ↦ (0, ap Some (sym same), sym (finds (x, w) (zip os rs)) ∙ ap (λ q. find nat_cmp q ((x, w) ∷ zip os rs)) (sym same) ∙ is)
  | inr apart ↦
      let behind = skips o (x, w) (zip os rs) (λ same. elim apart [ inl l ↦ omega arith | inr g ↦ omega arith ]) in
      let (k, ordinal, row) = place_in os rs o r (sym behind ∙ is) in
      (suc k, ordinal, row)
]

module _ (schemas : List Schema) (now : Table) (steps : List PastStep) (place t o : ℕ) (inside : place < length steps) (stands : StandsOn schemas now steps) where
  -- the row left in a step since
  abbrev pub LeftSince : Row → Type 0
  LeftSince row = (q k : ℕ) × (part : PastPart) × (q ≤ place) × (part_at steps q t ≡ Some part) × (slice_get part.gone k ≡ Some o) × (slice_get part.rows k ≡ Some row)

  pub untouched_or_left : (row : Row) → row_at (table_at now steps place) t o ≡ Some row → Untouched steps t o place ⊎ LeftSince row
  untouched_or_left row there = elim (first steps t o place) [
    | inl none ↦ inl none
    | inr (q, le, touched, older) ↦
        let (step, step_is, changed) = in_step (slice_get steps q) t o touched in
        let (part, part_is, was) = in_part (slice_get step.past t) o changed in
        inr (by q step part le (record { within = le; step_is = step_is; part_is = part_is; touched = was; older = older }) (find nat_cmp o (left_rows part)) refl)
  ]
    where
      by : (q : ℕ) (step : PastStep) (part : PastPart) → q ≤ place → IsFirstTouch steps place t o q step part → (found : Option Row) → find nat_cmp o (left_rows part) ≡ found → LeftSince row
      by q step part le is None none = let gone = absent_then schemas now steps place t o q step part inside stands is none in absurd cc
      by q step part le is (Some r) found =
          let left = left_then schemas now steps place t o q step part inside stands is r found in
          let same : r ≡ row = cc in
          let (k, ordinal, at) = place_in part.gone part.rows o r found in
          (q, k, part, le, ap (option_and_then (λ (s : PastStep). slice_get s.past t)) is.step_is ∙ is.part_is, ordinal, at ∙ ap Some same)
