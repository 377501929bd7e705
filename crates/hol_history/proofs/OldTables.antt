-- The tables before the steps of a history, row by row.
use Rattle.std.proofs.Common.{◌≡◌, ◌<◌, ◌≤◌, ◌-◌, ◌^◌, ◌⊎◌, inl, inr, ℕ, zero, suc, List, [], ◌∷◌, length, get_or, Bool, true, false, cond, Option, Some, None, refl, sym, ap, ◌∙◌, subst, arith, eqb, eq-eqb}
use Rattle.std.specs.Prelude.{IsSome, IsSomeAnd, slice_get}
use Rattle.std.specs.List.{AllZip, find as find_first}
use Rattle.std.specs.Ordering.{nat_cmp}
use Rattle.std.specs.FinMap.{find, get}
use Rattle.std.specs.Option.{option_and_then, option_map}
use Rattle.std.proofs.lemmas.Bool.{false≢true, ne_eqb, or_right}
use Rattle.schema_model.specs.declared.schema.Schema.{Schema}
use Rattle.row_model.specs.declared.row.Row.{Row}
use Rattle.row_model.specs.Before.{FitsPast, HasBefore, PastPart, left_rows, rows_before, table_before}
use Rattle.row_model.specs.Table.{IsLive, IsTableOf, RowMap, Table, row_at}
use Rattle.hol_history.specs.History.{PastStep, StandsOn, table_then, tables_of}
use Rattle.hol_history.specs.Kept.{IsFirstTouch}
use Rattle.hol_history.specs.Spots.{is_among}
use Rattle.hol_history.specs.Steps.{IsPart, IsPlaceOf, is_touched, touches, touches_at, touches_row}
use Rattle.hol_history.specs.Then.{table_at}
use Rattle.hol_history.proofs.RowsBefore.{among_at, before_left, before_new, before_same, live_before}

-- ---- one step

there : {A : Type 0} (xs : List A) (i : ℕ) → i < length xs → (x : A) × (slice_get xs i ≡ Some x)
there [] i within = absurd (omega arith)
there (x ∷ xs) zero within = (x, refl)
there (x ∷ xs) (suc i) within = there xs i (omega arith)

within : {A : Type 0} (xs : List A) (i : ℕ) (x : A) → slice_get xs i ≡ Some x → i < length xs
within [] i x is = absurd cc
within (y ∷ xs) zero x is = omega arith
within (y ∷ xs) (suc i) x is = let rest = within xs i x is in omega arith

row_in : (table : Table) (t o : ℕ) (rows : RowMap) → slice_get table t ≡ Some rows → row_at table t o ≡ get rows o
row_in table t o rows is = ap (option_and_then (λ (rows : RowMap). get rows o)) is

no_rows : (table : Table) (t o : ℕ) → slice_get table t ≡ None → row_at table t o ≡ None
no_rows table t o none = ap (option_and_then (λ (rows : RowMap). get rows o)) none

past_length : (table : Table) (past : List PastPart) → AllZip FitsPast table past → length past ≡ length table
past_length [] [] fits = refl
past_length (rows ∷ table) (part ∷ past) fits = let rest = past_length table past fits.1 in omega arith
past_length [] (part ∷ past) fits = absurd fits
past_length (rows ∷ table) [] fits = absurd fits

before_length : (table : Table) (past : List PastPart) → AllZip FitsPast table past → length (table_before table past) ≡ length past
unfolding table_before
before_length [] [] fits = refl
before_length (rows ∷ table) (part ∷ past) fits = let rest = before_length table past fits.1 in omega arith
before_length [] (part ∷ past) fits = absurd fits
before_length (rows ∷ table) [] fits = absurd fits

fits_at : (table : Table) (past : List PastPart) (t : ℕ) (rows : RowMap) (part : PastPart) → AllZip FitsPast table past → slice_get table t ≡ Some rows → slice_get past t ≡ Some part → FitsPast rows part
fits_at [] past t rows part fits is also = absurd cc
fits_at (r ∷ table) [] t rows part fits is also = absurd cc
fits_at (r ∷ table) (p ∷ past) zero rows part fits is also =
    let same : r ≡ rows = cc in
    let one : p ≡ part = cc in
    subst (λ (x : RowMap). FitsPast x part) same (subst (λ (x : PastPart). FitsPast r x) one fits.0)
fits_at (r ∷ table) (p ∷ past) (suc t) rows part fits is also = fits_at table past t rows part fits.1 is also

before_at : (table : Table) (past : List PastPart) (t : ℕ) (rows : RowMap) (part : PastPart) → slice_get table t ≡ Some rows → slice_get past t ≡ Some part → slice_get (table_before table past) t ≡ Some (rows_before rows part)
unfolding table_before
before_at [] past t rows part is also = absurd cc
before_at (r ∷ table) [] t rows part is also = absurd cc
before_at (r ∷ table) (p ∷ past) zero rows part is also = let same : r ≡ rows = cc in let one : p ≡ part = cc in λ i. Some (rows_before (same i) (one i))
before_at (r ∷ table) (p ∷ past) (suc t) rows part is also = before_at table past t rows part is also

before_off : (table : Table) (past : List PastPart) (t : ℕ) → slice_get table t ≡ None → slice_get (table_before table past) t ≡ None
unfolding table_before
before_off [] past t none = refl
before_off (r ∷ table) [] t none = refl
before_off (r ∷ table) (p ∷ past) zero none = absurd cc
before_off (r ∷ table) (p ∷ past) (suc t) none = before_off table past t none

part_of_fits : (rows : RowMap) (part : PastPart) → FitsPast rows part → IsPart part
part_of_fits rows part fits = record { rising = fits.gone_rise; rows = fits.rows }

-- each type's part of a step is well formed, and there are as many as types
pub parts_are : (schemas : List Schema) (now : Table) (past : List PastPart) → HasBefore schemas now past → (t : ℕ) → t < length past → IsSomeAnd (slice_get past t) IsPart
parts_are schemas now past has t inside =
    let (part, part_is) = there past t inside in
    let (rows, rows_are) = there now t (let long = past_length now past has.fits in omega arith) in
    subst (λ (found : Option PastPart). IsSomeAnd found IsPart) (sym part_is) (part_of_fits rows part (fits_at now past t rows part has.fits rows_are part_is))

pub parts_count : (schemas : List Schema) (now : Table) (past : List PastPart) → HasBefore schemas now past → length past ≡ length schemas
parts_count schemas now past has = let one = before_length now past has.fits in let two = has.rows.types in omega arith

module _ (now : Table) (past : List PastPart) (t o : ℕ) (fits : AllZip FitsPast now past) where
  -- where the step touched no row, that of now
  same_row : touches past t o ≡ false → row_at (table_before now past) t o ≡ row_at now t o
  same_row untouched = by (slice_get now t) refl
    where
      by : (found : Option RowMap) → slice_get now t ≡ found → row_at (table_before now past) t o ≡ row_at now t o
      by None none = no_rows (table_before now past) t o (before_off now past t none) ∙ sym (no_rows now t o none)
      by (Some rows) is =
          let inside : t < length past = (let long = past_length now past fits in let one = within now t rows is in omega arith) in
          let (part, part_is) = there past t inside in
          let off : is_touched part o ≡ false = ap (λ (found : Option PastPart). touches_row found o) (sym part_is) ∙ untouched in
          row_in (table_before now past) t o (rows_before rows part) (before_at now past t rows part is part_is) ∙ before_same rows part o off ∙ sym (row_in now t o rows is)

  -- where the step took a row, that row
  taken_row : (part : PastPart) (row : Row) → slice_get past t ≡ Some part → find nat_cmp o (left_rows part) ≡ Some row → row_at (table_before now past) t o ≡ Some row
  taken_row part row part_is left =
      let (rows, is) = there now t (let long = past_length now past fits in let one = within past t part part_is in omega arith) in
      row_in (table_before now past) t o (rows_before rows part) (before_at now past t rows part is part_is) ∙ before_left rows part o row left

  -- where a row came in the step, none
  no_row : (part : PastPart) → slice_get past t ≡ Some part → is_touched part o ≡ true → find nat_cmp o (left_rows part) ≡ None → row_at (table_before now past) t o ≡ None
  no_row part part_is touched none =
      let (rows, is) = there now t (let long = past_length now past fits in let one = within past t part part_is in omega arith) in
      let whole = part_of_fits rows part (fits_at now past t rows part fits is part_is) in
      row_in (table_before now past) t o (rows_before rows part) (before_at now past t rows part is part_is) ∙ before_new rows part o whole touched none

  -- what was live before is live now, or the step touched it
  live_step : IsLive (table_before now past) t o → IsLive now t o ⊎ ((touches past t o ≡ true) × (o < 2 ^ 32 - 1))
  live_step live = by (slice_get now t) refl
    where
      by : (found : Option RowMap) → slice_get now t ≡ found → IsLive now t o ⊎ ((touches past t o ≡ true) × (o < 2 ^ 32 - 1))
      by None none = absurd (false≢true (subst IsSome (no_rows (table_before now past) t o (before_off now past t none)) live))
      by (Some rows) is =
          let (part, part_is) = there past t (let long = past_length now past fits in let one = within now t rows is in omega arith) in
          elim (live_before rows part o (subst IsSome (row_in (table_before now past) t o (rows_before rows part) (before_at now past t rows part is part_is)) live)) [
            | inl (k, inside, at) ↦
                let small : get_or part.gone k 0 < 2 ^ 32 - 1 = (fits_at now past t rows part fits is part_is).gone_small k 0 inside in
                inr (
                  ap (λ (found : Option PastPart). touches_row found o) part_is ∙ or_right (is_among part.came o) (is_among part.gone o) (among_at part.gone o k inside at),
                  subst (λ (n : ℕ). n < 2 ^ 32 - 1) at small,
                )
            | inr still ↦ inl (subst IsSome (sym (row_in now t o rows is)) still)
          ]

-- ---- the steps of a history

-- where no step touched a row, that of now
pub untouched_row : (schemas : List Schema) (now : Table) (steps : List PastStep) (place t o : ℕ) → place < length steps → StandsOn schemas now steps → ((q : ℕ) → q ≤ place → touches_at steps q t o ≡ false)
    → row_at (table_at now steps place) t o ≡ row_at now t o
unfolding StandsOn tables_of
untouched_row schemas now [] place t o inside stands none = absurd (omega arith)
untouched_row schemas now (step ∷ steps) zero t o inside stands none = same_row now step.past t o stands.0.fits (none 0 (omega arith))
untouched_row schemas now (step ∷ steps) (suc place) t o inside stands none =
    untouched_row schemas (table_before now step.past) steps place t o (omega arith) stands.1 (λ q le. none (suc q) (omega arith)) ∙ same_row now step.past t o stands.0.fits (none 0 (omega arith))

-- the row before the first step that touched it, from an older place on, is the row at that place
first_row : (schemas : List Schema) (now : Table) (steps : List PastStep) (from t o place : ℕ) (step : PastStep) (part : PastPart) (row : Option Row) → from < length steps → StandsOn schemas now steps
    → IsFirstTouch steps from t o place step part → ((behind : Table) → AllZip FitsPast behind step.past → row_at (table_before behind step.past) t o ≡ row) → row_at (table_at now steps from) t o ≡ row
unfolding StandsOn tables_of
first_row schemas now [] from t o place step part row inside stands first is = absurd (omega arith)
first_row schemas now (s ∷ steps) zero t o zero step part row inside stands first is =
    let same : s ≡ step = (let at = first.step_is in cc) in
    ap (λ (x : PastStep). row_at (table_before now x.past) t o) same ∙ is now (subst (λ (x : PastStep). AllZip FitsPast now x.past) same stands.0.fits)
first_row schemas now (s ∷ steps) (suc from) t o zero step part row inside stands first is =
    let same : s ≡ step = (let at = first.step_is in cc) in
    untouched_row schemas (table_before now s.past) steps from t o (omega arith) stands.1 (λ q le. first.older (suc q) (omega arith) (omega arith))
    ∙ ap (λ (x : PastStep). row_at (table_before now x.past) t o) same
    ∙ is now (subst (λ (x : PastStep). AllZip FitsPast now x.past) same stands.0.fits)
first_row schemas now (s ∷ steps) zero t o (suc place) step part row inside stands first is = let le = first.within in absurd (omega arith)
first_row schemas now (s ∷ steps) (suc from) t o (suc place) step part row inside stands first is =
    let le = first.within in
    first_row schemas (table_before now s.past) steps from t o place step part row (omega arith) stands.1 (record {
      within = omega arith;
      step_is = first.step_is;
      part_is = first.part_is;
      touched = first.touched;
      older = λ other behind before. first.older (suc other) (omega arith) (omega arith);
    }) is

module _ (schemas : List Schema) (now : Table) (steps : List PastStep) (from t o place : ℕ) (step : PastStep) (part : PastPart) (inside : from < length steps) (stands : StandsOn schemas now steps)
    (first : IsFirstTouch steps from t o place step part) where
  -- the row that left in the first step that touched it
  pub left_then : (row : Row) → find nat_cmp o (left_rows part) ≡ Some row → row_at (table_at now steps from) t o ≡ Some row
  left_then row left = first_row schemas now steps from t o place step part (Some row) inside stands first (λ behind fits. taken_row behind step.past t o fits part row first.part_is left)

  -- no row, where one came in the first step that touched it
  pub absent_then : find nat_cmp o (left_rows part) ≡ None → row_at (table_at now steps from) t o ≡ None
  absent_then none = first_row schemas now steps from t o place step part None inside stands first (λ behind fits. no_row behind step.past t o fits part first.part_is first.touched none)

-- what was live is live now, or a step touched it
pub live_then : (schemas : List Schema) (now : Table) (steps : List PastStep) (place t o : ℕ) → place < length steps → StandsOn schemas now steps → IsLive (table_at now steps place) t o
    → IsLive now t o ⊎ ((q : ℕ) × (touches_at steps q t o ≡ true) × (o < 2 ^ 32 - 1))
unfolding StandsOn tables_of
live_then schemas now [] place t o inside stands live = absurd (omega arith)
live_then schemas now (step ∷ steps) zero t o inside stands live = elim (live_step now step.past t o stands.0.fits live) [ inl still ↦ inl still | inr (touched, small) ↦ inr (0, touched, small) ]
live_then schemas now (step ∷ steps) (suc place) t o inside stands live = elim (live_then schemas (table_before now step.past) steps place t o (omega arith) stands.1 live) [
  | inl before ↦ elim (live_step now step.past t o stands.0.fits before) [ inl still ↦ inl still | inr (touched, small) ↦ inr (0, touched, small) ]
  | inr (q, touched, small) ↦ inr (suc q, touched, small)
]

-- the table before a step is one of the model
pub table_fits : (schemas : List Schema) (now : Table) (steps : List PastStep) (place : ℕ) → place < length steps → StandsOn schemas now steps → IsTableOf schemas (table_at now steps place)
unfolding StandsOn tables_of
table_fits schemas now [] place inside stands = absurd (omega arith)
table_fits schemas now (step ∷ steps) zero inside stands = stands.0.rows
table_fits schemas now (step ∷ steps) (suc place) inside stands = table_fits schemas (table_before now step.past) steps place (omega arith) stands.1

-- the newest step from a version has the table of that version
pub place_then : (now : Table) (steps : List PastStep) (version place : ℕ) → IsPlaceOf steps version (Some place) → table_then (tables_of now steps) version ≡ Some (table_at now steps place)
unfolding tables_of
place_then now [] version place is = let at = is.0.1 in absurd cc
place_then now (s ∷ steps) version zero is =
    let same : s ≡ is.0.0 = (let at = is.0.1 in cc) in
    let here : eqb s.from version ≡ true = eq-eqb s.from version (ap (λ (x : PastStep). x.from) same ∙ is.0.2) in
    ap (λ (b : Bool). option_map (λ (pair : ℕ × Table). pair.1) (cond b (Some (s.from, table_before now s.past)) (find_first (λ (pair : ℕ × Table). eqb pair.0 version) (tables_of (table_before now s.past) steps)))) here
place_then now (s ∷ steps) version (suc place) is =
    let apart : eqb s.from version ≡ false = ne_eqb s.from version (is.1 0 s (omega arith) refl) in
    ap (λ (b : Bool). option_map (λ (pair : ℕ × Table). pair.1) (cond b (Some (s.from, table_before now s.past)) (find_first (λ (pair : ℕ × Table). eqb pair.0 version) (tables_of (table_before now s.past) steps)))) apart
    ∙ place_then (table_before now s.past) steps version place (is.0, λ newer step less at. is.1 (suc newer) step (omega arith) at)
