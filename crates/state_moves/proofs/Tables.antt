-- Tables by type: those of the current rows and of the rows before.
use Rattle.std.proofs.Common.{◌≡◌, ◌<◌, ◌⊎◌, inl, inr, ℕ, zero, suc, List, [], ◌∷◌, length, Option, Some, None, refl, sym, ap, ◌∙◌, subst, arith}
use Rattle.std.specs.Prelude.{IsSome, map, slice_get}
use Rattle.std.specs.List.{AllZip}
use Rattle.std.specs.FinMap.{get}
use Rattle.std.specs.Option.{option_and_then, option_map}
use Rattle.std.proofs.lemmas.Bool.{false≢true}
use Rattle.std.proofs.lemmas.Option.{slice_get-map, slice_get_within}
use Rattle.schema_model.specs.declared.schema.Schema.{Schema}
use Rattle.row_model.specs.declared.row.Row.{Row}
use Rattle.row_model.specs.Table.{RowMap, Table, row_at, IsLive}
use Rattle.type_state.specs.State.{Half, State}
use Rattle.type_state.specs.Views.{table_of}
use Rattle.row_model.specs.Before.{FitsPast, PastPart, rows_before, table_before}
use Rattle.state_moves.specs.Halves.{current_halves}

module _ (table : Table) (t : ℕ) where
  pub row_of : (o : ℕ) (rows : RowMap) → slice_get table t ≡ Some rows → row_at table t o ≡ get rows o
  row_of o rows is = ap (option_and_then (λ (rows : RowMap). get rows o)) is

  pub no_row : (o : ℕ) → slice_get table t ≡ None → row_at table t o ≡ None
  no_row o none = ap (option_and_then (λ (rows : RowMap). get rows o)) none

  pub none_off : (o : ℕ) → slice_get table t ≡ None → IsLive table t o → ⊥
  none_off o none live = false≢true (subst IsSome (no_row o none) live)

-- a row is there, or none
pub live_or_none : (table : Table) (t o : ℕ) → IsLive table t o ⊎ (row_at table t o ≡ None)
live_or_none table t o = of_row (row_at table t o) refl
  where
    of_row : (found : Option Row) → row_at table t o ≡ found → IsLive table t o ⊎ (row_at table t o ≡ None)
    of_row None none = inr none
    of_row (Some row) is = inl (subst IsSome (sym is) refl)

-- ---- the current rows

pub current_at : (states : List State) (t : ℕ) (state : State) → slice_get states t ≡ Some state → slice_get (table_of (current_halves states)) t ≡ Some state.current.rows
current_at states t state is =
    slice_get-map (λ (half : Half). half.rows) (current_halves states) t
    ∙ ap (option_map (λ (half : Half). half.rows)) (slice_get-map (λ (s : State). s.current) states t ∙ ap (option_map (λ (s : State). s.current)) is)

pub current_off : (states : List State) (t : ℕ) → slice_get states t ≡ None → slice_get (table_of (current_halves states)) t ≡ None
current_off states t none =
    slice_get-map (λ (half : Half). half.rows) (current_halves states) t
    ∙ ap (option_map (λ (half : Half). half.rows)) (slice_get-map (λ (s : State). s.current) states t ∙ ap (option_map (λ (s : State). s.current)) none)

-- types of the same states have the same shape
pub same_shape : (states others : List State) (t : ℕ) (state other : State) → map (λ (s : State). s.schema) states ≡ map (λ (s : State). s.schema) others → slice_get states t ≡ Some state → slice_get others t ≡ Some other
    → state.schema.shape ≡ other.schema.shape
same_shape states others t state other named is also =
    let one : Some state.schema ≡ Some other.schema =
    sym (slice_get-map (λ (s : State). s.schema) states t ∙ ap (option_map (λ (s : State). s.schema)) is)
    ∙ ap (λ (schemas : List Schema). slice_get schemas t) named
    ∙ slice_get-map (λ (s : State). s.schema) others t
    ∙ ap (option_map (λ (s : State). s.schema)) also in
    let same : state.schema ≡ other.schema = cc in
    ap (λ (schema : Schema). schema.shape) same

-- types whose rows are the same have the same row under each ordinal
pub same_rows_at : (states others : List State) (t : ℕ) (state other : State) → slice_get states t ≡ Some state → slice_get others t ≡ Some other → state.current.rows ≡ other.current.rows
    → (o : ℕ) → row_at (table_of (current_halves states)) t o ≡ row_at (table_of (current_halves others)) t o
same_rows_at states others t state other is also same o =
    row_of (table_of (current_halves states)) t o state.current.rows (current_at states t state is)
    ∙ ap (λ (rows : RowMap). get rows o) same
    ∙ sym (row_of (table_of (current_halves others)) t o other.current.rows (current_at others t other also))

-- ---- the rows before

pub past_length : (table : Table) (past : List PastPart) → AllZip FitsPast table past → length past ≡ length table
past_length [] [] fits = refl
past_length (rows ∷ table) (part ∷ past) fits = let rest = past_length table past fits.1 in omega arith
past_length [] (part ∷ past) fits = absurd fits
past_length (rows ∷ table) [] fits = absurd fits

pub fits_at : (table : Table) (past : List PastPart) (t : ℕ) (rows : RowMap) (part : PastPart) → AllZip FitsPast table past → slice_get table t ≡ Some rows → slice_get past t ≡ Some part → FitsPast rows part
fits_at [] past t rows part fits is there = absurd cc
fits_at (r ∷ table) [] t rows part fits is there = absurd fits
fits_at (r ∷ table) (p ∷ past) zero rows part fits is there = let same : r ≡ rows = cc in let also : p ≡ part = cc in subst (λ (x : RowMap). FitsPast x part) same (subst (λ (x : PastPart). FitsPast r x) also fits.0)
fits_at (r ∷ table) (p ∷ past) (suc t) rows part fits is there = fits_at table past t rows part fits.1 is there

pub before_at : (table : Table) (past : List PastPart) (t : ℕ) (rows : RowMap) (part : PastPart) → slice_get table t ≡ Some rows → slice_get past t ≡ Some part → slice_get (table_before table past) t ≡ Some (rows_before rows part)
unfolding table_before
before_at [] past t rows part is there = absurd cc
before_at (r ∷ table) [] t rows part is there = absurd cc
before_at (r ∷ table) (p ∷ past) zero rows part is there = let same : r ≡ rows = cc in let also : p ≡ part = cc in λ i. Some (rows_before (same i) (also i))
before_at (r ∷ table) (p ∷ past) (suc t) rows part is there = before_at table past t rows part is there

pub before_off : (table : Table) (past : List PastPart) (t : ℕ) → slice_get table t ≡ None → slice_get (table_before table past) t ≡ None
unfolding table_before
before_off [] past t none = refl
before_off (r ∷ table) [] t none = refl
before_off (r ∷ table) (p ∷ past) zero none = absurd cc
before_off (r ∷ table) (p ∷ past) (suc t) none = before_off table past t none

-- a type that is there has a part beside it
pub part_within : (states : List State) (past : List PastPart) (t : ℕ) (state : State) → AllZip FitsPast (table_of (current_halves states)) past → slice_get states t ≡ Some state → t < length past
part_within states past t state fits is =
    let within = slice_get_within (table_of (current_halves states)) t state.current.rows (current_at states t state is) in
    omega (arith, within, past_length (table_of (current_halves states)) past fits)
