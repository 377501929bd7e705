-- Lemmas on the variable bytes of the live rows of a state.
use Rattle.std.proofs.Common.{◌≡◌, ℕ, ◌+◌, ◌-◌, ◌^◌, ◌≤◌, List, ◌++◌, length, refl, ap, ◌∙◌, subst, arith, min}
use Rattle.std.specs.Prelude.{Option, Some, None, IsSome}
use Rattle.std.specs.FinMap.{get}
use Rattle.std.specs.Option.{option_to_list}
use Rattle.std.proofs.lemmas.Grind.{flat_map-append}
use Rattle.std.proofs.lemmas.List.{length-append}
use Rattle.row_model.specs.declared.row.Row.{Row}
use Rattle.row_model.specs.Table.{RowMap, Table, IsBound, row_at}
use Rattle.row_model.specs.BothStates.{rows_in, rows_from}
use Rattle.row_model.proofs.RowsFrom.{rows_skip, rows_take, rows_past, get_in}
use Rattle.object_codec.specs.Stored.{values_of_row, values_bytes}
use Rattle.object_codec.specs.Widths.{rows_bytes, live_rows, bytes_for}

-- the bytes of the rows that are seen and of those from an ordinal on are those of all, up to the greatest number
pub record IsCounted (table : Table) (type_index ordinal bytes : ℕ) : Type 0 where
  pub so_far : min (bytes + length (rows_bytes (rows_from ordinal (rows_in table type_index)))) (2 ^ 64 - 1) ≡ min (length (rows_bytes (live_rows table type_index))) (2 ^ 64 - 1)
  pub fits : bytes ≤ 2 ^ 64 - 1

dead : (row : Option Row) → (IsSome row → ⊥) → row ≡ None
dead None h = refl
dead (Some row) h = absurd (h refl)

-- the rows from an ordinal on are the one under it, if there is one, and those behind
rows_here : (rows : RowMap) (row : Option Row) (ordinal : ℕ) → get rows ordinal ≡ row → rows_from ordinal rows ≡ option_to_list row ++ rows_from (ordinal + 1) rows
rows_here rows None ordinal none = rows_skip rows ordinal (ordinal + 1) (omega arith) (λ q from before. let at : ordinal ≡ q = omega arith in subst (λ (k : ℕ). get rows k ≡ None) at none)
rows_here rows (Some row) ordinal some = rows_take rows ordinal row some

rows_bytes-append : (xs ys : List Row) → length (rows_bytes (xs ++ ys)) ≡ length (rows_bytes xs) + length (rows_bytes ys)
rows_bytes-append xs ys = ap (λ (bytes : List ℕ). length bytes) (flat_map-append (λ row. values_bytes (values_of_row row)) xs ys) ∙ length-append (rows_bytes xs) (rows_bytes ys)

pub counted_more : (table : Table) (type_index ordinal bytes bytes' here : ℕ) → IsCounted table type_index ordinal bytes
    → here ≡ min (length (rows_bytes (option_to_list (row_at table type_index ordinal)))) (2 ^ 64 - 1) → bytes' ≡ min (bytes + here) (2 ^ 64 - 1) → IsCounted table type_index (ordinal + 1) bytes'
counted_more table type_index ordinal bytes bytes' here done is more =
    let rows = rows_in table type_index in
    let split = ap (λ (rs : List Row). length (rows_bytes rs)) (rows_here rows (row_at table type_index ordinal) ordinal (get_in table type_index ordinal))
    ∙ rows_bytes-append (option_to_list (row_at table type_index ordinal)) (rows_from (ordinal + 1) rows) in
    record { so_far = omega (arith, split, done.so_far, is, more); fits = omega (arith, more) }

pub counted_all : (table : Table) (type_index ordinal bound bytes : ℕ) → IsCounted table type_index ordinal bytes → IsBound table type_index bound → bound ≤ ordinal
    → min bytes (2 ^ 25 + 1) ≡ bytes_for (live_rows table type_index)
counted_all table type_index ordinal bound bytes done is past =
    let rows = rows_in table type_index in
    let none = ap (λ (rs : List Row). length (rows_bytes rs))
    (rows_past rows ordinal (λ q from. get_in table type_index q ∙ dead (row_at table type_index q) (λ live. let below = is.above q live in omega arith))) in
    omega (arith, none, done.so_far, done.fits)
