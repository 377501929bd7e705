-- Rows laid out one behind the other: one more that fits, and the first that does not.
use Rattle.std.proofs.Common.{◌≡◌, ℕ, ◌+◌, ◌-◌, ◌^◌, List, [], ◌∷◌, ◌++◌, suc, Some, take, get_or, min, ap, sym, ◌∙◌, subst, arith, zero-add}
use Rattle.std.specs.Prelude.{slice_get, slice_index}
use Rattle.std.proofs.lemmas.List.{take_more}
use Rattle.std.proofs.lemmas.List.Sums.{sum_by-append}
use Rattle.std.proofs.lemmas.Option.{slice_get-get_or, slice_get_within}
use Rattle.schema_model.specs.declared.schema.Shape.{Shape}
use Rattle.row_model.specs.declared.row.Row.{Row}
use Rattle.type_rows.specs.Layout.{items_of_row}
use Rattle.type_rows.specs.WordsHeld.{bytes_held, part_bytes, row_bytes}
use Rattle.type_rows.specs.Holds.{HoldsRow}
use Rattle.type_rows.specs.Ends.{FitsBehind}
use Rattle.type_rows.proofs.Reading.{fits_row, held_more, holds_row, more_bytes, more_items}
use Rattle.type_rows.specs.Widths.{FirstUnheld}
use Rattle.type_rows.specs.Sums.{AreLaid}
use Rattle.type_rows.proofs.OnceFirst.{some_once}

-- A front that is longer by the row at an index.
pub front_more : (rows : List Row) (index : ℕ) (row : Row) → slice_get rows index ≡ Some row → take (index + 1) rows ≡ take index rows ++ row ∷ []
front_more rows index row at =
    let inside = slice_get_within rows index row at in
    let is : get_or rows index row ≡ row = some_once (get_or rows index row) row (sym (slice_get-get_or rows index row inside) ∙ at) in
    take_more rows index row inside ∙ ap (λ last. take index rows ++ last ∷ []) is

-- No rows are laid out.
pub laid_none : (shape : Shape) (widths : List ℕ) (rows : List Row) (items : ℕ) (lengths : List ℕ) → items ≡ 0 → ((field : ℕ) → slice_index lengths field ≡ 0) → AreLaid shape widths (take 0 rows) items lengths 0
laid_none shape widths rows items lengths none zeros = record { held = tt; counted = none; reached = zeros; total = omega arith }

-- One row more.
pub laid_more : (shape : Shape) (widths : List ℕ) (rows : List Row) (index : ℕ) (row : Row) (items more : ℕ) (lengths after : List ℕ) (bytes counted : ℕ)
    → AreLaid shape widths (take index rows) items lengths bytes → slice_get rows index ≡ Some row → FitsBehind shape widths lengths items row
    → more ≡ items + items_of_row row → ((field : ℕ) → slice_index after field ≡ slice_index lengths field + part_bytes field row) → counted ≡ min (bytes + row_bytes row) (2 ^ 64 - 1)
    → AreLaid shape widths (take (index + 1) rows) more after counted
laid_more shape widths rows index row items more lengths after bytes counted laid at fits up grown sum =
    let front = take index rows in
    let total : bytes_held (front ++ row ∷ []) ≡ bytes_held front + row_bytes row =
    sum_by-append row_bytes front (row ∷ []) ∙ ap (λ n. bytes_held front + n) (zero-add (row_bytes row)) in
    subst (λ some. AreLaid shape widths some more after counted) (sym (front_more rows index row at)) (record {
      held = held_more shape widths [] front row laid.held (holds_row shape widths lengths items front row laid.reached laid.counted fits);
      counted = up ∙ ap (λ n. n + items_of_row row) laid.counted ∙ sym (more_items front row);
      reached = λ field. grown field ∙ ap (λ n. n + part_bytes field row) (laid.reached field) ∙ sym (more_bytes field front row);
      total = omega (arith, sum, laid.total, total);
    })

-- All rows.
pub laid_all : (shape : Shape) (widths : List ℕ) (rows : List Row) (index items : ℕ) (lengths : List ℕ) (bytes : ℕ) → take index rows ≡ rows → AreLaid shape widths (take index rows) items lengths bytes → AreLaid shape widths rows items lengths bytes
laid_all shape widths rows index items lengths bytes all laid = subst (λ some. AreLaid shape widths some items lengths bytes) all laid

-- A row that does not fit behind those before it is the first that the widths do not hold.
pub first_unheld : (shape : Shape) (widths ordinals : List ℕ) (rows : List Row) (index ordinal : ℕ) (row : Row) (items : ℕ) (lengths : List ℕ) (bytes : ℕ)
    → AreLaid shape widths (take index rows) items lengths bytes → slice_get ordinals index ≡ Some ordinal → slice_get rows index ≡ Some row
    → (FitsBehind shape widths lengths items row → ⊥) → FirstUnheld shape widths ordinals rows ordinal
first_unheld shape widths ordinals rows index ordinal row items lengths bytes laid of at wide = record {
  index = index;
  row = row;
  of = of;
  stands = at;
  held = laid.held;
  unheld = λ holds. (
      let next : suc index ≡ index + 1 = omega arith in
      let there : HoldsRow shape widths (take (index + 1) rows) row = subst (λ n. HoldsRow shape widths (take n rows) row) next holds in
      wide (fits_row shape widths lengths items (take index rows) row laid.reached laid.counted (subst (λ some. HoldsRow shape widths some row) (front_more rows index row at) there)));
}
