-- Lemmas on the words and bytes of a half that is laid out: they are those of its rows.
use Rattle.std.proofs.Common.{◌≡◌, ℕ, zero, suc, ◌+◌, ◌*◌, ◌≤◌, List, [], ◌∷◌, length, refl, ap, ◌∙◌, arith}
use Rattle.std.specs.Prelude.{All, map, slice_get, sum, sum_by}
use Rattle.std.specs.Option.{option_map_or}
use Rattle.std.specs.List.{range_with_len}
use Rattle.std.specs.FinMap.{values}
use Rattle.std.proofs.lemmas.List.Elements.{All-head, All-tail}
use Rattle.std.proofs.lemmas.List.Sums.{sum_by-cons}
use Rattle.bit_array.specs.Element.{words_of}
use Rattle.schema_model.specs.declared.schema.Shape.{Shape}
use Rattle.schema_model.specs.Parts.{shape_fields}
use Rattle.row_model.specs.declared.row.Row.{Row}
use Rattle.row_model.specs.declared.row.Value.{Value}
use Rattle.row_model.specs.Table.{RowMap}
use Rattle.type_rows.specs.Ends.{IsOfKind, AreOfKind}
use Rattle.type_rows.specs.Layout.{fixed_words, item_bits}
use Rattle.type_rows.specs.WordsHeld.{value_bytes, row_bytes, part_bytes, field_bytes, bytes_held}
use Rattle.packed_half.specs.declared.half.HalfShape.{HalfShape}
use Rattle.packed_half.specs.Half.{byte_words, layout_in}
use Rattle.packed_half.specs.LaidOut.{IsLaidOut, lengths_of}
use Rattle.packed_half.proofs.RowPlaces.{all_values}

pub words_are : (shape : Shape) (half : HalfShape) (words : List ℕ) (rows : RowMap) → IsLaidOut shape half words rows
    → length words ≡ fixed_words shape (layout_in half) (values rows) + byte_words (lengths_of shape (values rows))
words_are shape half words rows laid =
    let items = ap (λ (n : ℕ). words_of (n * item_bits shape half.widths)) laid.total in
    let lengths = ap byte_words laid.lengths in
    omega (arith, laid.long, items, lengths)

-- ---- the bytes of all fields

-- the values of a record from one on, which are no more than the fields from it on
values_from : (values : List Value) (from count : ℕ) (at : ℕ → ℕ) → length values ≤ count → ((k : ℕ) → at (from + k) ≡ option_map_or value_bytes (slice_get values k) 0)
    → sum (map at (range_with_len from count)) ≡ sum_by value_bytes values
values_from values from zero at few each = none values few
  where
    none : (vs : List Value) → length vs ≤ 0 → 0 ≡ sum_by value_bytes vs
    none [] few = refl
    none (v ∷ vs) few = absurd (omega arith)
values_from [] from (suc count) at few each =
    omega (
      arith,
      sum_by-cons (λ (n : ℕ). n) (at from) (map at (range_with_len (from + 1) count)),
      first,
      values_from [] (from + 1) count at (omega arith) (λ k. let e : from + 1 + k ≡ from + suc k = omega arith in ap at e ∙ each (suc k)),
    )
  where
    first : at from ≡ 0
    first = let e : from ≡ from + 0 = omega arith in ap at e ∙ each 0
values_from (v ∷ vs) from (suc count) at few each =
    omega (
      arith,
      sum_by-cons (λ (n : ℕ). n) (at from) (map at (range_with_len (from + 1) count)),
      first,
      sum_by-cons value_bytes v vs,
      values_from vs (from + 1) count at (omega arith) (λ k. let e : from + 1 + k ≡ from + suc k = omega arith in ap at e ∙ each (suc k)),
    )
  where
    first : at from ≡ value_bytes v
    first = let e : from ≡ from + 0 = omega arith in ap at e ∙ each 0

-- a row has the bytes of its fields
row_sum : (shape : Shape) (row : Row) → IsOfKind shape row → sum (map (λ field. part_bytes field row) (range_with_len 0 (length (shape_fields shape)))) ≡ row_bytes row
row_sum (Shape.Object key fields) (Row.Object values) kind = values_from values 0 (length fields) (λ field. part_bytes field (Row.Object values)) (omega (arith, kind)) (λ k. let e : 0 + k ≡ k = omega arith in ap (λ (f : ℕ). part_bytes f (Row.Object values)) e)
row_sum (Shape.Object key fields) (Row.List ordinals) kind = absurd kind
row_sum (Shape.Object key fields) (Row.Set ordinals) kind = absurd kind
row_sum (Shape.Object key fields) (Row.Map pairs) kind = absurd kind
row_sum (Shape.List element) (Row.List ordinals) kind = refl
row_sum (Shape.List element) (Row.Object values) kind = absurd kind
row_sum (Shape.List element) (Row.Set ordinals) kind = absurd kind
row_sum (Shape.List element) (Row.Map pairs) kind = absurd kind
row_sum (Shape.Set element) (Row.Set ordinals) kind = refl
row_sum (Shape.Set element) (Row.Object values) kind = absurd kind
row_sum (Shape.Set element) (Row.List ordinals) kind = absurd kind
row_sum (Shape.Set element) (Row.Map pairs) kind = absurd kind
row_sum (Shape.Map key value) (Row.Map pairs) kind = refl
row_sum (Shape.Map key value) (Row.Object values) kind = absurd kind
row_sum (Shape.Map key value) (Row.List ordinals) kind = absurd kind
row_sum (Shape.Map key value) (Row.Set ordinals) kind = absurd kind

-- two functions of the index, added up
two_sums : (f g h : ℕ → ℕ) (indexes : List ℕ) → ((k : ℕ) → h k ≡ f k + g k) → sum (map h indexes) ≡ sum (map f indexes) + sum (map g indexes)
two_sums f g h [] each = refl
two_sums f g h (k ∷ rest) each =
    omega (
      arith,
      sum_by-cons (λ (n : ℕ). n) (h k) (map h rest),
      sum_by-cons (λ (n : ℕ). n) (f k) (map f rest),
      sum_by-cons (λ (n : ℕ). n) (g k) (map g rest),
      each k,
      two_sums f g h rest each,
    )

zero_sum : (indexes : List ℕ) → sum (map (λ (k : ℕ). 0) indexes) ≡ 0
zero_sum [] = refl
zero_sum (k ∷ rest) = omega (arith, sum_by-cons (λ (n : ℕ). n) 0 (map (λ (k : ℕ). 0) rest), zero_sum rest)

rows_sum : (shape : Shape) (rows : List Row) → All (IsOfKind shape) rows → sum (lengths_of shape rows) ≡ bytes_held rows
rows_sum shape [] all = zero_sum (range_with_len 0 (length (shape_fields shape)))
rows_sum shape (row ∷ rows) all =
    omega (
      arith,
      two_sums (λ field. part_bytes field row) (λ field. field_bytes field rows) (λ field. field_bytes field (row ∷ rows)) (range_with_len 0 (length (shape_fields shape))) (λ field. sum_by-cons (part_bytes field) row rows),
      row_sum shape row (All-head (IsOfKind shape) row rows all),
      rows_sum shape rows (All-tail (IsOfKind shape) row rows all),
      sum_by-cons row_bytes row rows,
    )

pub bytes_are : (shape : Shape) (half : HalfShape) (words : List ℕ) (rows : RowMap) → AreOfKind shape rows → IsLaidOut shape half words rows → sum half.lengths ≡ bytes_held (values rows)
bytes_are shape half words rows kinds laid = ap sum laid.lengths ∙ rows_sum shape (values rows) (all_values (IsOfKind shape) rows kinds)
