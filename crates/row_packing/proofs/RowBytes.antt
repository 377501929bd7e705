-- Lemmas on the variable bytes of rows, of all their fields and of one.
use Rattle.std.proofs.Common.{◌≡◌, ℕ, zero, suc, ◌≤◌, List, [], ◌∷◌, length, Option, Some, None, refl, ap, ◌∙◌, arith, append-nil}
use Rattle.std.specs.Prelude.{map, slice_get, sum_by}
use Rattle.std.specs.Option.{option_map_or, option_to_list}
use Rattle.std.proofs.lemmas.List.Concat.{length-flat_map}
use Rattle.std.proofs.lemmas.List.Sums.{sum_by-cons, sum_by-le-sum_by}
use Rattle.row_model.specs.declared.row.Row.{Row}
use Rattle.row_model.specs.declared.row.Value.{Value}
use Rattle.object_codec.specs.Packing.{values_of_place}
use Rattle.object_codec.specs.Stored.{values_of_row, value_at, column, values_bytes, value_bytes as bytes_of_value}
use Rattle.object_codec.specs.Widths.{byte_count, records_of, rows_bytes}
use Rattle.object_codec.proofs.ByteCounts.{byte_count-append}
use Rattle.type_rows.specs.WordsHeld.{value_bytes, row_bytes, part_bytes, field_bytes, bytes_held}
use Rattle.type_rows.proofs.ValueBytes.{value_count}
use Rattle.row_packing.proofs.Greatest.{sum_same}
use Rattle.row_packing.proofs.RowsUnder.{at_place}

values_count : (values : List Value) → byte_count values ≡ sum_by value_bytes values
values_count values = length-flat_map bytes_of_value values ∙ sum_same (λ value. length (bytes_of_value value)) value_bytes values value_count

-- those of a row
row_count : (row : Row) → byte_count (values_of_row row) ≡ row_bytes row
row_count (Row.Object values) = values_count values
row_count (Row.List ordinals) = refl
row_count (Row.Set ordinals) = refl
row_count (Row.Map pairs) = refl

-- the bytes of some rows, counted
pub rows_count : (rows : List Row) → length (rows_bytes rows) ≡ bytes_held rows
rows_count rows =
    length-flat_map (λ row. values_bytes (values_of_row row)) rows ∙ sum_same (λ row. length (values_bytes (values_of_row row))) row_bytes rows row_count

-- those of one field of a row
option_count : (value : Option Value) → byte_count (option_to_list value) ≡ option_map_or value_bytes value 0
option_count None = refl
option_count (Some value) = ap (λ (bytes : List ℕ). length bytes) (append-nil (bytes_of_value value)) ∙ value_count value

part_count : (field : ℕ) (row : Row) → byte_count (value_at field (values_of_row row)) ≡ part_bytes field row
part_count field (Row.Object values) = option_count (slice_get values field)
part_count field (Row.List ordinals) = refl
part_count field (Row.Set ordinals) = refl
part_count field (Row.Map pairs) = refl

-- and those of a field in some rows
pub column_count : (field : ℕ) (rows : List Row) → byte_count (column field (records_of rows)) ≡ field_bytes field rows
column_count field [] = refl
column_count field (row ∷ rows) =
    byte_count-append (value_at field (values_of_row row)) (column field (records_of rows))
    ∙ omega (arith, part_count field row, column_count field rows, sum_by-cons (part_bytes field) row rows)

place_count : (field : ℕ) (row : Option Row) → byte_count (value_at field (values_of_place row)) ≡ at_place (part_bytes field) row
place_count field None = refl
place_count field (Some row) = part_count field row

-- the same in the rows of places
pub column_places : (field : ℕ) (places : List (Option Row)) → byte_count (column field (map values_of_place places)) ≡ sum_by (at_place (part_bytes field)) places
column_places field [] = refl
column_places field (row ∷ rows) =
    byte_count-append (value_at field (values_of_place row)) (column field (map values_of_place rows))
    ∙ omega (arith, place_count field row, column_places field rows, sum_by-cons (at_place (part_bytes field)) row rows)

-- a field has no more bytes than its row
pub part_le : (field : ℕ) (row : Row) → part_bytes field row ≤ row_bytes row
part_le field (Row.Object values) = one_le field values
  where
    one_le : (f : ℕ) (vs : List Value) → option_map_or value_bytes (slice_get vs f) 0 ≤ sum_by value_bytes vs
    one_le f [] = omega arith
    one_le zero (v ∷ vs) = omega (arith, sum_by-cons value_bytes v vs)
    one_le (suc f) (v ∷ vs) = omega (arith, sum_by-cons value_bytes v vs, one_le f vs)
part_le field (Row.List ordinals) = omega arith
part_le field (Row.Set ordinals) = omega arith
part_le field (Row.Map pairs) = omega arith

pub field_le : (field : ℕ) (rows : List Row) → field_bytes field rows ≤ bytes_held rows
field_le field rows = sum_by-le-sum_by (part_bytes field) row_bytes rows (part_le field)
