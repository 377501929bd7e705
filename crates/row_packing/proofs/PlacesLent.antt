-- Lemmas on the rows that are lent of the places of the first ordinals.
use Rattle.std.proofs.Common.{◌≡◌, ℕ, ◌<◌, length, slice_get, Option, Some, refl, sym, ◌∙◌, arith}
use Rattle.std.specs.List.{range_with_len}
use Rattle.std.proofs.lemmas.List.FromFn.{length-map-range_with_len, get_or-map-range_with_len}
use Rattle.std.proofs.lemmas.Option.{slice_get_read}
use Rattle.row_model.specs.declared.row.Row.{Row}
use Rattle.row_model.specs.Table.{Table, row_at}
use Rattle.row_packing.specs.Places.{places_under}

-- there are as many places as ordinals
pub first_count : (table : Table) (type_index count : ℕ) → length (places_under table type_index (range_with_len 0 count)) ≡ count
first_count table type_index count = length-map-range_with_len (row_at table type_index) 0 count

-- the row under an ordinal stands at its place
pub first_lent : (table : Table) (type_index count place : ℕ) (lent : Option Row) → place < length (places_under table type_index (range_with_len 0 count)) → row_at table type_index place ≡ lent
    → slice_get (places_under table type_index (range_with_len 0 count)) place ≡ Some lent
first_lent table type_index count place lent inside is =
    let places = places_under table type_index (range_with_len 0 count) in
    let long = first_count table type_index count in
    slice_get_read places (length places) place lent refl inside
    (sym (get_or-map-range_with_len (row_at table type_index) 0 count place place lent (omega (arith, inside, long)) (omega arith) ∙ is))
