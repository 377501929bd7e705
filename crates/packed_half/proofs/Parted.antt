-- Lemmas on the zeros of a half, cut into those of its places, its items and its bytes, and on what is laid out in each.
use Rattle.std.proofs.Common.{mul-le-mul, None, Some, ◌≡◌, ℕ, zero, suc, ◌+◌, ◌*◌, ◌^◌, ◌<◌, ◌≤◌, List, [], ◌∷◌, ◌++◌, length, take, drop, Option, Result, Ok, Err, refl, ap, ◌∙◌, arith}
use Rattle.std.specs.Prelude.{OnOk, map, replicate, slice_get, sum, sum_by}
use Rattle.std.specs.Option.{option_map_or}
use Rattle.std.specs.List.{range_with_len}
use Rattle.std.specs.FinMap.{values}
use Rattle.std.proofs.lemmas.List.{length-append, length-replicate}
use Rattle.std.proofs.lemmas.List.Sums.{sum_by-cons, sum_by-le-sum_by}
use Rattle.schema_model.specs.declared.schema.Field.{Field}
use Rattle.schema_model.specs.declared.schema.FieldKind.{FieldKind}
use Rattle.schema_model.specs.declared.schema.Shape.{Shape}
use Rattle.schema_model.specs.Parts.{shape_fields}
use Rattle.row_model.specs.declared.row.Row.{Row}
use Rattle.row_model.specs.declared.row.Value.{Value}
use Rattle.row_model.specs.Table.{RowMap}
use Rattle.bit_array.specs.Element.{words_of}
use Rattle.object_codec.proofs.FieldWidths.{fields_small}
use Rattle.type_rows.specs.Holds.{KeepsLimits}
use Rattle.type_rows.specs.Layout.{item_bits, item_count, places_counted, places_of}
use Rattle.type_rows.specs.WellFormed.{AreWidths, IsWidth}
use Rattle.type_rows.specs.WordsHeld.{value_bytes, row_bytes, part_bytes, field_bytes, bytes_held}
use Rattle.packed_half.specs.declared.half.HalfShape.{HalfShape}
use Rattle.packed_half.specs.Half.{layout_in, place_words, item_words, words_for_bytes, byte_words, words_for, areas_in}
use Rattle.packed_half.specs.LaidOut.{IsLaidOut, lengths_of}
use Rattle.packed_half.specs.Laying.{CanLay, ArePlaced, HasRuns}
use Rattle.packed_half.proofs.PartsJoined.{laid_out}

-- ---- zeros

take_zeros : (n m k : ℕ) → k ≡ n + m → take {A = ℕ} n (replicate k 0) ≡ replicate n 0
take_zeros zero m k is = refl
take_zeros (suc n) m zero is = absurd (omega arith)
take_zeros (suc n) m (suc k) is = ap (λ (ws : List ℕ). 0 ∷ ws) (take_zeros n m k (omega arith))

drop_zeros : (n m k : ℕ) → k ≡ n + m → drop {A = ℕ} n (replicate k 0) ≡ replicate m 0
drop_zeros zero m k is = ap (λ (n : ℕ). replicate n 0) (let e : k ≡ m = omega arith in e)
drop_zeros (suc n) m zero is = absurd (omega arith)
drop_zeros (suc n) m (suc k) is = drop_zeros n m k (omega arith)

-- the words of the places and of the items are zeros, and those of the bytes are as many as there have to be
pub record IsCut (shape : Shape) (half : HalfShape) (first second bytes : List ℕ) : Type 0 where
  pub first_zeros : first ≡ replicate (place_words shape half) 0
  pub second_zeros : second ≡ replicate (item_words shape half) 0
  pub bytes_long : length bytes ≡ byte_words half.lengths

pub cut_zeros : (shape : Shape) (half : HalfShape) (words first behind second bytes : List ℕ) (places items : ℕ) → words ≡ replicate (words_for shape half) 0 → places ≡ place_words shape half → items ≡ item_words shape half
    → first ≡ take places words → behind ≡ drop places words → second ≡ take items behind → bytes ≡ drop items behind → IsCut shape half first second bytes
cut_zeros shape half words first behind second bytes places items zeros are items_are front back second_front second_back =
    let rest : behind ≡ replicate (item_words shape half + byte_words half.lengths) 0 =
    back ∙ ap (λ (n : ℕ). drop n words) are ∙ ap (drop (place_words shape half)) zeros
    ∙ drop_zeros (place_words shape half) (item_words shape half + byte_words half.lengths) (words_for shape half) (omega arith) in
    let last : bytes ≡ replicate (byte_words half.lengths) 0 =
    second_back ∙ ap (λ (n : ℕ). drop n behind) items_are ∙ ap (drop (item_words shape half)) rest
    ∙ drop_zeros (item_words shape half) (byte_words half.lengths) (item_words shape half + byte_words half.lengths) refl in
    record {
      first_zeros =
          front ∙ ap (λ (n : ℕ). take n words) are ∙ ap (take (place_words shape half)) zeros
          ∙ take_zeros (place_words shape half) (item_words shape half + byte_words half.lengths) (words_for shape half) (omega arith);
      second_zeros =
          second_front ∙ ap (λ (n : ℕ). take n behind) items_are ∙ ap (take (item_words shape half)) rest
          ∙ take_zeros (item_words shape half) (byte_words half.lengths) (item_words shape half + byte_words half.lengths) refl;
      bytes_long = ap (λ (ws : List ℕ). length ws) last ∙ length-replicate (byte_words half.lengths) 0;
    }

-- ---- the words are few

one_le : (f : ℕ) (vs : List Value) → option_map_or value_bytes (slice_get vs f) 0 ≤ sum_by value_bytes vs
one_le f [] = omega arith
one_le zero (v ∷ vs) = omega (arith, sum_by-cons value_bytes v vs)
one_le (suc f) (v ∷ vs) = omega (arith, sum_by-cons value_bytes v vs, one_le f vs)

-- a field has no more bytes than all
part_le : (field : ℕ) (row : Row) → part_bytes field row ≤ row_bytes row
part_le field (Row.Object values) = one_le field values
part_le field (Row.List ordinals) = omega arith
part_le field (Row.Set ordinals) = omega arith
part_le field (Row.Map pairs) = omega arith

field_le : (field : ℕ) (rows : List Row) → field_bytes field rows ≤ bytes_held rows
field_le field rows = sum_by-le-sum_by (part_bytes field) row_bytes rows (part_le field)

words_le : (rows : List Row) (from count : ℕ) → bytes_held rows ≤ 2 ^ 25 → byte_words (map (λ field. field_bytes field rows) (range_with_len from count)) ≤ count * 2 ^ 23
words_le rows from zero few = omega arith
words_le rows from (suc count) few =
    omega (arith, field_le from rows, words_le rows (from + 1) count few, sum_by-cons words_for_bytes (field_bytes from rows) (map (λ field. field_bytes field rows) (range_with_len (from + 1) count)))

is_narrow : (max : Option ℕ) (kind : FieldKind) (width : ℕ) → IsWidth max kind width → width ≤ 64
is_narrow None kind width is = is
is_narrow (Some max) kind width is = is.0

-- so are those of the places, whether the limit counts all bits of a record or not
places_few : (shape : Shape) (own : ℕ) (half : HalfShape) → AreWidths shape half.max half.widths → length (shape_fields shape) ≤ 1024 → places_of half.max ≤ 2 ^ 22
    → places_counted shape own (layout_in half) ≤ 2 ^ 22 → place_words shape half ≤ 2 ^ 33
places_few (Shape.Object key fields) own half wide many few counted =
    let small : sum half.widths ≤ 65536 = fields_small (λ (field : Field) width. IsWidth half.max field.kind width) (λ (field : Field) width is. is_narrow half.max field.kind width is) fields half.widths many wide in
    let product : places_of half.max * sum half.widths ≤ 2 ^ 22 * 65536 = mul-le-mul few small in omega (arith, product)
places_few (Shape.List element) own half wide many few counted = omega (arith, counted)
places_few (Shape.Set element) own half wide many few counted = omega (arith, counted)
places_few (Shape.Map key value) own half wide many few counted = omega (arith, counted)

-- A half of rows that keep the limits has few words.
pub words_few : (shape : Shape) (own : ℕ) (half : HalfShape) (rows : RowMap) → AreWidths shape half.max half.widths → length (shape_fields shape) ≤ 1024 → places_of half.max ≤ 2 ^ 22 → half.total ≡ item_count (values rows)
    → half.lengths ≡ lengths_of shape (values rows) → KeepsLimits shape own (layout_in half) rows → words_for shape half < 2 ^ 58
words_few shape own half rows wide many few total are kept =
    let bytes = words_le (values rows) 0 (length (shape_fields shape)) kept.bytes in
    let lengths = ap byte_words are in
    let items = ap (λ (n : ℕ). words_of (n * item_bits shape half.widths)) total in
    let places = places_few shape own half wide many few (omega (arith, kept.words)) in
    omega (arith, kept.words, many, bytes, lengths, items, places)

-- ---- what is laid out in each part is laid out in all

pub whole : (shape : Shape) (half : HalfShape) (rows : RowMap) (first second bytes first' second' bytes' : List ℕ) → CanLay shape half rows → IsCut shape half first second bytes → length first' ≡ length first
    → length second' ≡ length second → length bytes' ≡ length bytes → ArePlaced shape half rows first' second' (areas_in bytes' half.lengths) → IsLaidOut shape half (first' ++ (second' ++ bytes')) rows
whole shape half rows first second bytes first' second' bytes' can parts same second_same bytes_same placed =
    let long : length first' ≡ place_words shape half = same ∙ ap (λ (ws : List ℕ). length ws) parts.first_zeros ∙ length-replicate (place_words shape half) 0 in
    let second_long : length second' ≡ item_words shape half = second_same ∙ ap (λ (ws : List ℕ). length ws) parts.second_zeros ∙ length-replicate (item_words shape half) 0 in
    let all : length (first' ++ (second' ++ bytes')) ≡ words_for shape half =
    omega (arith, length-append first' (second' ++ bytes'), length-append second' bytes', long, second_long, bytes_same, parts.bytes_long) in
    laid_out shape half rows (first' ++ (second' ++ bytes')) first' second' bytes' can refl long second_long all (omega (arith, all, can.room)) placed

-- a fact of an answer that is Ok gives another
pub on_ok : {U E : Type 0} (result : Result U E) (P Q : Type 0) → (P → Q) → OnOk result P → OnOk result Q
on_ok (Ok done) P Q gives h = gives h
on_ok (Err error) P Q gives h = h

-- what is neither an OBJECT nor a LIST has runs
pub has_runs : (shape : Shape) → ((key : Option (List (List ℕ))) (fields : List Field) → shape ≡ Shape.Object key fields → ⊥) → ((element : List ℕ) → shape ≡ Shape.List element → ⊥) → HasRuns shape
has_runs (Shape.Object key fields) object list = absurd (object key fields refl)
has_runs (Shape.List element) object list = absurd (list element refl)
has_runs (Shape.Set element) object list = tt
has_runs (Shape.Map key value) object list = tt
