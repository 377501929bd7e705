-- How many words a half that is kept has: none where nothing is laid out, and else those of its rows.
use Rattle.std.proofs.Common.{◌≡◌, ◌+◌, ℕ, inl, inr, List, [], ◌∷◌, None, length, refl, ap, sym, ◌∙◌, arith}
use Rattle.std.specs.Prelude.{map, sum, sum_by, ◌*◌}
use Rattle.std.specs.FinMap.{values}
use Rattle.std.specs.List.{range_with_len}
use Rattle.std.specs.Map.{values_of}
use Rattle.std.proofs.lemmas.List.Sums.{sum_by-cons}
use Rattle.bit_array.specs.Element.{words_of}
use Rattle.schema_model.specs.declared.schema.Shape.{Shape}
use Rattle.schema_model.specs.Parts.{shape_fields}
use Rattle.row_model.specs.declared.row.Row.{Row}
use Rattle.packed_half.specs.declared.half.HalfShape.{HalfShape}
use Rattle.packed_half.specs.Half.{byte_words, words_for, words_for_bytes}
use Rattle.packed_half.specs.LaidOut.{lengths_of}
use Rattle.packed_half.proofs.Counts.{bytes_are, words_are}
use Rattle.type_rows.specs.Layout.{fixed_words, item_bits, place_bits, places_of}
use Rattle.type_rows.specs.WordsHeld.{bytes_held}
use Rattle.type_rows.proofs.Entries.{no_entry}
use Rattle.type_state.specs.Kept.{IsBare, IsHalf, half_in, half_rows}
use Rattle.type_state.specs.State.{Half, empty_half}
use Rattle.type_state.specs.WordsHeld.{words_held}
use Rattle.type_state.proofs.HalfRows.{bare_half}

-- ---- without rows

no_bytes : (fields : List ℕ) → sum_by words_for_bytes (map (λ (f : ℕ). 0) fields) ≡ 0
no_bytes [] = refl
no_bytes (f ∷ fields) = omega (arith, sum_by-cons words_for_bytes 0 (map (λ (f : ℕ). 0) fields), no_bytes fields)

none_fixed : (shape : Shape) → fixed_words shape (record { max = None; widths = [] }) [] ≡ 0
none_fixed (Shape.Object key fields) = refl
none_fixed (Shape.List element) = refl
none_fixed (Shape.Set element) = refl
none_fixed (Shape.Map key value) = refl

none_held : (shape : Shape) → words_held shape empty_half ≡ 0
none_held shape =
    ap (λ (rows : List Row). fixed_words shape (record { max = None; widths = [] }) rows + byte_words (lengths_of shape rows)) (ap values_of no_entry)
    ∙ (let fixed = none_fixed shape in let bytes = no_bytes (range_with_len 0 (length (shape_fields shape))) in omega (arith, fixed, bytes))

-- No places, or no items, take no words, however wide they are.
no_words : (count width : ℕ) → count ≡ 0 → words_of (count * width) ≡ 0
no_words count width none = let zeros : count * width ≡ 0 = ap (λ (n : ℕ). n * width) none ∙ (omega arith) in ap words_of zeros

-- A half in which nothing is laid out takes no words.
pub bare_words : (shape : Shape) (half : HalfShape) → IsBare half → words_for shape half ≡ 0
bare_words shape half bare =
    let places = no_words (places_of half.max) (place_bits shape half.widths) (ap places_of bare.max) in
    let items = no_words half.total (item_bits shape half.widths) bare.total in
    let bytes = ap byte_words bare.lengths in
    omega (arith, places, items, bytes)

-- Where it has none, it has as many as it takes.
pub bare_long : (shape : Shape) (half : HalfShape) (words : List ℕ) → IsBare half → words ≡ [] → length words ≡ words_for shape half
bare_long shape half words bare none = ap (λ (ws : List ℕ). length ws) none ∙ sym (bare_words shape half bare)

-- ---- with rows

-- A half that has as many words as it takes has those of its rows.
pub held_words : (shape : Shape) (half : HalfShape) (words : List ℕ) → IsHalf shape half words → length words ≡ words_for shape half → length words ≡ words_held shape (half_in shape half words)
held_words shape half words (inl bare) long =
    long ∙ bare_words shape half bare ∙ sym (none_held shape) ∙ sym (ap (λ (h : Half). words_held shape h) (bare_half shape half words bare))
held_words shape half words (inr packed) long = words_are shape half words (half_rows shape half words) packed.laid

-- It has as many bytes as its rows.
pub held_bytes : (shape : Shape) (half : HalfShape) (words : List ℕ) → IsHalf shape half words → sum half.lengths ≡ bytes_held (values (half_rows shape half words))
held_bytes shape half words (inl bare) =
    ap (λ (ls : List ℕ). sum ls) bare.lengths ∙ sym (ap (λ (h : Half). bytes_held (values h.rows)) (bare_half shape half words bare) ∙ ap (λ es. bytes_held (values_of es)) no_entry)
held_bytes shape half words (inr packed) = bytes_are shape half words (half_rows shape half words) packed.can.kinds packed.laid
