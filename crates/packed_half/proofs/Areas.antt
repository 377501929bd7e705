-- Lemmas on the bytes of fields in words: where those of each field stand.
use Rattle.std.proofs.Common.{◌≡◌, ℕ, zero, suc, ◌<◌, List, [], ◌∷◌, length, take, drop, refl, sym, ap, ◌∙◌, arith}
use Rattle.std.specs.Prelude.{slice_index}
use Rattle.std.proofs.lemmas.List.{drop-drop}
use Rattle.std.proofs.lemmas.List.FromFn.{length-map-range_with_len, get_or-map-range_with_len}
use Rattle.std.proofs.lemmas.List.Sums.{sum_by-cons}
use Rattle.row_model.specs.Areas.{area_of}
use Rattle.packed_half.specs.Half.{words_for_bytes, byte_words, byte_in, bytes_in, areas_in}

pub bytes_long : (words : List ℕ) (count : ℕ) → length (bytes_in words count) ≡ count
bytes_long words count = length-map-range_with_len (byte_in words) 0 count

pub byte_there : (words : List ℕ) (count at : ℕ) → at < count → slice_index (bytes_in words count) at ≡ byte_in words at
byte_there words count at inside = get_or-map-range_with_len (byte_in words) 0 count at at 0 inside (omega arith)

-- the bytes of a field stand behind those of the fields before it
pub area_at : (words lengths : List ℕ) (field : ℕ) → area_of (areas_in words lengths) field ≡ bytes_in (drop (byte_words (take field lengths)) words) (slice_index lengths field)
area_at words [] field = refl
area_at words (count ∷ rest) zero = refl
area_at words (count ∷ rest) (suc field) =
    area_at (drop (words_for_bytes count) words) rest field
    ∙ ap (λ (ws : List ℕ). bytes_in ws (slice_index rest field)) (drop-drop (byte_words (take field rest)) (words_for_bytes count) words)
    ∙ ap (λ (n : ℕ). bytes_in (drop n words) (slice_index rest field)) (sym (sum_by-cons words_for_bytes count (take field rest)))

pub area_long : (words lengths : List ℕ) (field : ℕ) → length (area_of (areas_in words lengths) field) ≡ slice_index lengths field
area_long words lengths field =
    ap (λ (bs : List ℕ). length bs) (area_at words lengths field) ∙ bytes_long (drop (byte_words (take field lengths)) words) (slice_index lengths field)

pub area_byte : (words lengths : List ℕ) (field at : ℕ) → at < length (area_of (areas_in words lengths) field)
    → slice_index (area_of (areas_in words lengths) field) at ≡ byte_in (drop (byte_words (take field lengths)) words) at
area_byte words lengths field at inside =
    ap (λ (bs : List ℕ). slice_index bs at) (area_at words lengths field)
    ∙ byte_there (drop (byte_words (take field lengths)) words) (slice_index lengths field) at (let long = area_long words lengths field in omega arith)

-- a field that has a byte is one of the fields
pub field_inside : (lengths : List ℕ) (field at : ℕ) → at < slice_index lengths field → field < length lengths
field_inside [] field at inside = absurd (omega arith)
field_inside (count ∷ rest) zero at inside = omega arith
field_inside (count ∷ rest) (suc field) at inside = let behind = field_inside rest field at inside in omega arith
