-- Lemmas on the bytes of fields in words: each byte is an element of 8 bits, and the fields follow one another.
use Rattle.std.proofs.Common.{◌≡◌, ℕ, ◌+◌, ◌*◌, ◌/◌, ◌%◌, ◌^◌, ◌<◌, ◌≤◌, List, [], ◌∷◌, ◌++◌, length, drop, get_or, zero, suc, refl, sym, ap, ◌∙◌, subst, arith, append-nil, drop-cons, Fits, w64}
use Rattle.std.specs.Prelude.{map, slice_index}
use Rattle.std.specs.List.{range_with_len}
use Rattle.std.proofs.lemmas.List.{length-drop}
use Rattle.std.proofs.lemmas.List.Sums.{sum_by-cons}
use Rattle.bit_array.specs.Element.{element_of}
use Rattle.bit_array.proofs.Elements.{element_of_one_word}
use Rattle.object_codec.specs.declared.bytes.PackedBytes.{PackedBytes}
use Rattle.object_codec.specs.Bytes.{bytes_of}
use Rattle.row_model.specs.Areas.{area_of}
use Rattle.packed_half.specs.Half.{areas_in, byte_in, byte_words, bytes_in, words_for_bytes}

-- ---- one field

byte_stands : (words : List ℕ) (index : ℕ) → ((k : ℕ) → Fits w64 (get_or words k 0)) → index / 8 < length words → element_of words (index * 8) 8 ≡ byte_in words index
byte_stands words index fits inside =
    let row : index * 8 / 64 ≡ index / 8 = omega arith in
    let column : index * 8 % 64 ≡ 8 * (index % 8) = omega arith in
    element_of_one_word words (index * 8) 8 fits (omega arith) (omega arith)
    ∙ ap (λ (k : ℕ). get_or words k 0 / 2 ^ (index * 8 % 64) % 2 ^ 8) row
    ∙ ap (λ (k : ℕ). get_or words (index / 8) 0 / 2 ^ k % 2 ^ 8) column

bytes_alike : (words : List ℕ) (from count : ℕ) → ((k : ℕ) → Fits w64 (get_or words k 0)) → words_for_bytes (from + count) ≤ length words
    → map (λ index. element_of words (index * 8) 8) (range_with_len from count) ≡ map (byte_in words) (range_with_len from count)
bytes_alike words from zero fits inside = refl
bytes_alike words from (suc count) fits inside =
    ap (λ (byte : ℕ). byte ∷ map (λ index. element_of words (index * 8) 8) (range_with_len (from + 1) count)) (byte_stands words from fits (omega arith))
    ∙ ap (λ (rest : List ℕ). byte_in words from ∷ rest) (bytes_alike words (from + 1) count fits (omega arith))

pub first_bytes_are : (words : List ℕ) (count : ℕ) → ((k : ℕ) → Fits w64 (get_or words k 0)) → words_for_bytes count ≤ length words
    → map (λ index. element_of words (index * 8) 8) (range_with_len 0 count) ≡ bytes_in words count
first_bytes_are words count fits inside = bytes_alike words 0 count fits (omega arith)

-- ---- one field behind another

-- the bytes of the fields so far, and those of the rest in the words that are left
pub record AreCut (words lengths rest : List ℕ) (areas : List PackedBytes) (index : ℕ) : Type 0 where
  pub so_far : map bytes_of areas ++ areas_in rest (drop index lengths) ≡ areas_in words lengths
  pub inside : byte_words (drop index lengths) ≤ length rest
  pub few : byte_words (drop index lengths) < 2 ^ 58

pub none_cut : (words lengths : List ℕ) → byte_words lengths ≤ length words → byte_words lengths < 2 ^ 58 → AreCut words lengths words [] 0
none_cut words lengths inside few = record { so_far = refl; inside = inside; few = few }

-- the field that comes has room in the words that are left
pub next_inside : (words lengths rest : List ℕ) (areas : List PackedBytes) (index : ℕ) → AreCut words lengths rest areas index → index < length lengths
    → (words_for_bytes (slice_index lengths index) ≤ length rest) × (words_for_bytes (slice_index lengths index) < 2 ^ 58)
next_inside words lengths rest areas index cut inside =
    let count = slice_index lengths index in
    let sum = ap byte_words (drop-cons lengths index 0 inside) ∙ sum_by-cons words_for_bytes count (drop (suc index) lengths) in
    (omega (arith, sum, cut.inside), omega (arith, sum, cut.few))

mapped_more : (areas : List PackedBytes) (bytes : PackedBytes) (behind : List (List ℕ)) → map bytes_of (areas ++ bytes ∷ []) ++ behind ≡ map bytes_of areas ++ bytes_of bytes ∷ behind
mapped_more [] bytes behind = refl
mapped_more (first ∷ areas) bytes behind = ap (λ (all : List (List ℕ)). bytes_of first ∷ all) (mapped_more areas bytes behind)

pub one_cut : (words lengths rest rest' : List ℕ) (areas areas' : List PackedBytes) (bytes : PackedBytes) (index : ℕ) → AreCut words lengths rest areas index → index < length lengths
    → bytes_of bytes ≡ bytes_in rest (slice_index lengths index) → areas' ≡ areas ++ bytes ∷ [] → rest' ≡ drop (words_for_bytes (slice_index lengths index)) rest → AreCut words lengths rest' areas' (index + 1)
one_cut words lengths rest rest' areas areas' bytes index cut inside are pushed left =
    let count = slice_index lengths index in
    let tail = drop (suc index) lengths in
    let here : drop index lengths ≡ count ∷ tail = drop-cons lengths index 0 inside in
    let sum = ap byte_words here ∙ sum_by-cons words_for_bytes count tail in
    let long = ap (λ (ws : List ℕ). length ws) left ∙ length-drop (words_for_bytes count) rest in
    let next : index + 1 ≡ suc index = omega arith in
    subst (λ (n : ℕ). AreCut words lengths rest' areas' n) (sym next)
    record {
      so_far =
          ap (λ (all : List PackedBytes). map bytes_of all ++ areas_in rest' tail) pushed
          ∙ ap (λ (ws : List ℕ). map bytes_of (areas ++ bytes ∷ []) ++ areas_in ws tail) left
          ∙ mapped_more areas bytes (areas_in (drop (words_for_bytes count) rest) tail)
          ∙ ap (λ (one : List ℕ). map bytes_of areas ++ one ∷ areas_in (drop (words_for_bytes count) rest) tail) are
          ∙ ap (λ (ls : List ℕ). map bytes_of areas ++ areas_in rest ls) (sym here)
          ∙ cut.so_far;
      inside = omega (arith, sum, long, cut.inside);
      few = omega (arith, sum, cut.few);
    }

pub all_cut : (words lengths rest : List ℕ) (areas : List PackedBytes) (index : ℕ) → AreCut words lengths rest areas index → index ≡ length lengths → map bytes_of areas ≡ areas_in words lengths
all_cut words lengths rest areas index cut all =
    sym (append-nil (map bytes_of areas))
    ∙ ap (λ (ls : List ℕ). map bytes_of areas ++ areas_in rest ls) (sym (none_left lengths index all))
    ∙ cut.so_far
  where
    none_left : (lengths : List ℕ) (index : ℕ) → index ≡ length lengths → drop index lengths ≡ []
    none_left [] index all = ap (λ (n : ℕ). drop {A = ℕ} n []) all
    none_left (count ∷ lengths) zero all = absurd (omega arith)
    none_left (count ∷ lengths) (suc index) all = none_left lengths index (omega arith)

-- ---- one field behind others

-- the bytes of each field from one on stand in the words that are left
pub record IsBehind (words lengths rest : List ℕ) (index : ℕ) : Type 0 where
  pub behind : (k : ℕ) → area_of (areas_in words lengths) (index + k) ≡ area_of (areas_in rest (drop index lengths)) k
  pub inside : byte_words (drop index lengths) ≤ length rest
  pub few : byte_words (drop index lengths) < 2 ^ 58

pub none_behind : (words lengths : List ℕ) → byte_words lengths ≤ length words → byte_words lengths < 2 ^ 58 → IsBehind words lengths words 0
none_behind words lengths inside few = record { behind = λ k. ap (area_of (areas_in words lengths)) (omega arith); inside = inside; few = few }

pub room_behind : (words lengths rest : List ℕ) (index : ℕ) → IsBehind words lengths rest index → index < length lengths
    → (words_for_bytes (slice_index lengths index) ≤ length rest) × (words_for_bytes (slice_index lengths index) < 2 ^ 58)
room_behind words lengths rest index is inside =
    let count = slice_index lengths index in
    let sum = ap byte_words (drop-cons lengths index 0 inside) ∙ sum_by-cons words_for_bytes count (drop (suc index) lengths) in
    (omega (arith, sum, is.inside), omega (arith, sum, is.few))

pub one_behind : (words lengths rest rest' : List ℕ) (index : ℕ) → IsBehind words lengths rest index → index < length lengths → rest' ≡ drop (words_for_bytes (slice_index lengths index)) rest
    → IsBehind words lengths rest' (index + 1)
one_behind words lengths rest rest' index is inside left =
    let count = slice_index lengths index in
    let tail = drop (suc index) lengths in
    let here : drop index lengths ≡ count ∷ tail = drop-cons lengths index 0 inside in
    let sum = ap byte_words here ∙ sum_by-cons words_for_bytes count tail in
    let long = ap (λ (ws : List ℕ). length ws) left ∙ length-drop (words_for_bytes count) rest in
    let next : index + 1 ≡ suc index = omega arith in
    subst (λ (n : ℕ). IsBehind words lengths rest' n) (sym next)
    record {
      behind = λ k.
          (let later : suc index + k ≡ index + suc k = omega arith in
          ap (area_of (areas_in words lengths)) later
          ∙ is.behind (suc k)
          ∙ ap (λ (ls : List ℕ). area_of (areas_in rest ls) (suc k)) here
          ∙ ap (λ (ws : List ℕ). area_of (areas_in ws tail) k) (sym left));
      inside = omega (arith, sum, long, is.inside);
      few = omega (arith, sum, is.few);
    }

pub there_behind : (words lengths rest : List ℕ) (index : ℕ) (bytes : List ℕ) → IsBehind words lengths rest index → index < length lengths → bytes ≡ bytes_in rest (slice_index lengths index)
    → area_of (areas_in words lengths) index ≡ bytes
there_behind words lengths rest index bytes is inside are =
    let none : index ≡ index + 0 = omega arith in
    ap (area_of (areas_in words lengths)) none ∙ is.behind 0 ∙ ap (λ (ls : List ℕ). area_of (areas_in rest ls) 0) (drop-cons lengths index 0 inside) ∙ sym are
