-- Elements of one width behind one another: there are words that have them, with no bit behind.
use Rattle.std.proofs.Common.{◌≡◌, ℕ, ◌+◌, ◌-◌, ◌*◌, ◌/◌, ◌%◌, ◌^◌, ◌<◌, ◌≤◌, List, length, get_or, sym, ap, ◌∙◌, subst, arith}
use Rattle.std.specs.Prelude.{All, replicate}
use Rattle.std.proofs.lemmas.List.{take_all}
use Rattle.std.proofs.lemmas.List.FromFn.{get_or-map-range_with_len}
use Rattle.std.proofs.lemmas.Nat.{mod-pow-add, pow_pos, same_from_place, shr-shr}
use Rattle.bit_array.specs.Element.{AreWords, element_of, number_of, words_of}
use Rattle.bit_array.proofs.Elements.{element_of-lt}
use Rattle.bit_array.proofs.ZeroWords.{number_zeros}
use Rattle.blob_writing.proofs.PackingLists.{elements_written}
use Rattle.blob_writing.proofs.SettingBlocks.{length-zeros, zero_words}

pub record HasLaid (width : ℕ) (elements : List ℕ) : Type 0 where
  pub words : List ℕ
  pub are : AreWords words
  pub long : length words ≡ words_of (length elements * width)
  pub below : number_of words < 2 ^ (length elements * width)
  pub at : (index : ℕ) → index < length elements → element_of words (index * width) width ≡ get_or elements index 0

pub laid : (width : ℕ) (elements : List ℕ) → All (λ element. element < 2 ^ width) elements → HasLaid width elements
laid width elements small =
    let count : ℕ = length elements in
    let zeros : List ℕ = replicate (words_of (count * width)) 0 in
    let long : length zeros ≡ words_of (count * width) = length-zeros (words_of (count * width)) in
    let same : (0 + count) * width ≡ count * width = omega arith in
    let held : (0 + count) * width ≤ 64 * length zeros = omega (arith, long) in
    let written = elements_written zeros width 0 elements count (zero_words (words_of (count * width))) held small (omega arith) in
    let none : number_of zeros < 2 ^ (0 * width) = subst (λ n. n < 2 ^ (0 * width)) (sym (number_zeros (words_of (count * width)))) (pow_pos (0 * width)) in
    record {
      words = written.words;
      are = written.are;
      long = written.written.long ∙ long;
      below = subst (λ n. number_of written.words < 2 ^ n) same (written.written.bits none);
      at = λ index inside.
          let element = λ (k : ℕ). element_of written.words (k * width) width in
          let from : 0 + index ≡ index = omega arith in
          sym (get_or-map-range_with_len element 0 (0 + count - 0) index index 0 (omega arith) from)
          ∙ ap (λ (es : List ℕ). get_or es index 0) (written.written.are ∙ take_all count elements (omega arith));
    }

-- ---- an element in two parts

element_of_both : (words : List ℕ) (at low high : ℕ) → element_of words at (low + high) ≡ element_of words (at + low) high * 2 ^ low + element_of words at low
unfolding element_of
element_of_both words at low high =
    let turned : low + high ≡ high + low = omega arith in
    ap (λ k. number_of words / 2 ^ at % 2 ^ k) turned
    ∙ mod-pow-add (number_of words / 2 ^ at) high low
    ∙ ap (λ k. k % 2 ^ high * 2 ^ low + number_of words / 2 ^ at % 2 ^ low) (shr-shr (number_of words) at low)

pub parts_of_element : (words : List ℕ) (at low_width high_width low high : ℕ) → low < 2 ^ low_width → element_of words at (low_width + high_width) ≡ high * 2 ^ low_width + low
    → (element_of words (at + low_width) high_width ≡ high) × (element_of words at low_width ≡ low)
parts_of_element words at low_width high_width low high small is =
    same_from_place (element_of words (at + low_width) high_width) (element_of words at low_width) high low (2 ^ low_width) (element_of-lt words at low_width) small
    (sym (element_of_both words at low_width high_width) ∙ is)
