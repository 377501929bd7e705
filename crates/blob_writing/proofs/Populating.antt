-- A population of a rising list of ordinals up to a greatest one: there are bytes of it.
use Rattle.std.proofs.Common.{◌≡◌, ℕ, ◌*◌, ◌/◌, ◌%◌, ◌^◌, ◌<◌, ◌⊎◌, suc, zero, inl, inr, List, [], ◌∷◌, length, get_or, max, true, false, Option, Some, None, refl, sym, ap, ◌∙◌, subst, arith}
use Rattle.std.specs.Prelude.{All, Contains, replicate}
use Rattle.std.specs.Int.{bit_at}
use Rattle.std.specs.List.Sorted.{IsStrictlyIncreasing}
use Rattle.std.proofs.lemmas.Bool.{cases_lt}
use Rattle.std.proofs.lemmas.List.{get_or-replicate, get_or_past, length-set}
use Rattle.std.proofs.lemmas.List.Elements.{All-set, All-head, All-tail}
use Rattle.std.proofs.lemmas.Nat.{mod_below, or_lt, pow_pos}
use Rattle.std.proofs.lemmas.Nat.Bits.{bit_at-zero}
use Rattle.bit_array.specs.Element.{AreWords}
use Rattle.ordinal_set.specs.Ordinals.{with_ordinal}
use Rattle.ordinal_set.specs.Population.{AreUpTo, IsPopulation, has_bit, population_of, population_words, words_bytes}
use Rattle.ordinal_set.proofs.Members.{Contains-with_ordinal_cases, Contains-with_ordinal_itself, Contains-with_ordinal_kept, first_or_other, no_member, same_rising}
use Rattle.ordinal_set.proofs.Populations.{bit_from_member, clear_bit, population-words_with, rising-population, words_with}
use Rattle.blob_writing.proofs.SettingBlocks.{length-zeros, zero_words}

-- the words with the bits of these ordinals set
record HasMembers (old ordinals : List ℕ) : Type 0 where
  words : List ℕ
  are : AreWords words
  long : length words ≡ length old
  members : (m : ℕ) → Contains (population_of words) m → Contains (population_of old) m ⊎ Contains ordinals m
  kept : (m : ℕ) → Contains (population_of old) m → Contains (population_of words) m
  put : (m : ℕ) → Contains ordinals m → Contains (population_of words) m

put_all : (old ordinals : List ℕ) → AreWords old → All (λ o. o / 64 < length old) ordinals → HasMembers old ordinals
put_all old [] are inside = record {
  words = old;
  are = are;
  long = refl;
  members = λ m h. inl h;
  kept = λ m h. h;
  put = λ m h. absurd (no_member m h);
}
put_all old (o ∷ rest) are inside =
    let here = All-head (λ n. n / 64 < length old) o rest inside in
    let bit : 1 * 2 ^ (o % 64) % 2 ^ 64 < 2 ^ 64 = mod_below (1 * 2 ^ (o % 64)) (2 ^ 64) (pow_pos 64) in
    let one : AreWords (words_with old o) = All-set (λ word. word < 2 ^ 64) old (o / 64) _ (or_lt 64 (get_or old (o / 64) 0) (1 * 2 ^ (o % 64) % 2 ^ 64) (are (o / 64) 0 here) bit) are in
    let long : length (words_with old o) ≡ length old = length-set old (o / 64) _ in
    let set = population-words_with old o here in
    let later = subst (λ n. All (λ (m : ℕ). m / 64 < n) rest) (sym long) (All-tail (λ n. n / 64 < length old) o rest inside) in
    let all = put_all (words_with old o) rest one later in
    let with_o = λ (m : ℕ) (h : Contains (with_ordinal o (population_of old)) m). subst (λ (l : List ℕ). Contains l m) (sym set) h in
    record {
      words = all.words;
      are = all.are;
      long = all.long ∙ long;
      members = λ m h.
          elim (all.members m h) [
            | inl before ↦
                elim (Contains-with_ordinal_cases o (population_of old) m (subst (λ (l : List ℕ). Contains l m) set before)) [
                  | inl was ↦ inl was
                  | inr same ↦ inr (subst (Contains (o ∷ rest)) same (first o rest))
                ]
            | inr among ↦ inr (behind o rest m among)
          ];
      kept = λ m h. all.kept m (with_o m (Contains-with_ordinal_kept o (population_of old) m h));
      put = λ m h.
          elim (first_or_other o rest m h) [
            | inl same ↦ all.kept m (with_o m (subst (Contains (with_ordinal o (population_of old))) same (Contains-with_ordinal_itself o (population_of old))))
            | inr among ↦ all.put m among
          ];
    }
  where
    first : (x : ℕ) (xs : List ℕ) → Contains (x ∷ xs) x
    first x xs = (zero, omega arith, refl)

    behind : (x : ℕ) (xs : List ℕ) (n : ℕ) → Contains xs n → Contains (x ∷ xs) n
    behind x xs n (k, below, is) = (suc k, omega arith, is)

-- words of zeros have no member
zero_at : (count place : ℕ) → get_or (replicate {A = ℕ} count 0) place 0 ≡ 0
zero_at count place =
    elim (cases_lt place count) [
      | inl inside ↦ get_or-replicate count place 0 0 inside
      | inr past ↦ get_or_past (replicate count 0) place 0 (omega (arith, past, length-zeros count))
    ]

none_in_zeros : (count m : ℕ) → Contains (population_of (replicate count 0)) m → ⊥
none_in_zeros count m h =
    let one : has_bit (replicate count 0) m ≡ true = bit_from_member (replicate count 0) m h in
    let none : has_bit (replicate count 0) m ≡ false = clear_bit (replicate count 0) m (ap (λ (w : ℕ). bit_at w (m % 64)) (zero_at count (m / 64)) ∙ bit_at-zero (m % 64)) in
    let apart : true ≡ false = sym one ∙ none in
    absurd cc

up_to_words : (max : Option ℕ) (set : List ℕ) → AreUpTo max set → All (λ o. o / 64 < population_words max) set
up_to_words None set none = subst (All (λ o. o / 64 < population_words None)) (sym none) (λ k d inside. absurd (omega arith))
up_to_words (Some greatest) set all = λ k d inside. let le = all k d inside in omega arith

pub populated : (set : List ℕ) (max : Option ℕ) → IsStrictlyIncreasing set → AreUpTo max set → (bytes : List ℕ) × IsPopulation set max bytes
populated set max rising up_to =
    let count = population_words max in
    let zeros : List ℕ = replicate count 0 in
    let long : length zeros ≡ count = length-zeros count in
    let all = put_all zeros set (zero_words count) (subst (λ n. All (λ (m : ℕ). m / 64 < n) set) (sym long) (up_to_words max set up_to)) in (
      words_bytes all.words,
      record {
        words = all.words;
        many = all.long ∙ long;
        range = all.are;
        bits =
            same_rising (population_of all.words) set (rising-population all.words) rising
            (λ m h.
            elim (all.members m h) [
              | inl old ↦ absurd (none_in_zeros count m old)
              | inr among ↦ among
            ])
            all.put;
        is = refl;
      },
    )
