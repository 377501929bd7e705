-- Lemmas on the bytes that a population is written with.
use Rattle.std.proofs.Common.{◌≡◌, ℕ, ◌+◌, ◌*◌, ◌/◌, ◌^◌, ◌<◌, ◌≤◌, List, [], ◌∷◌, ◌++◌, Option, Some, None, length, get_or, refl, sym, ap, ◌∙◌, subst, inl, inr, arith, Fits, w64, append_assoc, append-nil}
use Rattle.std.specs.Prelude.{Result, Ok, Err, OnOk, All, Contains, flat_map}
use Rattle.std.specs.Int.{w32, to_be_bytes}
use Rattle.std.proofs.lemmas.Bool.{cases_lt}
use Rattle.std.proofs.lemmas.List.Concat.{flat_map-append}
use Rattle.std.proofs.lemmas.List.Elements.{All-contains, All-from_get_or}
use Rattle.std.proofs.lemmas.List.FromFn.{length-map-range_with_len, get_or-map-range_with_len, map-range_with_len_more}
use Rattle.ordinal_set.specs.Population.{population_of, AreUpTo, count_up_to, population_words, first_words, words_bytes, IsPopulation}
use Rattle.ordinal_set.proofs.Members.{same_rising, no_member}
use Rattle.ordinal_set.proofs.Populations.{rising-population, same_bit, bit_past, bit_from_member, member_from_bit}

first_read : (words : List ℕ) (count place : ℕ) → place < count → get_or (first_words words count) place 0 ≡ get_or words place 0
first_read words count place within = get_or-map-range_with_len (λ k. get_or words k 0) 0 count place place 0 within (omega arith)

first_long : (words : List ℕ) (count : ℕ) → length (first_words words count) ≡ count
first_long words count = length-map-range_with_len (λ k. get_or words k 0) 0 count

up_to : (greatest : Option ℕ) (set : List ℕ) (o : ℕ) → AreUpTo greatest set → Contains set o → o < count_up_to greatest
up_to None set o none h = absurd (no_member o (subst (λ ms. Contains ms o) none h))
up_to (Some greatest) set o within h = let below = All-contains (λ m. m ≤ greatest) set o within h in omega arith

-- the words that a population is written with reach to the greatest ordinal
reach : (greatest : Option ℕ) → count_up_to greatest ≤ 64 * population_words greatest
reach greatest = omega arith

bits_kept : (words : List ℕ) (greatest : Option ℕ) → AreUpTo greatest (population_of words) → population_of (first_words words (population_words greatest)) ≡ population_of words
bits_kept words greatest within =
    let count = population_words greatest in
    let first = first_words words count in
    let same = λ (o : ℕ) (inside : o / 64 < count). same_bit first words o (first_read words count (o / 64) inside) in
    same_rising (population_of first) (population_of words) (rising-population first) (rising-population words)
    (λ o h.
    elim (cases_lt (o / 64) count) [
      | inl inside ↦ member_from_bit words o (sym (same o inside) ∙ bit_from_member first o h)
      | inr past ↦
          let one = bit_from_member first o h in
          let none = bit_past first o (omega (arith, first_long words count)) in
          absurd cc
    ])
    (λ o h.
    let below = up_to greatest (population_of words) o within h in
    let inside : o / 64 < count = omega (arith, reach greatest) in
    member_from_bit first o (same o inside ∙ bit_from_member words o h))

pub first_fit : (words : List ℕ) (count : ℕ) → ((k : ℕ) → Fits w64 (get_or words k 0)) → All (λ word. word < 2 ^ 64) (first_words words count)
first_fit words count fits =
    All-from_get_or (λ word. word < 2 ^ 64) (first_words words count) 0 (λ k inside. rw (first_read words count k (omega (arith, first_long words count))) (fits k).fits)

pub population_written : (words : List ℕ) (set : List ℕ) (greatest : Option ℕ) (count : ℕ) → All (λ word. word < 2 ^ 64) (first_words words count) → population_of words ≡ set
    → AreUpTo greatest set → count ≡ population_words greatest → IsPopulation set greatest (words_bytes (first_words words count))
population_written words set greatest count range is within many = record {
  words = first_words words count;
  many = first_long words count ∙ many;
  range = range;
  bits =
      ap (λ n. population_of (first_words words n)) many
      ∙ bits_kept words greatest (subst (AreUpTo greatest) (sym is) within)
      ∙ is;
  is = refl;
}

-- what follows where a call succeeded
pub on_ok : {T E P Q : Type 0} (result : Result T E) → (P → Q) → OnOk result P → OnOk result Q
on_ok (Ok value) then h = then h
on_ok (Err fault) then h = h

-- the words below a place are written
abbrev pub WordsSoFar : List ℕ → List ℕ → List ℕ → ℕ → ℕ → Type 0
WordsSoFar start out words count place = out ≡ start ++ (to_be_bytes w32 count ++ flat_map (to_be_bytes w64) (first_words words place))

pub words_more : (start out out' words bytes : List ℕ) (count place word : ℕ) → WordsSoFar start out words count place → word ≡ get_or words place 0 → bytes ≡ to_be_bytes w64 word → out' ≡ out ++ bytes
    → WordsSoFar start out' words count (place + 1)
words_more start out out' words bytes count place word done is_word is_bytes is =
    let head = to_be_bytes w32 count in
    let before = flat_map (to_be_bytes w64) (first_words words place) in
    let last = to_be_bytes w64 (get_or words place 0) in
    let more : flat_map (to_be_bytes w64) (first_words words (place + 1)) ≡ before ++ last =
    ap (flat_map (to_be_bytes w64)) (map-range_with_len_more (λ k. get_or words k 0) 0 place place (omega arith))
    ∙ flat_map-append (to_be_bytes w64) (first_words words place) (get_or words place 0 ∷ [])
    ∙ ap (λ (bs : List ℕ). before ++ bs) (append-nil last) in
    is ∙ ap (λ (bs : List ℕ). bs ++ bytes) done ∙ ap (λ (bs : List ℕ). (start ++ (head ++ before)) ++ bs) (is_bytes ∙ ap (to_be_bytes w64) is_word)
    ∙ append_assoc start (head ++ before) last ∙ ap (λ (bs : List ℕ). start ++ bs) (append_assoc head before last ∙ ap (λ (bs : List ℕ). head ++ bs) (sym more))

pub words_none : (start out words bytes : List ℕ) (count : ℕ) → bytes ≡ to_be_bytes w32 count → out ≡ start ++ bytes → WordsSoFar start out words count 0
words_none start out words bytes count is_bytes is =
    is ∙ ap (λ (bs : List ℕ). start ++ bs) (is_bytes ∙ sym (append-nil (to_be_bytes w32 count)))

pub words_all : (start out words : List ℕ) (count : ℕ) → WordsSoFar start out words count count → out ≡ start ++ words_bytes (first_words words count)
words_all start out words count done =
    done ∙ ap (λ n. start ++ (to_be_bytes w32 n ++ flat_map (to_be_bytes w64) (first_words words count))) (sym (first_long words count))
