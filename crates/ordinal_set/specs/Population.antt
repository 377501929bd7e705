-- The population of a blob's type: the live ordinals, by one bit each of a word array.
use Rattle.std.specs.Prelude.{◌≡◌, ℕ, ◌+◌, ◌*◌, ◌/◌, ◌%◌, ◌==◌, ◌-◌, ◌^◌, ◌<◌, ◌≤◌, Bool, true, List, [], ◌++◌, length, filter, map, flat_map, slice_index, max, Option, None, Some, All}
use Rattle.std.specs.Int.{bit_at, w32, w64, to_be_bytes}
use Rattle.std.specs.List.{range_with_len}

-- Whether an ordinal's bit is set: bit o mod 64, counted from the least, of word o div 64.
unfoldable pub has_bit : List ℕ → ℕ → Bool
has_bit words o = bit_at (slice_index words (o / 64)) (o % 64) == 1

-- The ordinals whose bits are set, rising.
unfoldable pub population_of : List ℕ → List ℕ
population_of words = filter (has_bit words) (range_with_len 0 (64 * length words))

-- The words reach no further than the ordinals do.
pub record FitOrdinals (words : List ℕ) : Type 0 where
  pub few : length words ≤ 2 ^ 26
  pub small : (ordinal : ℕ) → has_bit words ordinal ≡ true → ordinal < 2 ^ 32 - 1

-- No member is above the greatest number, and there is none where that is none.
abbrev pub AreUpTo : Option ℕ → List ℕ → Type 0
AreUpTo None set = set ≡ []
AreUpTo (Some greatest) set = All (λ o. o ≤ greatest) set

-- How many ordinals there are up to the greatest one.
abbrev pub count_up_to : Option ℕ → ℕ
count_up_to None = 0
count_up_to (Some greatest) = greatest + 1

-- How many words a population is written with: as many 16,384 bits as the ordinals need, and once as many at least.
abbrev pub population_words : Option ℕ → ℕ
population_words greatest = 256 * max 1 ((count_up_to greatest + 16383) / 16384)

-- The bytes of words behind their number: 4 bytes, and 8 for each word, the highest byte first.
abbrev pub words_bytes : List ℕ → List ℕ
words_bytes words = to_be_bytes w32 (length words) ++ flat_map (to_be_bytes w64) words

-- The first so many words, zeros where there are fewer.
abbrev pub first_words : List ℕ → ℕ → List ℕ
first_words words count = map (λ place. slice_index words place) (range_with_len 0 count)

-- The bytes are the population that is written for a set: those of so many words, whose bits are its members.
pub record IsPopulation (set : List ℕ) (greatest : Option ℕ) (bytes : List ℕ) : Type 0 where
  pub words : List ℕ
  pub many : length words ≡ population_words greatest
  pub range : All (λ word. word < 2 ^ 64) words
  pub bits : population_of words ≡ set
  pub is : bytes ≡ words_bytes words
