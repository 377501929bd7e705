-- Word arrays of the blob format: how their 64-bit words hold elements of any width.
use Rattle.std.specs.Prelude.{◌≡◌, ℕ, ◌+◌, ◌*◌, ◌/◌, ◌%◌, ◌^◌, List, [], ◌∷◌, ◌<◌, All}

-- The words as one number, the first word its lowest 64 binary digits: the sum of words[k] * 2 ^ (64 * k).
unfoldable pub number_of : List ℕ → ℕ
number_of [] = 0
number_of (word ∷ rest) = number_of rest * 2 ^ 64 + word

-- The element of a width in bits that begins at a bit: those binary digits of the number, the lowest first.
unfoldable pub element_of : List ℕ → ℕ → ℕ → ℕ
element_of words at width = number_of words / 2 ^ at % 2 ^ width

-- The number changes in that block of its binary digits alone, and there to the value: what stood in the block is taken off, and the value put on.
abbrev pub SetsBlock : List ℕ → List ℕ → ℕ → ℕ → ℕ → Type 0
SetsBlock old new at width value = number_of new + element_of old at width * 2 ^ at ≡ number_of old + value * 2 ^ at

-- How many words so many bits take.
abbrev pub words_of : ℕ → ℕ
words_of bits = (bits + 63) / 64

-- Each number is one of 64 bits, as a word is.
abbrev pub AreWords : List ℕ → Type 0
AreWords words = All (λ word. word < 2 ^ 64) words
