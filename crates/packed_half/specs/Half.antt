-- A half of a type: where its places, its items and the bytes of its fields stand in its words, how many words these are, and the half seen as
-- a section of a blob.
use Rattle.std.specs.Prelude.{ℕ, ◌+◌, ◌*◌, ◌/◌, ◌%◌, ◌^◌, List, [], ◌∷◌, map, take, drop, slice_index}
use Rattle.std.specs.List.{range_with_len, sum_by}
use Rattle.bit_array.specs.Element.{words_of}
use Rattle.schema_model.specs.declared.schema.Shape.{Shape}
use Rattle.type_rows.specs.declared.section.Section.{Section}
use Rattle.type_rows.specs.Layout.{Layout, words_needed, item_bits}
use Rattle.packed_half.specs.declared.half.HalfShape.{HalfShape}

-- The layout of a half.
abbrev pub layout_in : HalfShape → Layout
layout_in half = record { max = half.max; widths = half.widths }

-- How many words the places take, and the items behind them: elements or buckets.
abbrev pub place_words : Shape → HalfShape → ℕ
place_words shape half = words_needed shape (layout_in half)

abbrev pub item_words : Shape → HalfShape → ℕ
item_words shape half = words_of (half.total * item_bits shape half.widths)

-- How many words so many bytes take, eight in a word.
abbrev pub words_for_bytes : ℕ → ℕ
words_for_bytes count = (count + 7) / 8

-- How many words the bytes of fields take, each field from a word of its own on.
abbrev pub byte_words : List ℕ → ℕ
byte_words lengths = sum_by words_for_bytes lengths

-- How many words a half takes: those of its places, those of its items, and those of the bytes of each field.
abbrev pub words_for : Shape → HalfShape → ℕ
words_for shape half = place_words shape half + item_words shape half + byte_words half.lengths

-- A byte that stands in words: the first byte is the lowest of the first word.
abbrev pub byte_in : List ℕ → ℕ → ℕ
byte_in words at = slice_index words (at / 8) / 2 ^ (8 * (at % 8)) % 2 ^ 8

-- The first bytes in words.
abbrev pub bytes_in : List ℕ → ℕ → List ℕ
bytes_in words count = map (byte_in words) (range_with_len 0 count)

-- The bytes of fields of these lengths, which stand one behind the other in words.
abbrev pub areas_in : List ℕ → List ℕ → List (List ℕ)
areas_in words [] = []
areas_in words (count ∷ rest) = bytes_in words count ∷ areas_in (drop (words_for_bytes count) words) rest

-- The words behind the places, and those behind the items.
abbrev pub behind_places : Shape → HalfShape → List ℕ → List ℕ
behind_places shape half words = drop (place_words shape half) words

abbrev pub behind_items : Shape → HalfShape → List ℕ → List ℕ
behind_items shape half words = drop (item_words shape half) (behind_places shape half words)

-- A half as a section of a blob: its places, its items and the bytes of its fields, cut out of its words.
abbrev pub section_in : Shape → HalfShape → List ℕ → Section
section_in shape half words =
    record {
      max = half.max;
      widths = half.widths;
      total = half.total;
      first = take (place_words shape half) words;
      second = take (item_words shape half) (behind_places shape half words);
      areas = areas_in (behind_items shape half words) half.lengths;
      live = half.live;
    }

-- The word of up to eight bytes: the first is the lowest.
unfoldable pub packed_bytes : List ℕ → ℕ
packed_bytes [] = 0
packed_bytes (byte ∷ rest) = packed_bytes rest * 2 ^ 8 + byte
