-- Bytes that stand in words, eight in each.
use Rattle.std.specs.Prelude.{ℕ, ◌*◌, List, map}
use Rattle.std.specs.List.{range_with_len}
use Rattle.bit_array.specs.Element.{element_of}
use Rattle.object_codec.specs.declared.bytes.PackedBytes.{PackedBytes}

-- The bytes of words from one on, so many: each an element of 8 bits.
abbrev pub bytes_in : List ℕ → ℕ → ℕ → List ℕ
bytes_in words start len = map (λ index. element_of words (index * 8) 8) (range_with_len start len)

abbrev pub bytes_of : PackedBytes → List ℕ
bytes_of packed = bytes_in packed.words.now packed.start packed.len
