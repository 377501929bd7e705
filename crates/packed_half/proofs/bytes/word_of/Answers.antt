use Rattle.std.proofs.Common.{◌≡◌, ℕ, List, ◌∙◌, ap}
use Rattle.std.specs.Array.{IsWholeChunk}
use Rattle.std.specs.Int.{from_le_bytes, w64}
use Rattle.packed_half.specs.Half.{packed_bytes}
use Rattle.packed_half.proofs.BytesPut.{whole_word}
use Rattle.packed_half.proofs.bytes.word_of.Goals as goal

-- eight bytes, taken as a whole, are one word
chunk_word : (bytes whole : List ℕ) (word : ℕ) → IsWholeChunk bytes whole 8 → word ≡ from_le_bytes w64 whole → word ≡ packed_bytes bytes
chunk_word bytes whole word chunk is = is ∙ ap (from_le_bytes w64) chunk.same ∙ whole_word bytes chunk.long

pub returns-in-Ok : goal.returns-in-Ok
returns-in-Ok c = chunk_word c.args.bytes.now c.in-Ok.whole c.from_le_bytes.result c.in-Ok.ensures.1 c.from_le_bytes.ensures
