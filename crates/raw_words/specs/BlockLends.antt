-- A borrow of the first words of a block: what is written through it stands there once it is over.
use Rattle.std.specs.Prelude.{ℕ, List, ◌++◌, take, drop}
use Rattle.std.specs.Borrow.{Lends, MutBor, Fml, Array, u64 as word}
use Rattle.std.specs.List.{refill}
use Rattle.raw_words.specs.declared.block.Block.{Block}
use Rattle.raw_words.specs.contracts.block.Block.{the_row}

-- the block with these words in its first places. A slice keeps its length, so a list of another length is cut, or
-- filled up from what stood there
abbrev pub with_front : Block → ℕ → List ℕ → Block
with_front block count words =
    record { first = block.first; words = refill count (take count block.words) words ++ drop count block.words; room = block.room }

abbrev pub LendsFront : MutBor Block → ℕ → MutBor (List ℕ) → Fml
LendsFront block count r = Lends the_row (Array word 0) block r (with_front block.now count)
