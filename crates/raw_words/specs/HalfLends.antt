-- A borrow of the words of a half: what is written through it stands there once it is over.
use Rattle.std.specs.Prelude.{ℕ, List, length}
use Rattle.std.specs.Borrow.{Lends, MutBor, Fml, Array, u64 as word}
use Rattle.std.specs.List.{refill}
use Rattle.raw_words.specs.contracts.half.Half.{the_row}

abbrev pub LendsWords : MutBor (List ℕ) → MutBor (List ℕ) → Fml
LendsWords half r = Lends the_row (Array word 0) half r (refill (length half.now) half.now)
