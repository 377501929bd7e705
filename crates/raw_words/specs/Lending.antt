-- A borrow of the other half: what is written through it stands there once it is over.
use Rattle.std.specs.Prelude.{ℕ, List}
use Rattle.std.specs.Borrow.{Lends, MutBor, Fml, Array, u64 as word}
use Rattle.raw_words.specs.Twin.{Twin, rewritten}
use Rattle.raw_words.specs.contracts.TwinWords.{the_row}

abbrev pub LendsOther : MutBor Twin → MutBor (List ℕ) → Fml
LendsOther t r = Lends the_row (Array word 0) t r (rewritten t.now)
