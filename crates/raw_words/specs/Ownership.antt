-- What a block owns, and what a borrow of it shares.
use Rattle.std.specs.Prelude.{ℕ, ◌*◌, List, length}
use Rattle.std.specs.Borrow.{full_share, Fml, Array, u64 as word}
use Rattle.std.specs.Ptr.{Ptr, lies_at}
use mir.Syntax.{Ty, ty_int, ty_array, w64}
use base.Fml.{Lft, fsep}
use denote.RawPtr.{room_for, ◌+ₚ◌}
use denote.Struct.Lending.{lent_at}

-- a block of so many words, as it is asked for and given back
abbrev pub word_block : ℕ → Ty
word_block n = ty_array (ty_int w64) n

-- the words lie at p, and behind them is room for so many more
abbrev pub owns_words : Ptr → List ℕ → ℕ → Fml
owns_words p words room = fsep (lies_at (Array word (length words)) full_share p words) (room_for (word_block room) (p +ₚ length words * 8))

-- the words lie at p for the lifetime
abbrev pub shares_words : Ptr → List ℕ → Lft → Fml
shares_words p words = lent_at (Array word (length words)) p words
