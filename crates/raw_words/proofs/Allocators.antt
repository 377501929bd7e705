-- The layout of a block of words, and the type argument of a function that is given an allocator.
use mathlib.Core.Path.{◌≡◌}
use Prim.Native.Nat.{ℕ, ◌*◌, ◌<◌, ◌^◌}
use mathlib.Core.List.{[], ◌∷◌}
use lib.Dec.{lit<}
use mir.Syntax.{Args, a_type, dcons, dnil}
use prog.Memory.{size, align, capped}
use prog.Capped.{capped_is}
use denote.Param.{bounded}
use Rattle.std.proofs.alloc.Calls.{Al}
use Rattle.raw_words.specs.Ownership.{word_block}

pub block_size : (n : ℕ) → n * 8 < 2 ^ 64 → capped (size (word_block n)) ≡ n * 8
block_size n fits = capped_is (n * 8) fits

pub block_align : (n : ℕ) → capped (align (word_block n)) ≡ 8
block_align n = capped_is 8 (lit< tt)

-- the type argument, with the tables of its bounds
abbrev pub args : Al → Args
args Z = bounded (a_type ∷ []) (Z.row, tt) (dcons Z.d (dcons Z.drops dnil))
