-- A `&` to a block shares its words, and not the room behind them. Assumes `Logic`.
use Prim.Native.Nat.{◌*◌}
use lib.ListN.{length}
use base.Fraction.{full_share}
use denote.Array.{Array, Array-row_laws}
use denote.Builtin.{u64}
use denote.Param.Shared.{copy_shared}
use denote.RawPtr.{lies_at, room_for, ◌+ₚ◌}
use denote.Shares.{Shares-Array}
use denote.Struct.Field.{RawPtr-field, u64-field}
use denote.Struct.Laws.{RawPtr-copy, u64-copy}
use denote.Struct.Lending.{lent_at, lent_at_shr_laws, Lends-lies, Lends-first, of_Lends}
use Rattle.raw_words.specs.Ownership.{word_block}
use Rattle.raw_words.specs.contracts.block.Block as C
use Rattle.raw_words.proofs.block.Block.TheLaw.Statement.{statement}

pub shares : statement
shares = of_Lends C.struct C.the_codes C.the_heap C.the_lent
    (λ d p. lent_at_shr_laws (Array u64 (length d.words)) (Array-row_laws u64 (copy_shared u64-field u64-copy).shr_laws (length d.words)) d.first d.words)
    (copy_shared RawPtr-field RawPtr-copy, tt)
    (λ M 𝓤 𝓛 d p.
    Lends-first 𝓛 (lies_at (Array u64 (length d.words)) full_share d.first d.words) (room_for (word_block d.room) (d.first +ₚ length d.words * 8)) (lent_at (Array u64 (length d.words)) d.first d.words) C.the_row.lives
    (Lends-lies 𝓛 (Array u64 (length d.words)) C.the_row.lives d.first d.words (Shares-Array 𝓛 u64 tt (length d.words) C.the_row.lives ((copy_shared u64-field u64-copy).shares M 𝓤 𝓛) d.words)))
