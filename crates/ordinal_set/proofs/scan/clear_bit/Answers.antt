use Rattle.std.proofs.Common.{◌≡◌, ◌/◌, ◌*◌, ◌%◌, ◌^◌, ◌-◌, ◌<◌, length, set, bit_and, subst, sym, arith}
use Rattle.std.specs.Prelude.{◌&&◌, not, ◌==◌}
use Rattle.std.proofs.lemmas.List.{get_or_read}
use Rattle.ordinal_set.specs.Population.{has_bit}
use Rattle.ordinal_set.proofs.Lacking.{bits_cleared, bits_past}
use Rattle.ordinal_set.proofs.scan.clear_bit.Goals as goal

pub returns-then-place-len-clause-bits : goal.returns-then-place-len-clause-bits
returns-then-place-len-clause-bits c =
    let words = c.args.words.now.items in
    let o = c.args.ordinal in
    let inside : o / 64 < length words = omega arith in
    let read = get_or_read words (o / 64) c.index_mut.result.now inside c.index_mut.ensures.value 0 in
    λ m.
    subst
    (λ word. has_bit (set words (o / 64) (bit_and word (2 ^ 64 - 1 - 1 * 2 ^ (o % 64) % 2 ^ 64))) m ≡ (has_bit words m && not (m == o)))
    (sym read)
    (bits_cleared words o inside m)

pub returns-else-place-len-clause-bits : goal.returns-else-place-len-clause-bits
returns-else-place-len-clause-bits c = bits_past c.args.words.now.items c.args.ordinal (omega arith)
