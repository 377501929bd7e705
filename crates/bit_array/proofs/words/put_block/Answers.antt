use Rattle.std.proofs.Common.{◌≡◌, ◌+◌, ◌-◌, ◌*◌, ◌/◌, ◌%◌, ◌^◌, ◌<◌, subst, sym, arith}
use Rattle.std.proofs.lemmas.Nat.{shr_below, shr_split, mod_below, pow_pos}
use Rattle.bit_array.specs.Element.{SetsBlock}
use Rattle.bit_array.proofs.Blocks.{no_block, both_blocks}
use Rattle.bit_array.proofs.words.put_block.Goals as goal

pub returns-then-width-eq0 : goal.returns-then-width-eq0
returns-then-width-eq0 c =
    let none : c.args.width ≡ 0 = omega arith in
    subst (λ w. SetsBlock c.args.words.now c.args.words.now c.args.at w c.args.value) (sym none)
    (no_block c.args.words.now c.args.at c.args.value (subst (λ w. c.args.value < 2 ^ w) none c.requires.small))

pub put_in_word-requires-3-clause-small : goal.put_in_word-requires-3-clause-small
put_in_word-requires-3-clause-small c =
    let room = 64 - c.args.at % 64 in
    let split : c.args.width ≡ (c.args.width - room) + room = omega arith in
    shr_below c.args.value (c.args.width - room) room (subst (λ w. c.args.value < 2 ^ w) split c.requires.small)

pub returns : goal.returns
returns c =
    let words = c.args.words.now in
    let middle = c.put_in_word-2.new.words in
    let new = c.put_in_word-3.new.words in
    let at = c.args.at in
    let room = 64 - at % 64 in
    let value = c.args.value in
    let here : 64 * (at / 64) + at % 64 ≡ at = omega arith in
    let next : 64 * (at / 64 + 1) + 0 ≡ at + room = omega arith in
    let first : SetsBlock words middle at room (value % 2 ^ room) =
    subst (λ k. SetsBlock words middle k room (value % 2 ^ room)) here
    (subst (λ v. SetsBlock words middle (64 * (at / 64) + at % 64) room v) c.low_bits.ensures c.put_in_word-2.ensures) in
    let second : SetsBlock middle new (at + room) (c.args.width - room) (value / 2 ^ room) =
    subst (λ k. SetsBlock middle new k (c.args.width - room) (value / 2 ^ room)) next c.put_in_word-3.ensures in
    let both = both_blocks words middle new at room (c.args.width - room) (value % 2 ^ room) (value / 2 ^ room) (mod_below value (2 ^ room) (pow_pos room)) first second in
    let width : room + (c.args.width - room) ≡ c.args.width = omega arith in
    subst (λ w. SetsBlock words new at w value) width (subst (λ v. SetsBlock words new at (room + (c.args.width - room)) v) (shr_split value room) both)
