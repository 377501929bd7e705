use Rattle.std.proofs.Common.{◌≡◌, ◌+◌, ◌-◌, ◌*◌, ◌/◌, ◌%◌, subst, arith}
use Rattle.bit_array.specs.Element.{element_of, SetsBlock}
use Rattle.bit_array.proofs.Runs.{grown}
use Rattle.bit_array.proofs.copy.copy_block.Goals as goal

pub returns : goal.returns
returns c =
    let from = c.args.from.now in
    let at = c.args.at in
    let place = c.args.place in
    let len = c.args.len in
    let head = (64 - place % 64) % 64 in
    let words = (len - head) / 64 in
    let a = c.args.to.now in
    let b = c.copy_piece-2.new.to in
    let d = c.copy_words.new.to in
    let e = c.copy_piece-3.new.to in
    let first : 64 * ((place + head) / 64) ≡ place + head = omega arith in
    let aligned : SetsBlock b d (place + head) (64 * words) (element_of from (at + head) (64 * words)) =
    subst (λ p. SetsBlock b d p (64 * words) (element_of from (at + head) (64 * words))) first c.copy_words.ensures in
    let both = grown from a b d at place head (64 * words) c.copy_piece-2.ensures aligned in
    let whole : head + 64 * words + (len - (head + 64 * words)) ≡ len = omega arith in
    subst (λ n. SetsBlock a e place n (element_of from at n)) whole
    (grown from a d e at place (head + 64 * words) (len - (head + 64 * words)) both c.copy_piece-3.ensures)
