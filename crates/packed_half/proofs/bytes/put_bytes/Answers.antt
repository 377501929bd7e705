use Rattle.std.proofs.Common.{◌≡◌, ℕ, length, arith, subst}
use Rattle.packed_half.proofs.BytesPut.{AreWordsOf, bytes_put}
use Rattle.packed_half.proofs.bytes.put_bytes.Goals as goal

pub returns : goal.returns
returns c =
    let past = c.loop-index-test.false in
    let within = c.loop-index.auto.index-end in
    let same = c.loop-index.auto.words in
    let all : c.loop-index.index ≡ length c.loop-index.words = omega arith in
    bytes_put c.loop-index.words c.args.bytes.now (λ k. (c.type_inv.bytes k).fits) (omega (arith, same, c.requires)) (subst (λ (n : ℕ). AreWordsOf c.args.bytes.now c.loop-index.words n) all c.loop-index.invariant)
