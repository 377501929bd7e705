use Rattle.std.proofs.Common.{◌≡◌, ℕ, arith, subst}
use Rattle.type_state.proofs.FieldBytes.{IsBehind, one_behind, there_behind}
use Rattle.type_state.proofs.field_bytes.bytes_of_field.Goals as goal

pub loop-before-preserved : goal.loop-before-preserved
loop-before-preserved c = one_behind c.args.words.now c.args.lengths.now c.loop-before.rest.now c.behind-rest.result.now c.loop-before.before c.loop-before.invariant (omega (arith, c.requires.there)) c.behind-rest.ensures

pub returns : goal.returns
returns c =
    let all : c.loop-before.before ≡ c.args.index = omega arith in
    there_behind c.args.words.now c.args.lengths.now c.loop-before.rest.now c.args.index _ (subst (λ (n : ℕ). IsBehind c.args.words.now c.args.lengths.now c.loop-before.rest.now n) all c.loop-before.invariant) c.requires.there c.first_bytes.ensures
