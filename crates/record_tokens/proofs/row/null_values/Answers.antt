use Rattle.std.proofs.Common.{◌≡◌, ◌∙◌, ◌+◌, ◌++◌, ◌∷◌, [], length, replicate, ap, arith}
use Rattle.std.proofs.lemmas.List.{length-replicate, replicate_more}
use Rattle.row_model.specs.declared.row.Value.{Value}
use Rattle.record_tokens.proofs.row.null_values.Goals as goal

pub filling-preserved : goal.filling-preserved
filling-preserved c =
    let n = c.filling.invariant.0 in
    let so_far = c.filling.invariant.1 in
    let long = ap length so_far ∙ length-replicate n Value.Null in
    (n + 1, c.in_ok-push.ensures.items ∙ ap (λ vs. vs ++ Value.Null ∷ []) so_far ∙ replicate_more n Value.Null, omega (arith, long, c.filling-test.true))

pub returns : goal.returns
returns c =
    let n = c.filling.invariant.0 in
    let so_far = c.filling.invariant.1 in
    let long = ap length so_far ∙ length-replicate n Value.Null in
    let all : n ≡ c.args.count = omega (arith, long, c.filling.invariant.2, c.filling-test.false) in
    so_far ∙ ap (λ k. replicate k Value.Null) all
