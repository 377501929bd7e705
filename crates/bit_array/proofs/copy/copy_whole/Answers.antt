use Rattle.std.proofs.Common.{◌≡◌, ◌+◌, ◌-◌, ◌*◌, ◌++◌, ◌∙◌, ℕ, take, drop, ap, subst, rules, arith}
use Rattle.bit_array.specs.Element.{element_of, SetsBlock}
use Rattle.bit_array.proofs.WordRuns.{words_put}
use Rattle.bit_array.proofs.copy.copy_whole.Goals as goal

pub returns : goal.returns
returns c =
    let from = c.args.from.now in
    let to = c.args.to.now in
    let many : c.args.base + c.args.count - c.args.base ≡ c.args.count = omega arith in
    let as_many : c.args.count ≡ c.args.first + c.args.count - c.args.first = omega arith in
    let part : c.copy_from_slice.new.self ≡ take c.args.count (drop c.args.base from) = c.copy_from_slice.ensures.after ∙ ap (λ (n : ℕ). take n (drop c.args.base from)) many in
    subst (λ (n : ℕ). SetsBlock to (take c.args.first to ++ (c.copy_from_slice.new.self ++ drop n (drop c.args.first to))) (64 * c.args.first) (64 * c.args.count) (element_of from (64 * c.args.base) (64 * c.args.count))) as_many
    (words_put to from c.copy_from_slice.new.self c.args.first c.args.base c.args.count (search rules) c.type_inv.from c.requires.inside c.requires.source part)
