use Rattle.std.proofs.Common.{◌≡◌, ◌*◌, ap, ◌∙◌, arith, length}
use Rattle.ordinal_set.proofs.Counts.{all_counted, count_set, few_more, word_more}
use Rattle.ordinal_set.proofs.scan.count_set.Goals as goal

pub overflow_add-count : goal.overflow_add-count
overflow_add-count c =
    let few = few_more c.args.words.now c.loop-word.word-index (c.type_inv.words c.loop-word.word-index).fits in
    omega (arith, c.from-count.ensures, c.loop-word.invariant, few, c.requires, c.loop-word-test.true)

pub loop-word-preserved : goal.loop-word-preserved
loop-word-preserved c =
    let more = word_more c.args.words.now c.loop-word.word-index (c.type_inv.words c.loop-word.word-index).fits in omega (arith, c.from-count.ensures, c.loop-word.invariant, more)

pub returns : goal.returns
returns c =
    let whole : c.loop-word.word-index ≡ length c.args.words.now = omega (arith, c.loop-word-test.false, c.loop-word.auto.word-index-end) in
    c.loop-word.invariant ∙ ap (λ n. count_set c.args.words.now 0 (64 * n)) whole ∙ all_counted c.args.words.now
