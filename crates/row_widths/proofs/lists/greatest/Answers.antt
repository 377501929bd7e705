use Rattle.std.proofs.Common.{◌≡◌, ◌+◌, max, get_or, drop, subst, sym, arith, rules}
use Rattle.list_codec.specs.Widths.{greatest}
use Rattle.row_widths.proofs.ListSpreads.{greatest_more, greatest_all}
use Rattle.row_widths.proofs.lists.greatest.Goals as goal

pub loop-number-preserved : goal.loop-number-preserved
loop-number-preserved c =
    let numbers = c.args.numbers.now in
    let i = c.loop-number.number-index in
    let seen : c.max-greatest.result ≡ max c.loop-number.greatest (get_or numbers i 0) = search rules in
    subst (λ n. max n (greatest (drop (i + 1) numbers)) ≡ greatest numbers) (sym seen) (greatest_more numbers i c.loop-number.greatest (omega arith) c.loop-number.invariant)

pub returns : goal.returns
returns c = greatest_all c.args.numbers.now c.loop-number.number-index c.loop-number.greatest (omega arith) c.loop-number.invariant
