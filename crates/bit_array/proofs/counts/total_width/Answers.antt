use Rattle.std.proofs.Common.{◌≡◌, ◌<◌, ◌^◌, length, rules, arith}
use Rattle.std.specs.Prelude.{sum}
use Rattle.bit_array.proofs.Totals.{sum_small}
use Rattle.bit_array.proofs.counts.total_width.Goals as goal

pub returns-clause-small : goal.returns-clause-small
returns-clause-small c =
    let total : c.sum.result ≡ sum c.args.widths.now = search rules in
    let long : length c.args.widths.now < 2 ^ 64 = omega (arith, c.iter.ensures.bound, c.iter.ensures.len) in
    let below : sum c.args.widths.now < 2 ^ 96 = sum_small c.args.widths.now long (λ i. (c.type_inv.widths i).fits) in omega (arith, total, below)
