use Rattle.std.proofs.Common.{arith, ◌≡◌}
use Rattle.column_rows.proofs.SameRows.{same_buckets}
use Rattle.column_rows.proofs.same_items.are_buckets_same.Goals as goal

pub returns : goal.returns
returns c = λ done.
    let long : c.args.buckets.now.len ≡ c.args.others.now.len = omega arith in
    same_buckets c.args.buckets.now c.args.others.now long (λ k inside. c.loop-index.invariant k (omega (arith, inside)))
