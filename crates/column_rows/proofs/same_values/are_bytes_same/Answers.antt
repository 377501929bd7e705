use Rattle.std.proofs.Common.{arith, ◌≡◌}
use Rattle.column_rows.proofs.SameRows.{same_bytes}
use Rattle.column_rows.proofs.same_values.are_bytes_same.Goals as goal

pub returns : goal.returns
returns c = λ done.
    let long : c.args.bytes.len ≡ c.args.others.len = omega arith in
    same_bytes c.args.bytes c.args.others long (λ k inside. c.loop-at.invariant k (omega (arith, inside)))
