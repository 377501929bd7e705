use Rattle.std.proofs.Common.{arith}
use Rattle.json_rows.proofs.Decimals.{one_put, two_put}
use Rattle.json_rows.proofs.digits.put_two.Goals as goal

pub returns-then-number-lt10-clause-items : goal.returns-then-number-lt10-clause-items
returns-then-number-lt10-clause-items c = one_put c.args.number _ _ _ c.push_reserved.ensures.items (omega arith) (omega arith)

pub returns-clause-items : goal.returns-clause-items
returns-clause-items c = two_put c.args.number _ _ c.put_tens.ensures.items (omega arith) (omega arith)
