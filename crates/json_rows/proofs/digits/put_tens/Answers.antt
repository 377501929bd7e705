use Rattle.std.proofs.Common.{arith}
use Rattle.json_rows.proofs.Decimals.{tens_put}
use Rattle.json_rows.proofs.digits.put_tens.Goals as goal

pub returns-clause-items : goal.returns-clause-items
returns-clause-items c = tens_put c.args.number _ _ _ _ _ c.push_reserved.ensures.items c.push_reserved-2.ensures.items (omega arith) (omega arith)
