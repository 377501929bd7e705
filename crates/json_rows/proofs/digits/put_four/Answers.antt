use Rattle.std.proofs.Common.{arith}
use Rattle.json_rows.proofs.Decimals.{four_put}
use Rattle.json_rows.proofs.digits.put_four.Goals as goal

pub returns-clause-items : goal.returns-clause-items
returns-clause-items c = four_put c.args.number _ _ _ c.put_two-2.ensures.items c.put_tens.ensures.items (omega arith) (omega arith)
