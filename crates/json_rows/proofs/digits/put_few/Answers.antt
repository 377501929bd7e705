use Rattle.std.proofs.Common.{arith}
use Rattle.json_rows.proofs.Decimals.{few_put}
use Rattle.json_rows.proofs.digits.put_few.Goals as goal

pub returns : goal.returns
returns c = few_put c.args.number _ _ _ _ c.put_four-2.ensures.items c.put_tens.ensures.items c.put_tens-2.ensures.items (omega arith) (omega arith)
