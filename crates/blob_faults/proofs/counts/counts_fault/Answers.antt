use Rattle.std.proofs.Common.{rules}
use Rattle.blob_faults.proofs.Counted.{counts_pass, items_fail, places_fail}
use Rattle.blob_faults.proofs.counts.counts_fault.Goals as goal

pub returns-then-is_some_and : goal.returns-then-is_some_and
returns-then-is_some_and c = places_fail c.args.max c.args.total (search rules)

pub returns-then-total-gt-MAX_ITEMS : goal.returns-then-total-gt-MAX_ITEMS
returns-then-total-gt-MAX_ITEMS c = items_fail c.args.max c.args.total (search rules) c.if-total-gt-MAX_ITEMS.true

pub returns : goal.returns
returns c = counts_pass c.args.max c.args.total (search rules) c.if-total-gt-MAX_ITEMS.false
