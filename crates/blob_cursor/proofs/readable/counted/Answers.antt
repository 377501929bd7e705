use Rattle.std.proofs.Common.{length, ap, rules, arith}
use Rattle.blob_cursor.proofs.Counting.{counts_more, counts_stops, counts_free, counts_done, counts_start}
use Rattle.blob_cursor.proofs.Runs.{one_longer}
use Rattle.blob_cursor.proofs.readable.counted.Goals as goal

pub returns-in_err-read-clause-reads : goal.returns-in_err-read-clause-reads
returns-in_err-read-clause-reads g c = counts_stops (omega arith) c.loop-item.invariant.0 c.in_err-read.ensures.reads (search rules)

pub returns-in_err-push-clause-reads : goal.returns-in_err-push-clause-reads
returns-in_err-push-clause-reads g c = counts_free _ c.loop-item.invariant.0 c.in_ok-read.ensures.reads (search rules)

pub loop-item-preserved : goal.loop-item-preserved
loop-item-preserved g c = (
  counts_more (omega arith) c.loop-item.invariant.0 c.in_ok-read.ensures.reads c.in_ok-push.ensures.ok,
  one_longer _ _ _ c.loop-item.invariant.1 c.in_ok-push.ensures.ok,
)

pub returns-clause-reads : goal.returns-clause-reads
returns-clause-reads g c = counts_done c.loop-item.invariant.0 (omega arith)

pub loop-item-init : goal.loop-item-init
loop-item-init g c = (counts_start c.args.count c.requires.over c.new-list.ensures, ap length c.new-list.ensures)
