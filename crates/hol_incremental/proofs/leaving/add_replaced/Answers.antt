use Rattle.hol_incremental.proofs.LeaveEntries.{leave_tree, taken_trees}
use Rattle.hol_incremental.proofs.leaving.add_replaced.Goals as goal

pub loop-entry-preserved : goal.loop-entry-preserved
loop-entry-preserved c =
    leave_tree c.args.keys.now c.args.puts.now c.args.tops.now c.loop-entry.entry-index c.entry-item.result c.args.leaving.now c.loop-entry.leaving c.add_of_record.new.leaving c.loop-entry-test.true c.entry-item.is c.loop-entry.invariant
    c.in_ok-add_of_record.ensures

pub returns : goal.returns
returns c = taken_trees c.args.keys.now c.args.puts.now c.args.tops.now c.loop-entry.entry-index c.args.leaving.now c.loop-entry.leaving c.loop-entry-test.false c.loop-entry.invariant
