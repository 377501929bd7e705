use Rattle.std.proofs.Common.{arith}
use Rattle.ordinal_set.proofs.GapRuns.{next_above, written_more, written_all, gaps_of}
use Rattle.ordinal_set.proofs.gaps.push_gaps.Goals as goal

pub overflow_sub-number : goal.overflow_sub-number
overflow_sub-number c = next_above c.args.out.now.items c.loop-number.out.items c.args.list.now c.loop-number.before c.loop-number.number-index (omega arith) c.loop-number.invariant

pub returns-in_err-put_vint-clause-gaps : goal.returns-in_err-put_vint-clause-gaps
returns-in_err-put_vint-clause-gaps c = gaps_of c.args.list.now c.requires c.type_inv.list

pub loop-number-preserved : goal.loop-number-preserved
loop-number-preserved c =
    written_more c.args.out.now.items c.loop-number.out.items c.put_vint.new.out.items c.args.list.now c.loop-number.before c.loop-number.number-index
    (omega arith) c.loop-number.invariant c.in_ok-put_vint.ensures.ok

pub returns-clause-ok : goal.returns-clause-ok
returns-clause-ok c =
    written_all c.args.out.now.items c.loop-number.out.items c.args.list.now c.loop-number.before c.loop-number.number-index (omega arith) c.loop-number.invariant

pub returns-clause-gaps : goal.returns-clause-gaps
returns-clause-gaps c = gaps_of c.args.list.now c.requires c.type_inv.list
