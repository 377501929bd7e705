use Rattle.std.proofs.Common.{◌∙◌, arith}
use Rattle.hol_incremental.proofs.FallenRows.{raised_more}
use Rattle.hol_incremental.proofs.counting.raise_all.Goals as goal

pub loop-row-preserved : goal.loop-row-preserved
loop-row-preserved c =
    let inv = c.loop-row.invariant in
    record {
      types = c.in_ok-raise.ensures.types ∙ inv.types;
      raised = raised_more c.args.named.now c.loop-row.row-index (0, 0) c.loop-row.counts c.raise.new.self c.args.counts.now c.loop-row-test.true inv.raised c.in_ok-raise.ensures.raised;
    }

pub raise-requires : goal.raise-requires
raise-requires c = (let low = c.requires c.loop-row.row-index (0, 0) c.loop-row-test.true in let long = c.loop-row.invariant.types in omega (arith, low, long))
