use Rattle.std.proofs.Common.{◌≡◌, ◌+◌}
use Rattle.row_model.specs.Table.{Table}
use Rattle.hol_incremental.specs.Counts.{size_of}
use Rattle.hol_incremental.specs.Drops.{AreUnnamed, IsDropping, IsHeld}
use Rattle.hol_incremental.specs.EditKeys.{AreTallied}
use Rattle.hol_incremental.proofs.drops.drop_all.Given as goal

abbrev pub invariant-loop-row : goal.invariant-loop-row
invariant-loop-row g l = record {
  kept : l.producer ≡ record l.initial.producer { current = l.producer.current };
  counts : AreTallied l.initial.producer.schemas l.producer.current l.tally.counts l.tally.sums.items;
  unnamed : AreUnnamed l.initial.producer.schemas l.producer.current l.pending.items;
  left : (start held : Table) → IsHeld l.initial.producer.schemas l.leaving start held → IsDropping l.initial.producer.schemas l.leaving start held l.initial.producer.current l.initial.pending.items
      → IsDropping l.initial.producer.schemas l.leaving start held l.producer.current l.pending.items;
  counted : l.steps + size_of l.initial.producer.schemas l.producer.current ≡ l.initial.steps + size_of l.initial.producer.schemas l.initial.producer.current;
}

abbrev pub decreases-loop-row : goal.decreases-loop-row
decreases-loop-row g l = size_of l.producer.schemas l.producer.current
