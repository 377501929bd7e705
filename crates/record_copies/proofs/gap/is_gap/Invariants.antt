use Rattle.record_copies.proofs.Gaps.{GapSoFar}
use Rattle.record_copies.proofs.gap.is_gap.Given as goal

abbrev pub invariant-loop-index : goal.invariant-loop-index
invariant-loop-index l = GapSoFar l.fields l.widths l.first l.place l.index l.before
