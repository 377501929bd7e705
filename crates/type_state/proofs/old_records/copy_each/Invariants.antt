use Rattle.std.proofs.Common.{◌≡◌, length}
use Rattle.type_state.proofs.OldPlaces.{CopiedUpTo}
use Rattle.type_state.proofs.old_records.copy_each.Given as goal

abbrev pub invariant-loop-place : goal.invariant-loop-place
invariant-loop-place l = record {
  copied : CopiedUpTo l.size l.from l.to l.ordinals l.place;
  long : length l.to ≡ length l.initial.to;
}
