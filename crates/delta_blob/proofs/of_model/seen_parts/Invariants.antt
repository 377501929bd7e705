use Rattle.std.proofs.Common.{◌≡◌, ◌++◌, length}
use Rattle.std.specs.List.{AllZip}
use Rattle.std.specs.Vec.Iter.{into_iter_items, into_iter_len}
use Rattle.delta_blob.specs.Meant.{IsSeenPart}
use Rattle.delta_blob.proofs.of_model.seen_parts.Given as goal

abbrev pub invariant-loop-named : goal.invariant-loop-named
invariant-loop-named l = record {
  parts : l.yielded ++ into_iter_items l.named-iterator ≡ into_iter_items l.initial.named-iterator;
  long : into_iter_len l.named-iterator ≡ length (into_iter_items l.named-iterator);
  seen : AllZip (IsSeenPart l.model) l.yielded l.seen;
}
