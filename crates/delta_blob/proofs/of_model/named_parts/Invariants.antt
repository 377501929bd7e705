use Rattle.std.proofs.Common.{◌≡◌, ◌++◌, length}
use Rattle.std.specs.Vec.Iter.{into_iter_items, into_iter_len}
use Rattle.delta_blob.specs.OfModel.{AreNamed}
use Rattle.delta_blob.proofs.of_model.named_parts.Given as goal

abbrev pub invariant-loop-part : goal.invariant-loop-part
invariant-loop-part l = record {
  parts : l.yielded ++ into_iter_items l.part-iterator ≡ into_iter_items l.initial.part-iterator;
  long : into_iter_len l.part-iterator ≡ length (into_iter_items l.part-iterator);
  named : AreNamed l.model l.yielded l.named;
}
