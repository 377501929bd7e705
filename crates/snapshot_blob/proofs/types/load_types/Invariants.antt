use Rattle.std.proofs.Common.{◌≡◌, ◌++◌, length}
use Rattle.std.specs.List.{AllZip}
use Rattle.std.specs.Vec.Iter.{into_iter_items, into_iter_len}
use Rattle.snapshot_blob.specs.Stated.{IsLoadedFrom}
use Rattle.snapshot_blob.proofs.types.load_types.Given as goal

abbrev pub invariant-loop-part : goal.invariant-loop-part
invariant-loop-part l = record {
  parts : l.yielded ++ into_iter_items l.part-iterator ≡ into_iter_items l.initial.part-iterator;
  long : into_iter_len l.part-iterator ≡ length (into_iter_items l.part-iterator);
  loaded : AllZip IsLoadedFrom l.yielded l.states;
}
