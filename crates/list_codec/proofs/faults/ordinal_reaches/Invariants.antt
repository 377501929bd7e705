use Rattle.std.proofs.Common.{◌*◌, length}
use Rattle.list_codec.specs.Elements.{AreOrdinals, AreOrdinalReaches}
use Rattle.list_codec.proofs.faults.ordinal_reaches.Given as goal

abbrev pub invariant-loop-index : goal.invariant-loop-index
invariant-loop-index l = AreOrdinalReaches l.words l.width l.reaches.items × AreOrdinals l.words l.width (64 * length l.reaches.items) l.index
