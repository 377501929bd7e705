use Rattle.packed_half.proofs.BytesPut.{AreWordsOf}
use Rattle.packed_half.proofs.bytes.put_bytes.Given as goal

abbrev pub invariant-loop-index : goal.invariant-loop-index
invariant-loop-index l = AreWordsOf l.bytes l.words l.index
