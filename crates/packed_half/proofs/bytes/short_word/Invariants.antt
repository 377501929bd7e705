use Rattle.packed_half.proofs.BytesPut.{IsWordSoFar}
use Rattle.packed_half.proofs.bytes.short_word.Given as goal

abbrev pub invariant-loop-step : goal.invariant-loop-step
invariant-loop-step l = IsWordSoFar l.bytes l.step l.word
