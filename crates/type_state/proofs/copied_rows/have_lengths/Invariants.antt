use Rattle.type_state.proofs.CopiedRows.{HaveLengths}
use Rattle.type_state.proofs.copied_rows.have_lengths.Given as goal

abbrev pub invariant-loop-field : goal.invariant-loop-field
invariant-loop-field l = HaveLengths l.areas l.lengths l.field
