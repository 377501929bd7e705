-- What is counted of the state that a change makes, as contracts see it.
use Rattle.hol_incremental.specs.declared.edits.NextTally.{NextTally}
use Rattle.hol_incremental.specs.EditKeys.{Coming}

-- the counts and the sums of the next state, and the sums of both
abbrev pub coming_of : NextTally → Coming
coming_of next = record { counts = next.tally.counts; sums = next.tally.sums.items; both = next.both.items }
