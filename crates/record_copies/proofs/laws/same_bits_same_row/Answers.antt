use Rattle.record_copies.proofs.RecordBits.{row_moved, gap_row_moved}
use Rattle.record_copies.proofs.laws.same_bits_same_row.Goals as goal

pub returns-clause-row : goal.returns-clause-row
returns-clause-row c = row_moved

pub returns-clause-gap : goal.returns-clause-gap
returns-clause-gap c = gap_row_moved
