use Rattle.record_copies.proofs.RecordBits.{empty_place}
use Rattle.record_copies.proofs.laws.no_bits_no_row.Goals as goal

pub returns : goal.returns
returns c = empty_place
