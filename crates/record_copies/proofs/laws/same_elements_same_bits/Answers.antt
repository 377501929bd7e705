use Rattle.record_copies.proofs.RecordBits.{same_record}
use Rattle.record_copies.proofs.laws.same_elements_same_bits.Goals as goal

pub returns : goal.returns
returns c = same_record
