use Rattle.type_rows.proofs.SameBits as same
use Rattle.type_rows.proofs.spelled.same_bits.Goals as goal

pub returns : goal.returns
returns c = record { within = same.bits_within; joined = same.bits_joined }
