use Rattle.packed_half.proofs.Looking.{well_formed}
use Rattle.packed_half.proofs.laws.half_is_well_formed.Goals as goal

pub returns : goal.returns
returns c = well_formed
