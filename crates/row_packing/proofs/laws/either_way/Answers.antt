use Rattle.row_packing.proofs.EitherWay as either
use Rattle.row_packing.proofs.laws.either_way.Goals as goal

pub returns : goal.returns
returns c = record { chosen = either.chosen_back; suits_new = either.suits_new; suits_old = either.suits_old }
