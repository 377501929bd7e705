use Rattle.hol_incremental.proofs.BlindAdds.{adds_beside}
use Rattle.hol_incremental.proofs.laws.added_alike.Goals as goal

pub returns : goal.returns
returns c = λ schemas previous before after other t tree ordinal same adds. adds_beside schemas previous tree t before after other ordinal same adds
