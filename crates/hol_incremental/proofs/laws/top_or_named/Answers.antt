use Rattle.hol_incremental.proofs.AddedTops.{tops_added}
use Rattle.hol_incremental.proofs.laws.top_or_named.Goals as goal

pub returns : goal.returns
returns c = λ schemas previous before after records tops types agree fits adds. (tops_added schemas previous records before after tops types agree fits adds).held
