use Rattle.hol_incremental.proofs.NamedCounts.{named_where_counted}
use Rattle.hol_incremental.proofs.laws.named_where_counted.Goals as goal

pub returns : goal.returns
returns c = named_where_counted
