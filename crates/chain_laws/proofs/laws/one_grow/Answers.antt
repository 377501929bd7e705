use Rattle.serde_json.specs.View.{view}
use Rattle.chain_laws.proofs.OneGrow.{one_grow}
use Rattle.chain_laws.proofs.laws.one_grow.Goals as goal

pub returns : goal.returns
returns c = λ machine next after schemas answer other one also. one_grow machine (view schemas) answer other next after one also
