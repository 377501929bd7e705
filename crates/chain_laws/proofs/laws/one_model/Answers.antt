use Rattle.serde_json.specs.View.{view}
use Rattle.chain_laws.proofs.OneModel.{one_model}
use Rattle.chain_laws.proofs.laws.one_model.Goals as goal

pub returns : goal.returns
returns c = λ machine next after schemas answer other one also. one_model machine (view schemas) answer other next after one also
