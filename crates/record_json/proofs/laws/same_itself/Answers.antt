use Rattle.record_json.proofs.SameItself.{same_itself}
use Rattle.record_json.proofs.laws.same_itself.Goals as goal

pub returns : goal.returns
returns c = same_itself
