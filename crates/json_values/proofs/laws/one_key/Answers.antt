use Rattle.json_values.proofs.KeyParts.{one_key}
use Rattle.json_values.proofs.laws.one_key.Goals as goal

pub returns : goal.returns
returns c = one_key
