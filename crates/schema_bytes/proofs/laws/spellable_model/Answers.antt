use Rattle.schema_bytes.proofs.Spellable.{model_is_spellable}
use Rattle.schema_bytes.proofs.laws.spellable_model.Goals as goal

pub returns : goal.returns
returns c = model_is_spellable
