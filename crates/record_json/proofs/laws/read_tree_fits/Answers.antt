use Rattle.record_json.proofs.Fitting.{within_fits}
use Rattle.record_json.proofs.laws.read_tree_fits.Goals as goal

pub returns : goal.returns
returns c = λ schemas t value tree model is. within_fits schemas model 32 t value tree is
