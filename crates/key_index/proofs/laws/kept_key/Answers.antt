use Rattle.key_index.proofs.KeptKeys.{key_kept}
use Rattle.key_index.proofs.laws.kept_key.Goals as goal

pub returns : goal.returns
returns c = λ schemas old new t o paths old_table new_table old_closed new_closed one resolved was is. key_kept schemas old new old_closed new_closed one paths t o was is
