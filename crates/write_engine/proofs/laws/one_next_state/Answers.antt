use Rattle.write_engine.proofs.OneState.{adds_once, next_is_one}
use Rattle.write_engine.proofs.laws.one_next_state.Goals as goal

pub returns-clause-tree : goal.returns-clause-tree
returns-clause-tree c = λ schemas previous before after other t tree ordinal another agree adds adds'. adds_once schemas previous tree t before after other ordinal another agree adds adds'

pub returns-clause-state : goal.returns-clause-state
returns-clause-state c = next_is_one
