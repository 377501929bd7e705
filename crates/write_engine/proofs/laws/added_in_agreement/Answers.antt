use Rattle.write_engine.proofs.NextStates.{adds_agree, start_agree}
use Rattle.write_engine.proofs.laws.added_in_agreement.Goals as goal

pub returns-clause-tree : goal.returns-clause-tree
returns-clause-tree c = λ schemas previous before after t tree ordinal adds agree. adds_agree schemas previous tree t before after ordinal adds agree

pub returns-clause-start : goal.returns-clause-start
returns-clause-start c = start_agree
