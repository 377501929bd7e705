use Rattle.seen_rows.proofs.ViewOnce.{grown_there, view_once}
use Rattle.seen_rows.proofs.laws.seen_once.Goals as goal

pub returns-clause-there : goal.returns-clause-there
returns-clause-there c = λ own grown table model grown_model. grown_there own grown table model

pub returns-clause-once : goal.returns-clause-once
returns-clause-once c = λ own grown table model grown_model. view_once own grown table model
