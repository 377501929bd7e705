use Rattle.std.proofs.Common.{sym, ◌∙◌}
use Rattle.chain_laws.proofs.PlanLaws.{one_plan}
use Rattle.chain_laws.proofs.laws.one_plan.Goals as goal

pub returns : goal.returns
returns c = λ machine next after version answer other one also. (one_plan machine version answer other one.0 also.0, one.1 ∙ sym also.1)
