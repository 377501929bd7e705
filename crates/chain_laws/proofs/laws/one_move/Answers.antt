use Rattle.hol_io.specs.Name.{step_name}
use Rattle.chain_laws.proofs.Lawful.{says_both}
use Rattle.chain_laws.proofs.OneMove.{one_load, one_move}
use Rattle.chain_laws.proofs.PlanLaws.{one_goto}
use Rattle.chain_laws.proofs.TypedConsumers.{typed_if}
use Rattle.chain_laws.proofs.laws.one_move.Goals as goal

pub returns : goal.returns
returns c = record {
  load = λ machine next after version answer other one also. says_both answer other next after (one_load machine version answer other next after one also);
  step = λ machine next after from to answer other is one also. says_both answer other next after (one_move machine (step_name from to) to (typed_if machine.consumer is) answer other next after one also);
  goto = λ machine next after version answer other is one also. says_both answer other next after (one_goto machine version (typed_if machine.consumer is) answer other next after one also);
}
