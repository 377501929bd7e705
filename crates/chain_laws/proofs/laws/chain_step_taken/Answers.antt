use Rattle.hol_io.specs.Name.{step_name}
use Rattle.chain_laws.proofs.ConsumerOrders.{step_between, step_named, step_only, step_taken}
use Rattle.chain_laws.proofs.PlannedMoves.{agrees_there}
use Rattle.chain_laws.proofs.UnlikeSteps.{unlike_only, unlike_refused}
use Rattle.chain_laws.proofs.laws.chain_step_taken.Goals as goal

pub returns : goal.returns
returns c = record {
  taken = λ machine chain from to now holds was is starts agrees. step_taken machine chain (step_name from to) from to now holds (step_between from to) was is starts agrees;
  only = λ machine next chain from to now answer holds was is starts agrees step. step_only machine chain (step_name from to) from to now holds (step_between from to) was is starts agrees answer next step;
  unlike = λ machine next chain from to now answer holds was is starts apart step.
      unlike_only machine chain (step_name from to) from to now holds (step_between from to) was is starts apart answer next step;
  refused = λ machine chain from to now type_name holds was is starts unlike. unlike_refused machine chain (step_name from to) to now holds was is starts type_name unlike;
  agrees = λ machine chain from to now state holds is there at agree. agrees_there machine chain (step_name from to) now state holds is (step_named from to) there at agree;
}
