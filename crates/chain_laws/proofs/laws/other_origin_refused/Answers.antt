use Rattle.hol_io.specs.Name.{step_name}
use Rattle.chain_laws.proofs.ConsumerOrders.{other_only, other_refused}
use Rattle.chain_laws.proofs.laws.other_origin_refused.Goals as goal

pub returns : goal.returns
returns c = record {
  refused = λ machine from to now origin was starts apart. other_refused machine (step_name from to) to now origin was starts apart;
  only = λ machine next from to now origin answer was starts apart step. other_only machine (step_name from to) to now origin was starts apart answer next step;
}
