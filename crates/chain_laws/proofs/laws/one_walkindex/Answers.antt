use Rattle.chain_laws.proofs.OneReach.{one_walkindex}
use Rattle.chain_laws.proofs.TypedConsumers.{typed_if}
use Rattle.chain_laws.proofs.laws.one_walkindex.Goals as goal

pub returns : goal.returns
returns c = λ machine next after name path answer other is one also. one_walkindex machine name path (typed_if machine.consumer is) answer other next after one also
