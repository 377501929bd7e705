use Rattle.serde_json.specs.View.{view}
use Rattle.hollow_machine.specs.KeyPaths.{texts_of_array}
use Rattle.chain_laws.proofs.OneKey.{one_index}
use Rattle.chain_laws.proofs.TypedConsumers.{typed_if}
use Rattle.chain_laws.proofs.laws.one_index.Goals as goal

pub returns : goal.returns
returns c = λ machine next after name paths answer other is one also.
    one_index machine name (texts_of_array (view paths)) (typed_if machine.consumer is) answer other next after one also
