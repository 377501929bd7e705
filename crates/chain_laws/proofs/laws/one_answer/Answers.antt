use Rattle.chain_laws.proofs.OneScript.{known, steps_one}
use Rattle.chain_laws.proofs.TypedConsumers.{typed_if}
use Rattle.std.proofs.Common.{refl}
use Rattle.chain_laws.proofs.laws.one_answer.Goals as goal

pub returns : goal.returns
returns c = λ machine next after chain asked answer other kept over is one also.
    steps_one (c.one_written_snapshot.ensures, c.one_written_delta.ensures) machine (known machine.store chain machine.producer kept over, typed_if machine.consumer is) answer other next after asked asked refl
    one also
