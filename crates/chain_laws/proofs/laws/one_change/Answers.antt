use Rattle.hol_orders.specs.Parts.{asked_change}
use Rattle.chain_laws.proofs.OneChange.{change_once}
use Rattle.chain_laws.proofs.OneScript.{known}
use Rattle.chain_laws.proofs.laws.one_change.Goals as goal

pub returns : goal.returns
returns c = λ machine next after chain asked answer other kept over one also.
    change_once (c.one_written_snapshot.ensures, c.one_written_delta.ensures) machine (asked_change asked) (known machine.store chain machine.producer kept over) answer other next after one also
