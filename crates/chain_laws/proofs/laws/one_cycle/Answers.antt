use Rattle.hol_orders.specs.Parts.{asked_state}
use Rattle.hollow_machine.specs.Records.{asked_cycle}
use Rattle.chain_laws.proofs.OneCycle.{one_cycle}
use Rattle.chain_laws.proofs.OneScript.{known}
use Rattle.chain_laws.proofs.laws.one_cycle.Goals as goal

pub returns : goal.returns
returns c = λ machine next after chain asked answer other kept over one also.
    one_cycle (c.one_written_snapshot.ensures, c.one_written_delta.ensures) machine (asked_cycle (asked_state asked)) (known machine.store chain machine.producer kept over) answer other next after one also
