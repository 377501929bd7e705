use Rattle.ordinal_set.proofs.GapRuns.{run_found, fault_found}
use Rattle.ordinal_set.proofs.gaps.read_gaps.Goals as goal

pub returns-clause-found : goal.returns-clause-found
returns-clause-found c = run_found c.args.bytes.now c.all_gaps.result c.all_gaps.ensures

pub returns-clause-bad : goal.returns-clause-bad
returns-clause-bad c = fault_found c.args.bytes.now c.all_gaps.result c.all_gaps.ensures
