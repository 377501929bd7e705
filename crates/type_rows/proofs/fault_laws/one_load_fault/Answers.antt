use Rattle.type_rows.proofs.LoadFaults.{load_fault_once, load_or_fault}
use Rattle.type_rows.proofs.fault_laws.one_load_fault.Goals as goal

pub returns : goal.returns
returns c = record { once = load_fault_once; apart = load_or_fault }
