use Rattle.type_rows.proofs.MoveFaults.{move_fault_once, moved_or_fault}
use Rattle.type_rows.proofs.fault_laws.one_move_fault.Goals as goal

pub returns : goal.returns
returns c = record { once = move_fault_once; apart = moved_or_fault }
