use Rattle.read_engine.proofs.TakenOrFault.{loaded_or_fault, stepped_or_fault}
use Rattle.read_engine.proofs.laws.taken_or_fault.Goals as goal

pub returns : goal.returns
returns c = record { load = loaded_or_fault; step = stepped_or_fault }
