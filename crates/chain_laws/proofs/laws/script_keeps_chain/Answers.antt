use Rattle.chain_laws.proofs.Lines.{script_keeps}
use Rattle.hollow_machine.specs.State.{started}
use Rattle.chain_laws.proofs.laws.script_keeps_chain.Goals as goal

pub returns : goal.returns
returns c = record {
  lines = λ machine next lines text refused chain script kept over. script_keeps machine next lines text refused chain script kept over;
  run = λ store next lines text refused chain script kept. script_keeps (started store) next lines text refused chain script kept tt;
}
