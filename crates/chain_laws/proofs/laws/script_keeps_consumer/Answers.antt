use Rattle.std.proofs.Common.{refl}
use Rattle.chain_laws.proofs.ConsumerLines.{script_keeps_both}
use Rattle.hollow_machine.specs.State.{started}
use Rattle.chain_laws.proofs.laws.script_keeps_consumer.Goals as goal

pub returns : goal.returns
returns c = record {
  lines = λ machine next lines text refused chain script kept over of. script_keeps_both machine next lines text refused chain script kept over of;
  run = λ store next lines text refused chain script kept. script_keeps_both (started store) next lines text refused chain script kept tt refl;
}
