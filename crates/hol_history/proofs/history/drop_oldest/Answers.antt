use Rattle.std.proofs.Common.{◌-◌, arith}
use Rattle.hol_history.proofs.StepSpots.{spots_dropped}
use Rattle.hol_history.proofs.history.drop_oldest.Goals as goal

pub returns-in-Some-clause-spots : goal.returns-in-Some-clause-spots
returns-in-Some-clause-spots c =
    spots_dropped c.args.spots.now c.take_from.new.spots c.args.next (c.args.next - c.len.result) c.args.steps.now.items c.pop_back.new.self.items c.in-Some.step c.requires.spots c.in-Some.ensures.items
    (omega (arith, c.len.ensures, c.args.steps.now.ok.0, c.requires.spots.within)) c.take_from.ensures
