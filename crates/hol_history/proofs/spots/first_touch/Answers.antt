use Rattle.std.proofs.Common.{arith}
use Rattle.hol_history.proofs.SpotSets.{first_elsewhere, first_found, first_none}
use Rattle.hol_history.proofs.spots.first_touch.Goals as goal

pub returns-in-Some : goal.returns-in-Some
returns-in-Some c =
    first_found c.args.spots.now c.args.type_index c.args.ordinal c.args.number c.range.result (c.range.ensures.in_range tt) c.in-Some.spot.now c.next.new.self c.in-Some.ensures.steps (omega arith) (omega arith)

pub returns-in_default : goal.returns-in_default
returns-in_default c =
    first_elsewhere c.args.spots.now c.args.type_index c.args.ordinal c.args.number c.range.result (c.range.ensures.in_range tt) c.in-Some.spot.now c.next.new.self c.in-Some.ensures.steps (λ both. omega arith)

pub returns-in_default-2 : goal.returns-in_default-2
returns-in_default-2 c =
    first_elsewhere c.args.spots.now c.args.type_index c.args.ordinal c.args.number c.range.result (c.range.ensures.in_range tt) c.in-Some.spot.now c.next.new.self c.in-Some.ensures.steps (λ both. omega arith)

pub returns-in_default-3 : goal.returns-in_default-3
returns-in_default-3 c =
    let none = rw c.in_default.is at c.next.ensures.steps in
    first_none c.args.spots.now c.args.type_index c.args.ordinal c.args.number c.range.result (c.range.ensures.in_range tt) none.0
