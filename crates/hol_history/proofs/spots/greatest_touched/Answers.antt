use Rattle.std.proofs.Common.{arith}
use Rattle.hol_history.proofs.SpotSets.{greatest_elsewhere, greatest_found, greatest_none}
use Rattle.hol_history.proofs.spots.greatest_touched.Goals as goal

pub returns-in-Some : goal.returns-in-Some
returns-in-Some c = λ o n below before there.
    greatest_found c.args.spots.now c.args.type_index 4294967295 c.args.number c.range.result (c.range.ensures.in_range tt) c.in-Some.spot.now c.next_back.new.self c.in-Some.ensures.steps (omega arith)
    o n (omega arith) (omega arith) there

pub returns-in_default : goal.returns-in_default
returns-in_default c = λ o n below before there. absurd (
    greatest_elsewhere c.args.spots.now c.args.type_index 4294967295 c.args.number c.range.result (c.range.ensures.in_range tt) c.in-Some.spot.now c.next_back.new.self c.in-Some.ensures.steps (λ same. omega arith)
    o n (omega arith) (omega arith) there)

pub returns-in_default-2 : goal.returns-in_default-2
returns-in_default-2 c = λ o n below before there.
    let none = rw c.in_default.is at c.next_back.ensures.steps in
    absurd (greatest_none c.args.spots.now c.args.type_index 4294967295 c.args.number c.range.result (c.range.ensures.in_range tt) none.0 o n (omega arith) (omega arith) there)
