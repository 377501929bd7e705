use Rattle.std.proofs.Common.{ap}
use Rattle.hol_io.proofs.Told.{keeps_itself, same_carries, then_held}
use Rattle.hol_io.proofs.lines.Lines.next_held.Goals as goal

pub returns-clause-tells : goal.returns-clause-tells
returns-clause-tells c = λ left.
    (let same = c.self.view_is in
    then_held c.args.self.now _ _ left c.held_turn.result
    (same_carries c.args.self.now _ left left (keeps_itself left) record {
      long = ap (λ v. v.long) same;
      pending = ap (λ v. v.pending) same;
      taken = ap (λ v. v.taken) same;
      line_max = ap (λ v. v.line_max) same;
      budget = ap (λ v. v.budget) same;
      ended = ap (λ v. v.ended) same;
    })
    (c.held_turn.ensures.tells left))
