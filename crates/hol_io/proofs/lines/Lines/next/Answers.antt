use Rattle.std.proofs.Common.{ap, sym, ◌∙◌}
use Rattle.hol_io.proofs.Told.{end_tells, same_carries, keeps_itself, tells_then}
use Rattle.hol_io.proofs.lines.Lines.next.Goals as goal

pub returns-clause-tells : goal.returns-clause-tells
returns-clause-tells g c =
    let same = c.self.view_is in
    let left = g.I.Source.left c.args.input.now in
    tells_then c.args.self.now _ _ left left _ _
    (same_carries c.args.self.now _ left left (keeps_itself left) record {
      long = ap (λ v. v.long) same;
      pending = ap (λ v. v.pending) same;
      taken = ap (λ v. v.taken) same;
      line_max = ap (λ v. v.line_max) same;
      budget = ap (λ v. v.budget) same;
      ended = ap (λ v. v.ended) same;
    })
    c.next_turn.ensures.tells

pub returns-then-self-clause-tells : goal.returns-then-self-clause-tells
returns-then-self-clause-tells g c =
    let same = c.self.view_is in
    end_tells c.args.self.now _ (g.I.Source.left c.args.input.now) record {
      long = ap (λ v. v.long) same;
      pending = ap (λ v. v.pending) same;
      taken = ap (λ v. v.taken) same;
      line_max = ap (λ v. v.line_max) same;
      budget = ap (λ v. v.budget) same;
      ended = ap (λ v. v.ended) same;
    } (sym (ap (λ v. v.ended) same) ∙ c.if-self.true)
