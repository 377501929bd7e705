use Rattle.std.proofs.Common.{refl, length, ap, sym, ◌∙◌, inl, inr, arith}
use Rattle.std.proofs.lemmas.List.{drop_all}
use Rattle.hol_io.proofs.Told.{pass_carries}
use Rattle.hol_io.proofs.lines.Lines.pass_long.Goals as goal
use Rattle.hol_io.proofs.lines.Lines.pass_long.Goals.{then-self-via-then-self, then-self-via-else-self+then-count-self}

pub returns-then-self-clause-carries : goal.returns-then-self-clause-carries
returns-then-self-clause-carries c =
    let long = ap (λ v. v.long) c.self.view_is in
    let most = ap (λ v. v.line_max) c.self.view_is in
    let pending = ap (λ v. v.pending) c.self.view_is in
    pass_carries c.args.self.now _ c.requires
    (elim c.then-self.branch [
      | then-self-via-then-self w ↦ inl (sym long ∙ w.if-self.true)
      | then-self-via-else-self+then-count-self w ↦ inr (omega (arith, w.if-count-self.true, ap length c.pending-count.ensures, ap length pending, most))
    ])
    refl (c.let_go.ensures.pending ∙ drop_all (length c.pending-count.result.now) c.self.inside.window.pending (omega (arith, ap length c.pending-count.ensures)))
    (ap (λ v. v.taken) c.self.view_is) most (ap (λ v. v.budget) c.self.view_is) (ap (λ v. v.ended) c.self.view_is)
