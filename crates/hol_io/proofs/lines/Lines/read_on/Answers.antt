use Rattle.std.proofs.Common.{◌≡◌, ◌+◌, ◌-◌, ◌≤◌, length, take, ap, sym, ◌∙◌, subst, arith, length-append, if◌then◌else◌}
use Rattle.std.proofs.lemmas.List.{take_all}
use Rattle.hol_io.specs.Window.{TakesOn}
use Rattle.hol_io.proofs.Told.{same_carries, read_carries, not_over}
use Rattle.hol_io.proofs.lines.Lines.read_on.Goals as goal

pub returns-in_err-count-clause-carries : goal.returns-in_err-count-clause-carries
returns-in_err-count-clause-carries g c =
    let same = c.self.view_is in
    same_carries c.args.self.now _ (g.I.Source.left c.args.input.now) (g.I.Source.left c.read.new.input) c.in_err-count.ensures.reads.0
    record {
      long = ap (λ v. v.long) same;
      pending = c.in_err-count.ensures.reads.1 ∙ ap (λ v. v.pending) same;
      taken = ap (λ v. v.taken) same;
      line_max = ap (λ v. v.line_max) same;
      budget = ap (λ v. v.budget) same;
      ended = ap (λ v. v.ended) same;
    }

pub returns-then-count-allowed-clause-carries : goal.returns-then-count-allowed-clause-carries
returns-then-count-allowed-clause-carries g c =
    let same = c.self.view_is in
    let inside = c.self.inside in
    let old = c.args.self.now in
    let mid = c.read.new.self.pending in
    let reads = subst (λ p. TakesOn (g.I.Source.left c.args.input.now) (g.I.Source.left c.read.new.input) c.in_ok-count.count p mid) (ap (λ v. v.pending) same) c.in_ok-count.ensures.reads in
    let taken = ap (λ v. v.taken) same in
    let budget = ap (λ v. v.budget) same in
    let off = not_over inside.over inside.taken inside.budget (omega (arith, taken, budget, c.requires.below)) c.self.invariant.1 in
    let same_taken : old.taken ≡ inside.taken + 0 = sym taken ∙ ap (λ o. inside.taken + (if o then 1 else 0)) off in
    let count : c.in_ok-count.count ≡ inside.budget - inside.taken + 1 = omega (arith, c.if-count-allowed.true, c.in_ok-count.ensures.bound, c.saturating_add.ensures) in
    let part : length mid - 1 ≡ length old.pending + (old.budget - old.taken) =
    omega (arith, ap length reads.4, length-append old.pending reads.0, reads.1, count, budget, same_taken) in
    read_carries old _ (g.I.Source.left c.args.input.now) (g.I.Source.left c.read.new.input) c.in_ok-count.count mid reads c.requires.below
    (ap (λ v. v.long) same) (ap (λ v. v.line_max) same) budget (omega (arith, same_taken, count, budget, c.requires.below)) (c.let_go_last.ensures.pending ∙ ap (λ k. take k mid) part) (ap (λ v. v.ended) same)

pub returns-else-count-allowed-clause-carries : goal.returns-else-count-allowed-clause-carries
returns-else-count-allowed-clause-carries g c =
    let same = c.self.view_is in
    let inside = c.self.inside in
    let old = c.args.self.now in
    let mid = c.read.new.self.pending in
    let reads = subst (λ p. TakesOn (g.I.Source.left c.args.input.now) (g.I.Source.left c.read.new.input) c.in_ok-count.count p mid) (ap (λ v. v.pending) same) c.in_ok-count.ensures.reads in
    let taken = ap (λ v. v.taken) same in
    let budget = ap (λ v. v.budget) same in
    let off = not_over inside.over inside.taken inside.budget (omega (arith, taken, budget, c.requires.below)) c.self.invariant.1 in
    let same_taken : old.taken ≡ inside.taken + 0 = sym taken ∙ ap (λ o. inside.taken + (if o then 1 else 0)) off in
    let part : length mid ≤ length old.pending + (old.budget - old.taken) =
    omega (arith, ap length reads.4, length-append old.pending reads.0, reads.1, c.if-count-allowed.false, budget, same_taken) in
    read_carries old _ (g.I.Source.left c.args.input.now) (g.I.Source.left c.read.new.input) c.in_ok-count.count mid reads c.requires.below
    (ap (λ v. v.long) same) (ap (λ v. v.line_max) same) budget (omega (arith, taken)) (sym (take_all (length old.pending + (old.budget - old.taken)) mid part)) (ap (λ v. v.ended) same)
