use Rattle.std.proofs.Common.{length, take, ap, sym, ◌∙◌, subst, arith}
use Rattle.std.proofs.lemmas.List.{length-take}
use Rattle.hol_io.specs.Lines.{IsOnePiece, Takes}
use Rattle.hol_io.proofs.Told.{carries_then, takes_then}
use Rattle.hol_io.proofs.lines.Lines.next_piece.Goals as goal

pub returns-in_err-read_on-clause-carries : goal.returns-in_err-read_on-clause-carries
returns-in_err-read_on-clause-carries g c =
    carries_then _ _ _ _ _ _ c.loop-count.invariant.carries
    (carries_then _ _ _ _ _ _ (c.pass_long.ensures.carries (g.I.Source.left c.loop-count.input)) c.read_on.ensures.carries)

pub returns-then-branch-eq0-clause-carries : goal.returns-then-branch-eq0-clause-carries
returns-then-branch-eq0-clause-carries g c =
    carries_then _ _ _ _ _ _ c.loop-count.invariant.carries
    (carries_then _ _ _ _ _ _ (c.pass_long.ensures.carries (g.I.Source.left c.loop-count.input)) c.read_on.ensures.carries)

pub loop-count-preserved : goal.loop-count-preserved
loop-count-preserved g c =
    let inv = c.loop-count.invariant in
    let pass = c.pass_long.ensures in
    let read = c.read_on.ensures in
    let searched = ap length (c.pending-searched.ensures ∙ ap (λ v. v.pending) c.self-in-loop-count.view_is) in
    record {
      carries =
          carries_then _ _ _ _ _ _ inv.carries (carries_then _ _ _ _ _ _ (pass.carries (g.I.Source.left c.loop-count.input)) read.carries);
      one = subst IsOnePiece (sym (ap (λ n. take n c.read_on.new.self.pending) searched ∙ read.front)) pass.one;
      within = omega (arith, searched, ap length read.front, length-take (length c.pass_long.new.self.pending) c.read_on.new.self.pending);
      later = omega (arith, inv.later, read.cause.later);
      to_go = omega (arith, inv.to_go, read.to_go, pass.shorter, pass.taken, pass.limits.1);
      line = λ none. read.line;
      limits = (read.limits.0 ∙ pass.limits.0 ∙ inv.limits.0, read.limits.1 ∙ pass.limits.1 ∙ inv.limits.1);
      stays = read.stays ∙ pass.ended ∙ inv.stays;
      takes = takes_then _ _ _ _ _ _ inv.takes (subst (λ n. Takes (g.I.Source.left c.loop-count.input) (g.I.Source.left c.read_on.new.input) n c.read_on.new.self.taken) pass.taken read.takes);
    }

pub returns-in_err-read_on-clause-takes : goal.returns-in_err-read_on-clause-takes
returns-in_err-read_on-clause-takes g c =
    takes_then _ _ _ _ _ _ c.loop-count.invariant.takes
    (subst (λ n. Takes (g.I.Source.left c.loop-count.input) (g.I.Source.left c.read_on.new.input) n c.read_on.new.self.taken) c.pass_long.ensures.taken c.read_on.ensures.takes)

pub returns-then-branch-eq0-clause-takes : goal.returns-then-branch-eq0-clause-takes
returns-then-branch-eq0-clause-takes g c =
    takes_then _ _ _ _ _ _ c.loop-count.invariant.takes
    (subst (λ n. Takes (g.I.Source.left c.loop-count.input) (g.I.Source.left c.read_on.new.input) n c.read_on.new.self.taken) c.pass_long.ensures.taken c.read_on.ensures.takes)
