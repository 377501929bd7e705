use Rattle.std.proofs.Common.{refl, sym, true, Ok, None, Some, length, take, ap, ◌∙◌, subst, arith}
use Rattle.std.proofs.lemmas.List.{take_all, drop_all}
use Rattle.hol_io.specs.Lines.{Reading, Takes}
use Rattle.hol_io.specs.contracts.lines.Lines as contract
use Rattle.hol_io.specs.Turn.{IsPiece, IsPieceTurn}
use Rattle.hol_io.proofs.Told.{carries_then, fault_tells, lends_same, tells_then, piece_tells, last_tells, over_tells, takes_then}
use Rattle.hol_io.proofs.lines.Lines.next_turn.Goals as goal

pub returns-in_err-count-clause-tells : goal.returns-in_err-count-clause-tells
returns-in_err-count-clause-tells g c =
    fault_tells _ _ _ _ _ c.from_residual.ensures.0 (carries_then _ _ _ _ _ _ c.loop-count.invariant.carries c.next_piece.ensures.carries)

pub returns-in-Some-clause-tells : goal.returns-in-Some-clause-tells
returns-in-Some-clause-tells g c =
    let left = g.I.Source.left c.next_piece.new.input in
    let piece = subst (λ p. IsPiece c.next_piece.new.self left p) c.in-Ended.is c.in_ok-count.ensures.piece in
    let ended = c.end_piece.ensures in
    tells_then _ _ _ _ _ _ (Ok c.in-Some.turn) (carries_then _ _ _ _ _ _ c.loop-count.invariant.carries c.next_piece.ensures.carries)
    (piece_tells c.next_piece.new.self c.end_piece.new.self left c.in-Ended.count (Some c.in-Some.turn) piece c.in-Some.ensures.turn ended.pending ended.long ended.taken ended.limits.0 ended.limits.1 ended.ended)

pub loop-count-preserved : goal.loop-count-preserved
loop-count-preserved g c =
    let left = g.I.Source.left c.next_piece.new.input in
    let inv = c.loop-count.invariant in
    let next = c.next_piece.ensures in
    let piece = subst (λ p. IsPiece c.next_piece.new.self left p) c.in-Ended.is c.in_ok-count.ensures.piece in
    let ended = c.end_piece.ensures in
    record {
      carries =
          carries_then _ _ _ _ _ _ (carries_then _ _ _ _ _ _ inv.carries next.carries)
          (piece_tells c.next_piece.new.self c.end_piece.new.self left c.in-Ended.count None piece c.in_default.ensures.turn ended.pending ended.long ended.taken ended.limits.0 ended.limits.1 ended.ended);
      later = omega (arith, inv.later, next.cause.later);
      line = c.in_default.ensures.turn.2;
      limits = (ended.limits.0 ∙ next.limits.0 ∙ inv.limits.0, ended.limits.1 ∙ next.limits.1 ∙ inv.limits.1);
      open_still = ended.ended ∙ next.stays ∙ inv.open_still;
      takes = subst (λ n. Takes (g.I.Source.left c.args.input.now) left c.args.self.now.taken n) (sym ended.taken) (takes_then _ _ _ _ _ _ inv.takes next.takes);
    }

pub returns-in-Last-clause-tells : goal.returns-in-Last-clause-tells
returns-in-Last-clause-tells g c =
    let left = g.I.Source.left c.next_piece.new.input in
    let old = c.next_piece.new.self in
    let new = c.end_piece-in-Last.new.self in
    let same = c.self-in-Last.view_is in
    let last : Reading = record (contract.the_view c.self-in-Last.inside) { ended = true } in
    let piece = subst (λ p. IsPiece old left p) c.in-Last.is c.in_ok-count.ensures.piece in
    let ended = c.end_piece-in-Last.ensures in
    let count = ap length (c.pending-count.ensures ∙ ap (λ v. v.pending) c.self.view_is) in
    let turn = subst (λ p. IsPieceTurn old new p c.end_piece-in-Last.result) (ap (λ n. take n old.pending) count ∙ take_all (length old.pending) old.pending (omega arith)) ended.turn in
    tells_then _ _ _ _ _ _ (Ok c.unwrap_or-turn.result) (carries_then _ _ _ _ _ _ c.loop-count.invariant.carries c.next_piece.ensures.carries)
    (rw c.unwrap_or-turn.ensures (last_tells old last left c.end_piece-in-Last.result piece (lends_same old new last old.pending c.end_piece-in-Last.result (ap (λ v. v.line) same) turn)
    (ap (λ v. v.pending) same ∙ ended.pending ∙ drop_all _ old.pending (omega (arith, count))) (ap (λ v. v.long) same ∙ ended.long) (ap (λ v. v.taken) same ∙ ended.taken)
    (ap (λ v. v.line_max) same ∙ ended.limits.0) (ap (λ v. v.budget) same ∙ ended.limits.1) refl))

pub returns-in-PastBudget-clause-tells : goal.returns-in-PastBudget-clause-tells
returns-in-PastBudget-clause-tells g c =
    let left = g.I.Source.left c.next_piece.new.input in
    let piece = subst (λ p. IsPiece c.next_piece.new.self left p) c.in-PastBudget.is c.in_ok-count.ensures.piece in
    tells_then _ _ _ _ _ _ _ (carries_then _ _ _ _ _ _ c.loop-count.invariant.carries c.next_piece.ensures.carries) (over_tells c.next_piece.new.self left piece)

pub returns-in_err-count-clause-takes : goal.returns-in_err-count-clause-takes
returns-in_err-count-clause-takes g c = takes_then _ _ _ _ _ _ c.loop-count.invariant.takes c.next_piece.ensures.takes

pub returns-in-Some-clause-takes : goal.returns-in-Some-clause-takes
returns-in-Some-clause-takes g c =
    subst (λ n. Takes (g.I.Source.left c.args.input.now) (g.I.Source.left c.next_piece.new.input) c.args.self.now.taken n) (sym c.end_piece.ensures.taken)
    (takes_then _ _ _ _ _ _ c.loop-count.invariant.takes c.next_piece.ensures.takes)

pub returns-in-Last-clause-takes : goal.returns-in-Last-clause-takes
returns-in-Last-clause-takes g c =
    subst (λ n. Takes (g.I.Source.left c.args.input.now) (g.I.Source.left c.next_piece.new.input) c.args.self.now.taken n) (sym (ap (λ v. v.taken) c.self-in-Last.view_is ∙ c.end_piece-in-Last.ensures.taken))
    (takes_then _ _ _ _ _ _ c.loop-count.invariant.takes c.next_piece.ensures.takes)

pub returns-in-PastBudget-clause-takes : goal.returns-in-PastBudget-clause-takes
returns-in-PastBudget-clause-takes g c = takes_then _ _ _ _ _ _ c.loop-count.invariant.takes c.next_piece.ensures.takes
