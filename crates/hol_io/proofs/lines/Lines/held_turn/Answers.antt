use Rattle.std.proofs.Common.{Ok, None, Some, length, ap, ◌+◌, arith, ◌∙◌}
use Rattle.std.proofs.lemmas.List.{length-drop}
use Rattle.hol_io.proofs.Told.{carries_then, held_tells, piece_tells, tells_then}
use Rattle.hol_io.proofs.lines.Lines.held_turn.Goals as goal

pub end_piece-requires : goal.end_piece-requires
end_piece-requires c = omega (arith, (c.in-Some.ensures None).0)

pub returns-in-Some-end_piece-clause-tells : goal.returns-in-Some-end_piece-clause-tells
returns-in-Some-end_piece-clause-tells c = λ left.
    (let ended = c.end_piece.ensures in
    tells_then _ _ _ left left left (Ok c.in-Some-end_piece.turn) (c.loop-count.invariant.carries left)
    (piece_tells c.loop-count.self c.end_piece.new.self left c.in-Some.count (Some c.in-Some-end_piece.turn) (c.in-Some.ensures left) c.in-Some-end_piece.ensures.turn ended.pending ended.long ended.taken ended.limits.0 ended.limits.1 ended.ended))

pub loop-count-smaller : goal.loop-count-smaller
loop-count-smaller c = omega (arith, (c.in-Some.ensures None).0, ap length c.end_piece.ensures.pending, length-drop (c.in-Some.count + 1) c.loop-count.self.pending)

pub loop-count-preserved : goal.loop-count-preserved
loop-count-preserved c =
    let ended = c.end_piece.ensures in
    let inv = c.loop-count.invariant in
    record {
      carries = λ left.
          (carries_then _ _ _ left left left (inv.carries left)
          (piece_tells c.loop-count.self c.end_piece.new.self left c.in-Some.count None (c.in-Some.ensures left) c.in_default-end_piece.ensures.turn ended.pending ended.long ended.taken ended.limits.0 ended.limits.1 ended.ended));
      line = c.in_default-end_piece.ensures.turn.2;
      taken = ended.taken ∙ inv.taken;
      limits = (ended.limits.0 ∙ inv.limits.0, ended.limits.1 ∙ inv.limits.1);
      stays = ended.ended ∙ inv.stays;
    }

pub returns-clause-tells : goal.returns-clause-tells
returns-clause-tells c = λ left. held_tells _ c.loop-count.self left c.past_budget.result c.in_default.ensures c.past_budget.ensures (c.loop-count.invariant.carries left)
