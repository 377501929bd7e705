use Rattle.std.proofs.Common.{None, subst, ◌∙◌}
use Rattle.row_model.specs.Lent.{lent_row}
use Rattle.row_widths.specs.Walk.{TellsLive}
use Rattle.row_widths.proofs.Steps.{passed_both, took_added, ended_added}
use Rattle.row_widths.proofs.row_walk.RowWalk.next_added.Goals as goal

pub returns-then-not-is_live : goal.returns-then-not-is_live
returns-then-not-is_live g c =
    took_added (g.A.Rows.table c.args.old.now) (g.B.Rows.table c.args.new.now) c.args.type_index c.args.self.now c.loop-ordinal.self.ordinal c.in-Some.ordinal
    c.loop-ordinal.self.in_new (lent_row c.in_ok-lend.field-0) c.requires c.loop-ordinal.invariant.behind c.loop-ordinal.invariant.left c.in-Some.ensures
    (λ live. let test = c.is_live.ensures.1 live in let not_live = c.if-not-is_live.true in absurd cc) c.in_ok-lend.ensures

pub loop-ordinal-preserved : goal.loop-ordinal-preserved
loop-ordinal-preserved g c = record {
  behind = c.loop-ordinal.invariant.behind;
  left =
      c.loop-ordinal.invariant.left
      ∙ passed_both (g.A.Rows.table c.args.old.now) (g.B.Rows.table c.args.new.now) c.args.type_index c.loop-ordinal.self.ordinal c.in-Some.ordinal c.in-Some.ensures
      (c.is_live.ensures.0 c.if-not-is_live.false);
}

pub returns : goal.returns
returns g c =
    let none : TellsLive (g.B.Rows.table c.args.new.now) c.args.type_index c.loop-ordinal.self.ordinal None =
    subst (TellsLive (g.B.Rows.table c.args.new.now) c.args.type_index c.loop-ordinal.self.ordinal) c.in_default.is c.next_live.ensures in
    ended_added (g.A.Rows.table c.args.old.now) (g.B.Rows.table c.args.new.now) c.args.type_index c.args.self.now c.loop-ordinal.self.ordinal c.requires c.loop-ordinal.invariant.left none
