use Rattle.std.proofs.Common.{true, false, sym, subst, ◌∙◌, ◌≡◌, ◌+◌}
use Rattle.hol_paths.proofs.Beginning.{AreBelow, below_all, below_dead, below_live, below_none}
use Rattle.hol_paths.proofs.index.live_ordinals.Goals.{then-is_live+in_ok-push, else-is_live}
use Rattle.hol_paths.proofs.index.live_ordinals.Goals as goal

pub loop-ordinal-init : goal.loop-ordinal-init
loop-ordinal-init g c = below_none (g.R.Rows.table c.args.rows.now) c.args.type_index c.new-live.result c.new-live.ensures

pub loop-ordinal-preserved : goal.loop-ordinal-preserved
loop-ordinal-preserved g c =
    let T = g.R.Rows.table c.args.rows.now in
    let o = c.loop-ordinal.ordinal in
    elim c.if-is_live.branch [
      | then-is_live+in_ok-push w ↦
          below_live T c.args.type_index o c.loop-ordinal.live c.loop-ordinal.invariant c.if-is_live.live (c.is_live.ensures.0 w.if-is_live.true) (w.live-is ∙ w.in_ok-push.ensures.ok)
      | else-is_live w ↦
          subst (AreBelow T c.args.type_index (o + 1)) (sym w.live-is)
          (below_dead T c.args.type_index o c.loop-ordinal.live c.loop-ordinal.invariant (λ live. (let both : true ≡ false = sym (c.is_live.ensures.1 live) ∙ w.if-is_live.false in cc)))
    ]

pub returns : goal.returns
returns g c = below_all (g.R.Rows.table c.args.rows.now) c.args.type_index c.bound-bound.result c.loop-ordinal.ordinal c.loop-ordinal.live c.bound-bound.ensures.above c.loop-ordinal-test.false c.loop-ordinal.invariant
