use Rattle.std.proofs.Common.{◌≡◌, ◌+◌, sym, subst, arith}
use Rattle.row_model.specs.Table.{IsBound}
use Rattle.row_packing.proofs.LiveRows.{IsLiveBelow, one_put, one_passed, all_live}
use Rattle.row_packing.proofs.live.live_ordinals.Goals.{then-is_live+in_ok-insert, else-is_live}
use Rattle.row_packing.proofs.live.live_ordinals.Goals as goal

pub loop-ordinal-preserved : goal.loop-ordinal-preserved
loop-ordinal-preserved g c =
    let table = g.R.Rows.table c.args.rows.now in
    let more = IsLiveBelow table c.args.type_index (c.loop-ordinal.ordinal + 1) in
    elim c.if-is_live.branch [
      | then-is_live+in_ok-insert w ↦
          subst more (sym w.set-is) (one_put table c.args.type_index c.loop-ordinal.ordinal c.loop-ordinal.set _ c.loop-ordinal.invariant (c.is_live.ensures.0 w.if-is_live.true) w.in_ok-insert.ensures.ok)
      | else-is_live w ↦
          subst more (sym w.set-is) (one_passed table c.args.type_index c.loop-ordinal.ordinal c.loop-ordinal.set c.loop-ordinal.invariant
          (λ live. let seen = c.is_live.ensures.1 live in let not = w.if-is_live.false in absurd cc))
    ]

pub returns : goal.returns
returns g c =
    let table = g.R.Rows.table c.args.rows.now in
    let end : c.bound-ordinal-end.result ≡ c.loop-ordinal.ordinal = omega (arith, c.loop-ordinal-test.false, c.loop-ordinal.auto.ordinal-end) in
    all_live table c.args.type_index c.loop-ordinal.ordinal c.loop-ordinal.set (subst (IsBound table c.args.type_index) end c.bound-ordinal-end.ensures) c.loop-ordinal.invariant
