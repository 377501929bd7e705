use Rattle.std.proofs.Common.{◌≡◌, ◌+◌, sym, subst, arith}
use Rattle.row_model.specs.Table.{IsBound}
use Rattle.consumer_orders.proofs.LiveLists.{AreLiveBelow, all_listed, one_listed, one_passed}
use Rattle.consumer_orders.proofs.live_order.live_list.Goals.{then-is_live+in_ok-push, else-is_live}
use Rattle.consumer_orders.proofs.live_order.live_list.Goals as goal

pub loop-ordinal-preserved : goal.loop-ordinal-preserved
loop-ordinal-preserved g c =
    let table = g.R.Rows.table c.args.rows.now in
    let more = AreLiveBelow table c.args.type_index (c.loop-ordinal.ordinal + 1) in
    elim c.if-is_live.branch [
      | then-is_live+in_ok-push w ↦
          subst more (sym w.ordinals-is) (subst more (sym w.in_ok-push.ensures.ok)
          (one_listed table c.args.type_index c.loop-ordinal.ordinal c.loop-ordinal.ordinals c.loop-ordinal.invariant (c.is_live.ensures.0 w.if-is_live.true)))
      | else-is_live w ↦
          subst more (sym w.ordinals-is) (one_passed table c.args.type_index c.loop-ordinal.ordinal c.loop-ordinal.ordinals c.loop-ordinal.invariant
          (λ live. let seen = c.is_live.ensures.1 live in let not = w.if-is_live.false in absurd cc))
    ]

pub returns : goal.returns
returns g c =
    let table = g.R.Rows.table c.args.rows.now in
    let end : c.bound-ordinal-end.result ≡ c.loop-ordinal.ordinal = omega (arith, c.loop-ordinal-test.false, c.loop-ordinal.auto.ordinal-end) in
    all_listed table c.args.type_index c.loop-ordinal.ordinal c.loop-ordinal.ordinals c.loop-ordinal.invariant (subst (IsBound table c.args.type_index) end c.bound-ordinal-end.ensures)
