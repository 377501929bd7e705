use Rattle.std.proofs.Common.{Global, Vec, ℕ, ap, ◌∙◌}
use Rattle.history_orders.proofs.Valued.{one_left, one_listed}
use Rattle.history_orders.proofs.key_columns.rows_with_value.Goals.{then-may_have+in_ok-push, else-may_have}
use Rattle.history_orders.proofs.key_columns.rows_with_value.Goals as goal

pub loop-ordinal-preserved : goal.loop-ordinal-preserved
loop-ordinal-preserved g c =
    let T = g.R.Rows.table c.args.rows.now in
    let ordinal = c.loop-ordinal.ordinal in
    let among = c.loop-ordinal.among.items in
    let listed = c.if-may_have.among.items in
    elim c.if-may_have.branch [
      | then-may_have+in_ok-push w ↦
          one_listed T c.args.type_index c.args.field c.args.value.now ordinal among listed c.loop-ordinal.invariant
          (ap (λ (vec : Vec ℕ Global). vec.items) w.among-is ∙ w.in_ok-push.ensures.items)
      | else-may_have w ↦
          one_left T c.args.type_index c.args.field c.args.value.now ordinal among listed c.loop-ordinal.invariant (ap (λ (vec : Vec ℕ Global). vec.items) w.among-is)
          (λ has. let seen = c.may_have.ensures has.0 has.1 in let not = w.if-may_have.false in absurd cc)
    ]
