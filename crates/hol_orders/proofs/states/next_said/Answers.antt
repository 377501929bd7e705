use Rattle.std.proofs.Common.{arith}
use Rattle.serde_json.specs.View.{members_view}
use Rattle.hol_orders.proofs.Saying.{no_said, none_said}
use Rattle.hol_orders.proofs.states.next_said.Goals as goal

pub returns-then-len-lt3 : goal.returns-then-len-lt3
returns-then-len-lt3 c = none_said c.args.members.now.entries (omega (arith, c.if-len-lt3.true, c.len.ensures.len))

pub returns-in_err-value : goal.returns-in_err-value
returns-in_err-value c =
    no_said c.args.members.now.entries (members_view c.next_named.new.members.entries) c.from_residual.result c.in_err-value.field-0.0 c.from_residual.ensures.1
    (λ few. absurd (omega (arith, c.if-len-lt3.false, c.len.ensures.len, few))) c.in_err-value.ensures
