-- What the machine answers to an order, and the machine behind it.
use Rattle.std.specs.Prelude.{Option}
use Rattle.hol_orders.specs.declared.kind.Kind.{Kind}
use Rattle.hol_orders.specs.declared.kind.Kind.TheVariants.{Model, Cycle, Restore, Load, Step as StepKind, Index, Get, Find, Live, Row, Has, At, Past, Check, Stat, Grow, Plan, Goto, Change, WalkIndex, WalkFind, History, Was, WasGet}
use Rattle.hol_orders.specs.declared.order.Order.{Order}
use Rattle.hol_orders.specs.Kind.{shape}
use Rattle.hol_orders.specs.Order.{asked_of, kind_of}
use Rattle.hol_answers.specs.declared.reply.Reply.{Reply}
use Rattle.read_engine.specs.Position.{Position}
use Rattle.hollow_machine.specs.ChangeOrder.{change_form}
use Rattle.hollow_machine.specs.CheckOrder.{check_form}
use Rattle.hollow_machine.specs.CycleOrder.{cycle_form}
use Rattle.hollow_machine.specs.Forms.{IsLooking, LooksBy, OrderForm, StepBy}
use Rattle.hollow_machine.specs.GrowOrder.{grow_form}
use Rattle.hollow_machine.specs.HistoryOrders.{history_form, was_form, wasget_form}
use Rattle.hollow_machine.specs.IndexOrder.{index_form}
use Rattle.hollow_machine.specs.KeyOrders.{find_form, get_form}
use Rattle.hollow_machine.specs.LoadOrder.{load_form}
use Rattle.hollow_machine.specs.MemberOrders.{at_form, has_form}
use Rattle.hollow_machine.specs.ModelOrder.{model_form}
use Rattle.hollow_machine.specs.PlanOrders.{goto_form, plan_form}
use Rattle.hollow_machine.specs.RestoreOrder.{restore_form}
use Rattle.hollow_machine.specs.RowOrders.{live_form, past_form, row_form}
use Rattle.hollow_machine.specs.State.{Machine}
use Rattle.hollow_machine.specs.StatOrder.{stat_form}
use Rattle.hollow_machine.specs.StepOrder.{step_form}
use Rattle.hollow_machine.specs.WalkOrders.{walkfind_form, walkindex_form}

-- What the orders of each kind are answered.
abbrev pub form : (kind : Kind) → OrderForm (shape kind).Asked
form Model = model_form
form Cycle = cycle_form
form Restore = restore_form
form Load = load_form
form StepKind = step_form
form Index = index_form
form Get = get_form
form Find = find_form
form Live = live_form
form Row = row_form
form Has = has_form
form At = at_form
form Past = past_form
form Check = check_form
form Stat = stat_form
form Grow = grow_form
form Plan = plan_form
form Goto = goto_form
form Change = change_form
form WalkIndex = walkindex_form
form WalkFind = walkfind_form
form History = history_form
form Was = was_form
form WasGet = wasget_form

-- What an order is answered.
abbrev pub Step : Machine → Order → Reply → Machine → Type 0
Step machine order reply next = StepBy (form (kind_of order)) machine (asked_of order) reply next

-- The order looks at where the consumer stands, and changes nothing; and what it is answered then.
abbrev pub IsLook : Order → Type 0
IsLook order = IsLooking (form (kind_of order))

abbrev pub LooksAt : Order → Option Position → Reply → Type 0
LooksAt order consumer reply = LooksBy (form (kind_of order)) consumer (asked_of order) reply
