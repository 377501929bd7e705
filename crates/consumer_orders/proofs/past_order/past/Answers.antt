use Rattle.consumer_orders.specs.Asked.{TellsType}
use Rattle.std.proofs.Common.{ℕ, List, All, subst, sym}
use Rattle.row_model.specs.Table.{IsLive}
use Rattle.read_engine.specs.Gone.{AreGone}
use Rattle.consumer_orders.proofs.Asking.{inside, inside_model, past_answers, were_live}
use Rattle.consumer_orders.proofs.past_order.past.Goals as goal

pub gone-gone-requires : goal.gone-gone-requires
gone-gone-requires c = inside_model c.args.consumer.now c.args.name.now c.in-At.type_index (subst (TellsType c.args.consumer.now c.args.name.now) c.in-At.is c.in_ok-type_index.ensures)

pub show_past-requires-clause-type_in : goal.show_past-requires-clause-type_in
show_past-requires-clause-type_in c = inside c.args.consumer.now c.args.name.now c.in-At.type_index c.before-rows.result.schemas (subst (TellsType c.args.consumer.now c.args.name.now) c.in-At.is c.in_ok-type_index.ensures) c.before-rows.ensures.schemas

pub show_past-requires-clause-live : goal.show_past-requires-clause-live
show_past-requires-clause-live c =
    let table = c.before-rows.result.table in
    subst (λ (gone : List ℕ). All (IsLive table c.in-At.type_index) gone) (sym c.as_slice.ensures)
    (were_live c.args.consumer.now c.in-At.type_index table c.gone-gone.result.now c.before-rows.ensures.table c.gone-gone.ensures)

pub returns-in-At-clause-reply : goal.returns-in-At-clause-reply
returns-in-At-clause-reply c =
    past_answers c.args.consumer.now c.args.name.now c.in-At.type_index c.before-rows.result.schemas c.before-rows.result.table c.gone-gone.result.now c.show_past.result (subst (TellsType c.args.consumer.now c.args.name.now) c.in-At.is c.in_ok-type_index.ensures)
    c.before-rows.ensures.schemas c.before-rows.ensures.table c.gone-gone.ensures
    (λ now same before are. c.show_past.ensures.reply now same before (subst (AreGone now c.in-At.type_index) (sym c.as_slice.ensures) are))
