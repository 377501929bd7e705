use Rattle.consumer_orders.proofs.look_up.look_up_along.Goals as goal

pub look_up_in-requires : goal.look_up_in-requires
look_up_in-requires c = record { model = c.requires.model; kept = (c.args.type_index, c.requires.resolved, c.in-Some.ensures) }

pub returns-in-Some : goal.returns-in-Some
returns-in-Some c = c.look_up_in.ensures c.args.type_index c.in-Some.ensures
