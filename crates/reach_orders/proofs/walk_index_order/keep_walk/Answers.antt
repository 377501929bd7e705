use Rattle.std.proofs.Common.{subst}
use Rattle.reach_orders.specs.Walked.{TellsWay}
use Rattle.reach_orders.proofs.Keeping.{added_inside, lost_kept, walk_kept, walk_there}
use Rattle.reach_orders.proofs.walk_index_order.keep_walk.Goals as goal

pub returns-in-Refused-clause-kept : goal.returns-in-Refused-clause-kept
returns-in-Refused-clause-kept g c =
    lost_kept c.args.consumer.now c.in-Some.model.now c.args.type_index c.args.text.now c.in-Refused.refusal c.in-Some.ensures
    (subst (TellsWay c.in-Some.model.now c.args.type_index c.args.text.now) c.in-Refused.is c.in_ok-path.ensures)

pub add_walk-requires : goal.add_walk-requires
add_walk-requires g c =
    walk_there c.args.consumer.now c.in-Some.model.now c.args.type_index c.args.text.now c.in-Resolved.path c.in-Some.ensures c.requires.type_in
    (subst (TellsWay c.in-Some.model.now c.args.type_index c.args.text.now) c.in-Resolved.is c.in_ok-path.ensures)

pub walk_keyed-requires : goal.walk_keyed-requires
walk_keyed-requires g c = added_inside c.args.consumer.now c.add_walk.new.self c.in-Resolved.path c.in-Ok.number c.in-Ok.ensures.added

pub returns-in-Ok-clause-kept : goal.returns-in-Ok-clause-kept
returns-in-Ok-clause-kept g c =
    walk_kept c.args.consumer.now c.add_walk.new.self c.in-Some.model.now c.args.type_index c.args.text.now c.in-Resolved.path c.in-Ok.number c.walk_keyed.result c.in-Some.ensures
    (subst (TellsWay c.in-Some.model.now c.args.type_index c.args.text.now) c.in-Resolved.is c.in_ok-path.ensures) c.in-Ok.ensures.added c.in-Ok.ensures.entries c.walk_keyed.ensures
