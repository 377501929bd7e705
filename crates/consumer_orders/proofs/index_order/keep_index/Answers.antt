use Rattle.std.proofs.Common.{subst}
use Rattle.read_engine.specs.Indexes.{index_by}
use Rattle.consumer_orders.specs.Sought.{TellsKeyPaths}
use Rattle.consumer_orders.proofs.Indexing.{added_inside, index_kept, resolved_here}
use Rattle.consumer_orders.proofs.index_order.keep_index.Goals as goal

pub add_index-requires-clause-resolved : goal.add_index-requires-clause-resolved
add_index-requires-clause-resolved g c =
    resolved_here c.args.consumer.now c.in-Some.model.now c.args.type_index c.args.name.now c.args.texts.now c.in-Resolved.paths c.in-Some.ensures
    (subst (TellsKeyPaths c.in-Some.model.now c.args.type_index c.args.name.now c.args.texts.now) c.in-Resolved.is c.in_ok-paths.ensures)

pub keyed-requires : goal.keyed-requires
keyed-requires g c = added_inside c.args.consumer.now c.add_index.new.self (index_by c.args.type_index c.in-Resolved.paths) c.in-Ok.number c.in-Ok.ensures.added

pub returns-in-Ok-clause-kept : goal.returns-in-Ok-clause-kept
returns-in-Ok-clause-kept g c =
    index_kept c.args.consumer.now c.add_index.new.self c.in-Some.model.now c.args.type_index c.args.name.now c.args.texts.now c.in-Resolved.paths c.in-Ok.number c.keyed.result c.in-Some.ensures
    (subst (TellsKeyPaths c.in-Some.model.now c.args.type_index c.args.name.now c.args.texts.now) c.in-Resolved.is c.in_ok-paths.ensures) c.in-Ok.ensures.added c.keyed.ensures
