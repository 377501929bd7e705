use Rattle.std.proofs.Common.{subst}
use Rattle.consumer_orders.specs.Sought.{TellsKeyPaths}
use Rattle.consumer_orders.proofs.KeyWays.{key_resolved}
use Rattle.consumer_orders.proofs.look_up.look_up_anew.Goals as goal

pub look_up_along-requires-clause-resolved : goal.look_up_along-requires-clause-resolved
look_up_along-requires-clause-resolved c =
    key_resolved c.args.model.now c.args.type_index c.in_ok-texts.texts c.in-Resolved.paths
    (subst (TellsKeyPaths c.args.model.now c.args.type_index c.args.name.now c.in_ok-texts.texts) c.in-Resolved.is c.in_ok-paths.ensures).1
