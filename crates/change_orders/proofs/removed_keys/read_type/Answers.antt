use Rattle.std.proofs.Common.{List, Option, map, subst}
use Rattle.serde_json.specs.View.{view}
use Rattle.schema_model.specs.declared.model.path.Path.{Path}
use Rattle.hol_incremental.specs.EditKeys.{TellsKeyPaths}
use Rattle.change_orders.proofs.ReadKeys.{nothing_given, unkeyed_none}
use Rattle.change_orders.proofs.removed_keys.read_type.Goals as goal

pub returns-in-None : goal.returns-in-None
returns-in-None c = λ before give.
    nothing_given c.args.model.now c.args.type_index (map view c.args.values.now) before c.args.found.now
    (unkeyed_none c.args.model.now c.args.type_index (map view c.args.values.now) c.requires.keyed (subst (λ (paths : Option (List Path)). TellsKeyPaths c.args.model.now c.args.type_index paths) c.in-None.is c.in_ok-paths.ensures)) give
