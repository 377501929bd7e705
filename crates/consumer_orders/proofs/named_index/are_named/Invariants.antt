-- The texts that were passed resolve to their paths.
use Rattle.std.proofs.Common.{take}
use Rattle.serde_json.specs.View.{items_view}
use Rattle.hollow_machine.specs.KeyPaths.{texts_in}
use Rattle.consumer_orders.proofs.KeyWays.{AllResolve}
use Rattle.consumer_orders.proofs.named_index.are_named.Given as goal

abbrev pub invariant-loop-place : goal.invariant-loop-place
invariant-loop-place l = AllResolve l.model l.type_index (texts_in (items_view (take l.place l.texts))) (take l.place l.paths)
