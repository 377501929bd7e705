-- The texts are those of the values that were passed.
use Rattle.std.proofs.Common.{◌≡◌, take}
use Rattle.serde_json.specs.View.{items_view}
use Rattle.hollow_machine.specs.KeyPaths.{texts_in}
use Rattle.consumer_orders.proofs.key_paths.copy_texts.Given as goal

abbrev pub invariant-loop-value : goal.invariant-loop-value
invariant-loop-value l = l.texts ≡ texts_in (items_view (take l.value-index l.values))
