use Rattle.std.proofs.Common.{◌≡◌, map, take}
use Rattle.serde_json.specs.Data.{number, unsigned, array, item, no_items}
use Rattle.serde_json.specs.View.{view}
use Rattle.json_rows.proofs.stored.pairs_value.Given as goal

abbrev pub invariant-loop-pair : goal.invariant-loop-pair
invariant-loop-pair l = map view l.printed.items ≡ map (λ pair. array (item (number (unsigned pair.0)) (item (number (unsigned pair.1)) no_items))) (take l.pair-index l.pairs)
