use Rattle.std.proofs.Common.{◌≡◌, map, take}
use Rattle.serde_json.specs.Data.{number, unsigned}
use Rattle.serde_json.specs.View.{view}
use Rattle.json_rows.proofs.stored.ordinals_value.Given as goal

abbrev pub invariant-loop-ordinal : goal.invariant-loop-ordinal
invariant-loop-ordinal l = map view l.numbers.items ≡ map (λ n. number (unsigned n)) (take l.ordinal-index l.ordinals)
