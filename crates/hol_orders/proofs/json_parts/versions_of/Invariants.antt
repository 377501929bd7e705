use Rattle.std.proofs.Common.{◌≡◌, map, take}
use Rattle.serde_json.specs.View.{view}
use Rattle.hol_orders.specs.Parts.{whole}
use Rattle.hol_orders.specs.Shapes.{AreVersions}
use Rattle.hol_orders.proofs.json_parts.versions_of.Given as goal

abbrev pub invariant-loop-item : goal.invariant-loop-item
invariant-loop-item l = record {
  same : map whole l.versions ≡ map view (take l.item-index l.items);
  each : AreVersions l.versions;
}
