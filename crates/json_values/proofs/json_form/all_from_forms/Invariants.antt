-- The list has those for which the values that were passed stand.
use Rattle.std.proofs.Common.{take}
use Rattle.serde_json.specs.View.{items_view}
use Rattle.json_values.specs.SchemaJson.{ItemsAre}
use Rattle.json_values.proofs.json_form.all_from_forms.Given as goal

abbrev pub invariant-loop-value : goal.invariant-loop-value
invariant-loop-value g l = ItemsAre g.T.JsonForm.stands (items_view (take l.value-index l.values)) l.list
