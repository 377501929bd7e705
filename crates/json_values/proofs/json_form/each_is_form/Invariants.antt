-- Each value that was passed stands for something.
use Rattle.std.proofs.Common.{ℕ, ◌<◌, get_or}
use Rattle.serde_json.specs.View.{view}
use Rattle.serde_json.specs.declared.value.Value.{Value}
use Rattle.json_values.proofs.json_form.each_is_form.Given as goal

abbrev pub invariant-loop-value : goal.invariant-loop-value
invariant-loop-value g l = (k : ℕ) (d : Value) → k < l.value-index → (x : _) × g.T.JsonForm.stands (view (get_or l.values k d)) x
