use Rattle.std.proofs.Common.{take}
use Rattle.record_json.specs.Forms.{AreFormsOf}
use Rattle.record_json.proofs.forms.record_forms.Given as goal

abbrev pub invariant-loop-type_index : goal.invariant-loop-type_index
invariant-loop-type_index l = AreFormsOf (take l.type_index l.model) l.forms.items
