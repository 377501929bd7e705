use Rattle.std.proofs.Common.{arith}
use Rattle.record_json.proofs.MadeForms.{forms_all, forms_more, forms_none}
use Rattle.record_json.proofs.forms.record_forms.Goals as goal

pub loop-type_index-init : goal.loop-type_index-init
loop-type_index-init c = forms_none c.args.model.now _ c.in_ok-forms.ensures.items

pub loop-type_index-preserved : goal.loop-type_index-preserved
loop-type_index-preserved c = forms_more c.args.model.now c.loop-type_index.type_index c.schema.result.now _ _ _ c.schema.ensures.value c.in_ok-leads.ensures c.in_ok-push.ensures.items c.loop-type_index.invariant

pub returns : goal.returns
returns c = forms_all c.args.model.now c.loop-type_index.type_index _ (omega arith) c.loop-type_index.invariant
