use Rattle.json_values.proofs.ItemLists.{items_further, stands_at}
use Rattle.json_values.proofs.json_form.all_from_forms.Goals as goal

pub from_form-requires : goal.from_form-requires
from_form-requires g c =
    stands_at g.T.JsonForm.stands c.args.values.now c.requires.0 c.loop-value.value-index c.value-item.result c.requires.1 c.loop-value-test.true c.value-item.is

pub loop-value-preserved : goal.loop-value-preserved
loop-value-preserved g c =
    items_further g.T.JsonForm.stands c.args.values.now c.loop-value.value-index c.value-item.result c.loop-value.list _ _ c.loop-value-test.true c.value-item.is
    c.loop-value.invariant c.in_ok-from_form.ensures c.in_ok-push.ensures.ok
