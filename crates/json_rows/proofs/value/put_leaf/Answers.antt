use Rattle.std.proofs.Common.{◌++◌, ap, ◌∙◌}
use Rattle.serde_json.specs.Written.{compact_text}
use Rattle.json_rows.proofs.Behind.{front_of_try, if_ok_put}
use Rattle.json_rows.proofs.Once.{value_prints_once}
use Rattle.json_rows.proofs.Printed.{value_has_none}
use Rattle.json_rows.proofs.value.put_leaf.Goals as goal

pub returns-clause-put : goal.returns-clause-put
returns-clause-put c =
    if_ok_put c.extend_from_slice.result _ _ _ _ c.extend_from_slice.ensures.items (λ put printed prints.
    put ∙ ap (λ t. c.args.out.now.items ++ t) (c.as_slice.ensures.value
    ∙ c.in_ok-text.ensures.text (value_has_none c.args.value.now _ c.in_ok-leaf_value.ensures)
    ∙ ap compact_text (value_prints_once c.args.value.now _ printed c.in_ok-leaf_value.ensures prints)))

pub returns-clause-front : goal.returns-clause-front
returns-clause-front c = front_of_try c.extend_from_slice.result _ _ _ c.extend_from_slice.ensures.items
