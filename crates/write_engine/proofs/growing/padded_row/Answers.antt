use Rattle.std.proofs.Common.{◌≡◌, ◌∷◌, ◌++◌, [], List, get_or, sym, ap, ◌∙◌, arith}
use Rattle.row_model.specs.declared.row.Value.{Value}
use Rattle.write_engine.proofs.GrownRows.{padded_more}
use Rattle.write_engine.proofs.growing.padded_row.Goals as goal

pub loop-place-preserved : goal.loop-place-preserved
loop-place-preserved c =
    let values = c.in-Object.values in
    let place = c.loop-place.place in
    let value : c.in_ok-value_or_null.field-0 ≡ get_or values place Value.Null = c.in_ok-value_or_null.ensures ∙ ap (λ (vs : List Value). get_or vs place Value.Null) c.as_slice.ensures in
    c.in_ok-push.ensures.ok ∙ (λ i. c.loop-place.invariant i ++ value i ∷ []) ∙ sym (padded_more values c.args.count place (omega arith))
