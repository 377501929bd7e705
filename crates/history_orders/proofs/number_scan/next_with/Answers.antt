use Rattle.std.proofs.Common.{ℕ, ap, ◌+◌, ◌*◌, ◌∙◌}
use Rattle.bit_array.specs.Element.{element_of}
use Rattle.history_orders.proofs.Scanning.{lacks_none, lacks_more}
use Rattle.history_orders.proofs.number_scan.next_with.Goals as goal

pub loop-place-init : goal.loop-place-init
loop-place-init c = lacks_none c.args.column.now c.args.number c.args.from

pub loop-place-preserved : goal.loop-place-preserved
loop-place-preserved c =
    let column = c.args.column.now in
    lacks_more column c.args.number c.args.from c.loop-place.place c.loop-place.invariant
    (λ same. c.if-two_word_element-number.false
    (c.two_word_element.ensures ∙ ap (λ (p : ℕ). element_of column.first.now (p * column.size + column.before) column.width) c.from.ensures ∙ same))
