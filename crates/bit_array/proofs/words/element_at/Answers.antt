use Rattle.std.proofs.Common.{◌*◌, ap, ◌∙◌}
use Rattle.bit_array.proofs.Elements.{element_from}
use Rattle.bit_array.proofs.words.element_at.Goals as goal

pub returns : goal.returns
returns c =
    let index = c.args.index in
    let w = c.args.width in
    let at = ap (λ n. n * c.from-2.result) c.from.ensures ∙ ap (λ n. index * n) c.from-2.ensures in
    c.element.ensures ∙ element_from c.args.words.now (index * w) (c.from.result * c.from-2.result) w c.type_inv.words at
