use Rattle.std.proofs.Common.{sym, ◌∙◌, arith}
use Rattle.std.proofs.lemmas.List.{get_or_past}
use Rattle.packed_half.proofs.Areas.{area_long}
use Rattle.packed_half.proofs.cut.CutWordsParts.area.Goals as goal

pub returns-then-field-self : goal.returns-then-field-self
returns-then-field-self c = sym (area_long c.args.self.now.bytes.now c.args.self.now.lengths.now c.args.field)

pub returns-else-field-self : goal.returns-else-field-self
returns-else-field-self c =
    let self = c.args.self.now in
    let past = c.if-field-self.false in
    sym (get_or_past self.lengths.now c.args.field 0 (omega arith)) ∙ sym (area_long self.bytes.now self.lengths.now c.args.field)
