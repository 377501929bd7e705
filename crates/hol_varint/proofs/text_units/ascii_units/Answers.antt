use Rattle.std.proofs.Common.{◌≡◌, ◌∙◌, subst, sym}
use Rattle.hol_varint.specs.TextUnits.{AreUnits}
use Rattle.hol_varint.proofs.Characters.{ascii_are, ascii_units}
use Rattle.std.proofs.lemmas.Grind.{common_steps}
use Rattle.std.proofs.Common.{arith}
use Rattle.hol_varint.proofs.text_units.ascii_units.Goals as goal

pub returns-clause-ok : goal.returns-clause-ok
returns-clause-ok c =
    let whole : c.loop-byte.units.items ≡ c.args.text.now = grind (arith, common_steps) in
    whole ∙ sym (ascii_units c.args.text.now c.requires)

pub returns-clause-are : goal.returns-clause-are
returns-clause-are c =
    let whole : c.loop-byte.units.items ≡ c.args.text.now = grind (arith, common_steps) in
    subst AreUnits (sym whole) (ascii_are c.args.text.now c.requires)
