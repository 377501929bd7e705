use Rattle.std.proofs.Common.{◌∙◌, sym, ap, subst}
use Rattle.std.proofs.lemmas.List.{map-id}
use Rattle.std.proofs.lemmas.Iterator.{YieldsList-from_chars}
use Rattle.std.proofs.lemmas.Iterator.Consumers.{YieldsList-end}
use Rattle.std.specs.List.{flat_map}
use Rattle.std.specs.Char.Escape.{encode_utf16}
use Rattle.hol_varint.specs.TextUnits.{AreUnits}
use Rattle.hol_varint.proofs.Characters.{text_units-are}
use Rattle.hol_varint.proofs.text_units.character_units.Goals as goal

pub returns-clause-ok : goal.returns-clause-ok
returns-clause-ok c =
    let ended = YieldsList-end (YieldsList-from_chars c.args.text.now c.utf8.text cc) c.loop-character.yielded _ c.loop-character.yielded_by _ _ c.in-None.is c.next.ensures.steps in
    c.loop-character.invariant ∙ ap (flat_map encode_utf16) (sym (map-id c.loop-character.yielded) ∙ ended.0)

pub returns-clause-are : goal.returns-clause-are
returns-clause-are c =
    let ended = YieldsList-end (YieldsList-from_chars c.args.text.now c.utf8.text cc) c.loop-character.yielded _ c.loop-character.yielded_by _ _ c.in-None.is c.next.ensures.steps in
    let units_is = c.loop-character.invariant ∙ ap (flat_map encode_utf16) (sym (map-id c.loop-character.yielded) ∙ ended.0) in
    subst AreUnits (sym units_is) (text_units-are c.args.text.now c.utf8.text)
