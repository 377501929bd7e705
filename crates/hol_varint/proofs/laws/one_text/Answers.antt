use Rattle.hol_varint.proofs.Characters.{text_once, text_units-are}
use Rattle.hol_varint.proofs.laws.one_text.Goals as goal

pub returns-clause-text : goal.returns-clause-text
returns-clause-text c = text_once

pub returns-clause-units : goal.returns-clause-units
returns-clause-units c = text_units-are
