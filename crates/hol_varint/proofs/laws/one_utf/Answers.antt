use Rattle.hol_varint.proofs.JavaTexts.{utf_apart}
use Rattle.hol_varint.proofs.laws.one_utf.Goals as goal

pub returns : goal.returns
returns c = utf_apart
