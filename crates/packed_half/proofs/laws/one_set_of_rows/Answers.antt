use Rattle.type_rows.proofs.SectionRows.{one_state}
use Rattle.packed_half.specs.Half.{section_in}
use Rattle.packed_half.proofs.laws.one_set_of_rows.Goals as goal

pub returns : goal.returns
returns c = λ shape half words a b first second. one_state shape (section_in shape half words) a b first.is second.is
