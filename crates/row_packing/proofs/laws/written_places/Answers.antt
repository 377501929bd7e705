use Rattle.row_packing.proofs.WrittenSections as written
use Rattle.row_packing.proofs.laws.written_places.Goals as goal

pub returns : goal.returns
returns c = written.places_spell
