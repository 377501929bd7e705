use Rattle.row_packing.proofs.PackedOnce.{packed_once}
use Rattle.row_packing.proofs.laws.one_packing_of_places.Goals as goal

pub returns : goal.returns
returns c = packed_once c.one_record_packing.ensures c.one_packing.ensures
