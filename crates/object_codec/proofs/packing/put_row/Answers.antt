use Rattle.object_codec.proofs.FieldWidths.{record_fits}
use Rattle.object_codec.proofs.packing.put_row.Goals as goal

pub layout_of-layout-requires : goal.layout_of-layout-requires
layout_of-layout-requires c = record_fits _ _ _ _ _ c.requires.holds
