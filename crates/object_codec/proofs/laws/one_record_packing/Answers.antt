use Rattle.object_codec.proofs.OnePacking.{records_packed_once}
use Rattle.object_codec.proofs.laws.one_record_packing.Goals as goal

pub returns : goal.returns
returns c = λ shape widths rows first first' areas areas'. records_packed_once shape widths rows first first' areas areas' c.one_zigzag.ensures.forth
