use Rattle.list_codec.proofs.OnePacking.{lists_packed_once}
use Rattle.list_codec.proofs.laws.one_list_packing.Goals as goal

pub returns : goal.returns
returns c = lists_packed_once
