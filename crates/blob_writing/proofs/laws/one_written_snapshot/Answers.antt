use Rattle.blob_writing.proofs.OneSnapshot.{snapshot_once}
use Rattle.blob_writing.proofs.laws.one_written_snapshot.Goals as goal

pub returns : goal.returns
returns c = λ schemas old new origin destination a b model can. snapshot_once c.one_packing_of_places.ensures schemas model old new can origin destination a b
