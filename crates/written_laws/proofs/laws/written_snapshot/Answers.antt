use Rattle.written_laws.proofs.SnapshotRead.{snapshot_is, snapshot_read}
use Rattle.written_laws.proofs.laws.written_snapshot.Goals as goal

pub returns : goal.returns
returns c = record {
  snapshot = λ schemas old new origin destination blob are from to short is. snapshot_is schemas old new are origin destination blob from to short is;
  accepted = λ schemas old new origin destination blob are from to short is. snapshot_read schemas old new are origin destination blob from to short is;
}
