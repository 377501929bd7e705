use Rattle.type_rows.proofs.RecordWalks.{Adding}
use Rattle.type_state.proofs.coming.add_record.Given as goal

abbrev pub invariant-loop-index : goal.invariant-loop-index
invariant-loop-index l = Adding l.fields l.widths l.first l.areas l.place l.fn.ends l.ends l.index l.at l.bytes
