use Rattle.record_copies.proofs.Copied.{CopiedSoFar}
use Rattle.record_copies.proofs.record.copy_record.Given as goal

abbrev pub invariant-loop-index : goal.invariant-loop-index
invariant-loop-index g l =
    CopiedSoFar l.schema.shape l.fields l.there.widths.now (g.S.RecordSource.record_words l.from) (g.S.RecordSource.field_bytes l.from) l.there.place l.here.widths.now l.initial.first l.initial.areas l.first l.areas l.here.place l.index l.before l.at
