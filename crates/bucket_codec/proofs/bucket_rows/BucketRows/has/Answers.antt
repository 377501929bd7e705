use Rattle.std.proofs.Common.{sym, subst}
use Rattle.bucket_codec.specs.Run.{SpellsRun}
use Rattle.bucket_codec.proofs.bucket_rows.BucketRows.has.Goals as goal

pub returns-in-Some : goal.returns-in-Some
returns-in-Some c = λ pairs spelled. c.has.ensures pairs (subst (λ run. SpellsRun run pairs) (sym c.in-Some.ensures.1) spelled.run)
