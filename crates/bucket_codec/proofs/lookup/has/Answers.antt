use Rattle.std.proofs.Common.{sym, subst}
use Rattle.bucket_codec.specs.Run.{SpellsRun}
use Rattle.bucket_codec.proofs.lookup.has.Goals as goal

pub returns : goal.returns
returns c = λ pairs spelled. c.has.ensures pairs (subst (λ run. SpellsRun run pairs) (sym c.between.ensures) spelled)
