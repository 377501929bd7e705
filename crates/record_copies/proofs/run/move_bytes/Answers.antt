use Rattle.std.proofs.Common.{arith}
use Rattle.object_codec.proofs.BytesInWords.{bytes_long}
use Rattle.record_copies.proofs.run.move_bytes.Goals as goal

pub between-requires-clause-within : goal.between-requires-clause-within
between-requires-clause-within c = omega (arith, c.start-end.ensures, c.requires.inside, bytes_long c.args.bytes.words.now c.args.bytes.start c.args.bytes.len)
