use Rattle.std.proofs.Common.{rules, arith}
use Rattle.std.proofs.lemmas.Int.{ints, to_z-of_z}
use Rattle.blob_frame.specs.Item.{signed}
use Rattle.blob_cursor.proofs.Chain.{reads_judged, reads_unread}
use Rattle.blob_cursor.proofs.cursor.Cursor.signed.Goals as goal

pub returns-in_err-be64 : goal.returns-in_err-be64
unfolding signed
returns-in_err-be64 g c = record { reads = reads_unread _ _ _ c.in_err-be64.ensures.reads (search rules) }

pub returns : goal.returns
unfolding signed
returns g c = record { reads = reads_judged _ _ _ c.in_ok-be64.ensures.reads (grind (arith, ints, to_z-of_z)) }
