use Rattle.std.proofs.Common.{rules, ap, refl, Err}
use Rattle.blob_frame.specs.declared.fault.BlobFault.TheVariants.{Bad}
use Rattle.schema_model.specs.declared.reason.Reason.TheVariants.{Sharded}
use Rattle.blob_cursor.proofs.Chain.{reads_judged, reads_unread, reads_refused}
use Rattle.blob_sections.specs.Envelope.{shards}
use Rattle.blob_sections.proofs.envelope.shards.Goals as goal

pub returns-in_err-number : goal.returns-in_err-number
unfolding shards
returns-in_err-number g c = record { reads = reads_unread _ _ _ c.in_err-number.ensures.reads (search rules) }

pub returns-then-number-ne1 : goal.returns-then-number-ne1
unfolding shards
returns-then-number-ne1 g c = record { reads = reads_refused _ _ _ c.in_ok-number.ensures.reads (search rules, refl) (ap (λ at. Err (Bad at Sharded)) c.at-at.ensures) }

pub returns : goal.returns
unfolding shards
returns g c = record { reads = reads_judged _ _ _ c.in_ok-number.ensures.reads (search rules) }
