use Rattle.std.proofs.Common.{rules, ap, Err}
use Rattle.blob_frame.specs.declared.fault.BlobFault.TheVariants.{Bad}
use Rattle.blob_frame.specs.SchemaForm.{schema_kind}
use Rattle.blob_cursor.proofs.Chain.{reads_judged, reads_unread, reads_refused}
use Rattle.blob_cursor.proofs.cursor.Cursor.schema_kind.Goals as goal

pub returns-in_err-byte : goal.returns-in_err-byte
unfolding schema_kind
returns-in_err-byte g c = record { reads = reads_unread _ _ _ c.in_err-byte.ensures.reads (search rules) }

pub returns-in-Ok : goal.returns-in-Ok
unfolding schema_kind
returns-in-Ok g c = record { reads = reads_judged _ _ _ c.in_ok-byte.ensures.reads c.in-Ok.ensures }

pub returns-in-Err : goal.returns-in-Err
unfolding schema_kind
returns-in-Err g c = record { reads = reads_refused _ _ _ c.in_ok-byte.ensures.reads c.in-Err.ensures (ap (λ at. Err (Bad at c.in-Err.reason)) c.at-at.ensures) }
