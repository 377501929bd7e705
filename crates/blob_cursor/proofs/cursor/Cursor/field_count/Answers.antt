use Rattle.std.proofs.Common.{rules, arith, ap, refl, Err}
use Rattle.blob_frame.specs.declared.fault.BlobFault.TheVariants.{Bad}
use Rattle.schema_model.specs.declared.reason.Reason.TheVariants.{BadSchema}
use Rattle.blob_grammar.specs.Form.{at_most}
use Rattle.blob_cursor.proofs.Chain.{reads_judged, reads_unread, reads_refused}
use Rattle.blob_cursor.proofs.cursor.Cursor.field_count.Goals as goal

pub returns-in_err-count : goal.returns-in_err-count
unfolding at_most
returns-in_err-count g c = record { reads = reads_unread _ _ _ c.in_err-count.ensures.reads (search rules) }

pub returns-then-count-gt-MAX_FIELDS : goal.returns-then-count-gt-MAX_FIELDS
unfolding at_most
returns-then-count-gt-MAX_FIELDS g c = record { reads = reads_refused _ _ _ c.in_ok-count.ensures.reads (omega arith, refl) (ap (λ at. Err (Bad at BadSchema)) c.at-at.ensures) }

pub returns : goal.returns
unfolding at_most
returns g c = record { reads = reads_judged _ _ _ c.in_ok-count.ensures.reads (refl, omega arith) }
