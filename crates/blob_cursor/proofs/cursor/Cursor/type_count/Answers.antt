use Rattle.std.proofs.Common.{rules, arith, ap, refl, Err}
use Rattle.blob_frame.specs.declared.fault.BlobFault.TheVariants.{Bad}
use Rattle.schema_model.specs.declared.reason.Reason.TheVariants.{BadSchema}
use Rattle.blob_grammar.specs.Form.{at_most}
use Rattle.blob_cursor.proofs.Chain.{reads_judged, reads_unread, reads_refused}
use Rattle.blob_cursor.proofs.cursor.Cursor.type_count.Goals as goal

pub returns-in_err-count-clause-reads : goal.returns-in_err-count-clause-reads
unfolding at_most
returns-in_err-count-clause-reads g c = reads_unread _ _ _ c.in_err-count.ensures.reads (search rules)

pub returns-then-count-gt-MAX_TYPES-clause-reads : goal.returns-then-count-gt-MAX_TYPES-clause-reads
unfolding at_most
returns-then-count-gt-MAX_TYPES-clause-reads g c = reads_refused _ _ _ c.in_ok-count.ensures.reads (omega arith, refl) (ap (λ at. Err (Bad at BadSchema)) c.at-at.ensures)

pub returns-clause-reads : goal.returns-clause-reads
unfolding at_most
returns-clause-reads g c = reads_judged _ _ _ c.in_ok-count.ensures.reads (refl, omega arith)
