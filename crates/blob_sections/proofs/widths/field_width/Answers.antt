use Rattle.std.proofs.Common.{rules, ap, refl, Err}
use Rattle.blob_frame.specs.declared.fault.BlobFault.TheVariants.{Bad}
use Rattle.schema_model.specs.declared.reason.Reason.TheVariants.{BadWidth}
use Rattle.blob_cursor.proofs.Chain.{reads_judged, reads_unread, reads_refused}
use Rattle.blob_sections.specs.Width.{field_width}
use Rattle.blob_sections.proofs.widths.field_width.Goals as goal

pub returns-in_err-width-clause-reads : goal.returns-in_err-width-clause-reads
unfolding field_width
returns-in_err-width-clause-reads g c = reads_unread _ _ _ c.in_err-width.ensures.reads (search rules)

pub returns-then-not-is_width-clause-reads : goal.returns-then-not-is_width-clause-reads
unfolding field_width
returns-then-not-is_width-clause-reads g c = reads_refused _ _ _ c.in_ok-width.ensures.reads (search rules, refl) (ap (λ at. Err (Bad at BadWidth)) c.at-at.ensures)

pub returns-clause-reads : goal.returns-clause-reads
unfolding field_width
returns-clause-reads g c = reads_judged _ _ _ c.in_ok-width.ensures.reads (refl, search rules)
