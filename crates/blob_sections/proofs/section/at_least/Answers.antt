use Rattle.std.proofs.Common.{rules, arith, ap, refl, Err}
use Rattle.blob_frame.specs.declared.fault.BlobFault.TheVariants.{Bad}
use Rattle.schema_model.specs.declared.reason.Reason.TheVariants.{BadLength}
use Rattle.blob_cursor.proofs.Chain.{reads_judged, reads_unread, reads_refused}
use Rattle.blob_sections.specs.Section.{at_least}
use Rattle.blob_sections.proofs.section.at_least.Goals as goal

pub returns-in_err-count-clause-reads : goal.returns-in_err-count-clause-reads
unfolding at_least
returns-in_err-count-clause-reads g c = reads_unread _ _ _ c.in_err-count.ensures.reads (search rules)

pub returns-then-from-least-clause-reads : goal.returns-then-from-least-clause-reads
unfolding at_least
returns-then-from-least-clause-reads g c = reads_refused _ _ _ c.in_ok-count.ensures.reads (omega (arith, c.from.ensures), refl) (ap (λ at. Err (Bad at BadLength)) c.at-at.ensures)

pub returns-clause-reads : goal.returns-clause-reads
unfolding at_least
returns-clause-reads g c = reads_judged _ _ _ c.in_ok-count.ensures.reads (refl, omega (arith, c.from.ensures))
