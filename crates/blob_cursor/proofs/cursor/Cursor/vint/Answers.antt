use Rattle.std.proofs.Common.{◌^◌, ap, arith, rules, Err}
use Rattle.schema_model.specs.declared.reason.Reason.TheVariants.{BadVarint}
use Rattle.blob_frame.specs.declared.fault.BlobFault.TheVariants.{Bad}
use Rattle.blob_cursor.proofs.Numbers.{reads_lower, reads_over, reads_no_number}
use Rattle.blob_cursor.proofs.cursor.Cursor.vint.Goals as goal

pub returns-in_err-number-clause-reads : goal.returns-in_err-number-clause-reads
returns-in_err-number-clause-reads g c = reads_no_number (2 ^ 64) (2 ^ 32) (omega arith) c.in_err-number.ensures.reads (search rules)

pub returns-then-number-from-clause-reads : goal.returns-then-number-from-clause-reads
returns-then-number-from-clause-reads g c =
    reads_over (2 ^ 64) (2 ^ 32) c.in_ok-number.ensures.reads (omega arith) (ap (λ at. Err (Bad at BadVarint)) c.at-at.ensures)

pub returns-clause-reads : goal.returns-clause-reads
returns-clause-reads g c = reads_lower (2 ^ 64) (2 ^ 32) c.in_ok-number.ensures.reads (omega arith)
