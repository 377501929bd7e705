use Rattle.std.proofs.Common.{rules, ap, sym, ◌∙◌, subst, Err, ℕ, List}
use Rattle.blob_frame.specs.declared.fault.BlobFault.TheVariants.{Bad}
use Rattle.blob_frame.specs.SchemaForm.{field_type}
use Rattle.blob_grammar.specs.Words.{IsRefusedType}
use Rattle.blob_cursor.proofs.Chain.{reads_judged, reads_unread, reads_refused}
use Rattle.blob_cursor.proofs.cursor.Cursor.field_type.Goals as goal

pub returns-in_err-text : goal.returns-in_err-text
unfolding field_type
returns-in_err-text g c = record { reads = reads_unread _ _ _ c.in_err-text.ensures.reads (search rules) }

pub returns-in-Ok : goal.returns-in-Ok
unfolding field_type
returns-in-Ok g c = record { reads = reads_judged _ _ _ c.in_ok-text.ensures.reads (sym c.text-2.ensures ∙ c.in-Ok.ensures) }

pub returns : goal.returns
unfolding field_type
returns g c = record {
  reads = reads_refused _ _ _ c.in_ok-text.ensures.reads
      (subst (λ (xs : List ℕ). IsRefusedType xs c.in-Err.reason) c.text-2.ensures c.in-Err.ensures) (ap (λ at. Err (Bad at c.in-Err.reason)) c.at-at.ensures);
}
