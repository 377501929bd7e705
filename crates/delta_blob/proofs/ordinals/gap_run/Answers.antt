use Rattle.std.proofs.Common.{List, ℕ, length, Err, ap, refl, rules, arith, subst}
use Rattle.schema_model.specs.declared.reason.Reason.TheVariants.{BadVarint}
use Rattle.ordinal_set.specs.Gaps.{Gaps}
use Rattle.blob_frame.specs.declared.fault.BlobFault.TheVariants.{Bad}
use Rattle.blob_cursor.proofs.Chain.{reads_judged, reads_unread, reads_refused}
use Rattle.delta_blob.specs.Ordinals.{gap_run}
use Rattle.delta_blob.proofs.AddedItems.{gaps_short, no_gaps}
use Rattle.delta_blob.proofs.ordinals.gap_run.Goals as goal

pub returns-in_err-bytes-clause-reads : goal.returns-in_err-bytes-clause-reads
unfolding gap_run
returns-in_err-bytes-clause-reads g c = reads_unread _ _ _ c.in_err-bytes.ensures.reads (search rules)

pub returns-in-Ok-clause-reads : goal.returns-in-Ok-clause-reads
unfolding gap_run
returns-in-Ok-clause-reads g c =
    reads_judged _ _ _ c.in_ok-bytes.ensures.reads (subst (λ (bytes : List ℕ). Gaps bytes c.in-Ok.list) c.as_slice.ensures c.in-Ok.ensures.tells)

pub returns-in-Ok-clause-few : goal.returns-in-Ok-clause-few
returns-in-Ok-clause-few g c =
    omega (
      arith,
      gaps_short 0 c.as_slice.result.now c.in-Ok.list c.in-Ok.ensures.tells,
      ap (λ (bytes : List ℕ). length bytes) c.as_slice.ensures,
      c.in_ok-bytes.ensures.few,
    )

pub returns-in-Err-Bad-clause-reads : goal.returns-in-Err-Bad-clause-reads
unfolding gap_run
returns-in-Err-Bad-clause-reads g c =
    let none = no_gaps c.as_slice.result.now c.in-Err-Bad.field-0 c.in-Err-Bad.field-0-0 c.in-Err-Bad.field-0-is (λ list. c.in-Err-Bad.ensures.found list) in
    reads_refused _ _ _ c.in_ok-bytes.ensures.reads
    (subst (λ (bytes : List ℕ). (list : List ℕ) → Gaps bytes list → ⊥) c.as_slice.ensures none, refl)
    (ap (λ at. Err (Bad at BadVarint)) c.at-at.ensures)
