use Rattle.std.proofs.Common.{ℕ, List, get_or, subst, ap, arith, rules, Err}
use Rattle.hol_varint.specs.JavaUtf.{UtfStandsAt, UtfEndsInside, IsBadUtf}
use Rattle.schema_model.specs.declared.reason.Reason.TheVariants.{Truncated, BadName}
use Rattle.blob_frame.specs.declared.fault.BlobFault.TheVariants.{Bad}
use Rattle.blob_cursor.proofs.TextReading.{reads_no_length, reads_units, reads_bad_units, reads_short_units, reads_cut_units}
use Rattle.blob_cursor.proofs.cursor.Cursor.units.Goals as goal

pub returns-in_err-need : goal.returns-in_err-need
returns-in_err-need g c = record { reads = reads_no_length c.in_err-need.ensures.needs (search rules) }

pub returns-in_err-spelled : goal.returns-in_err-spelled
returns-in_err-spelled g c = record {
  reads = reads_cut_units _ c.in_ok-need.ensures.needs
      (omega (arith, ap (λ (xs : List ℕ). get_or xs 0 0) c.ahead-ahead.ensures.value, ap (λ (xs : List ℕ). get_or xs 1 0) c.ahead-ahead.ensures.value))
      c.in_err-spelled.ensures.reads (search rules);
}

pub returns-in-Ok : goal.returns-in-Ok
returns-in-Ok g c = record {
  reads = reads_units _ _ c.in_ok-need.ensures.needs
      (omega (arith, ap (λ (xs : List ℕ). get_or xs 0 0) c.ahead-ahead.ensures.value, ap (λ (xs : List ℕ). get_or xs 1 0) c.ahead-ahead.ensures.value))
      c.in_ok-spelled.ensures.reads (subst (λ (xs : List ℕ). UtfStandsAt xs 0 c.in-Ok.units c.in-Ok.field-0-1) c.as_slice.ensures c.in-Ok.ensures.tells);
}

pub returns-in-Err-Short : goal.returns-in-Err-Short
returns-in-Err-Short g c = record {
  reads = reads_short_units _ c.in_ok-need.ensures.needs
      (omega (arith, ap (λ (xs : List ℕ). get_or xs 0 0) c.ahead-ahead.ensures.value, ap (λ (xs : List ℕ). get_or xs 1 0) c.ahead-ahead.ensures.value))
      c.in_ok-spelled.ensures.reads (subst (λ (xs : List ℕ). UtfEndsInside xs) c.as_slice.ensures (c.in-Err-Short.ensures.short.0 (ap Err c.in-Err-Short.field-0-is)))
      (ap (λ at. Err (Bad at Truncated)) c.at-start.ensures);
}

pub returns-in-Err-BadName : goal.returns-in-Err-BadName
returns-in-Err-BadName g c = record {
  reads = reads_bad_units _ c.in_ok-need.ensures.needs
      c.in_ok-spelled.ensures.reads (subst (λ (xs : List ℕ). IsBadUtf xs) c.as_slice.ensures (c.in-Err-BadName.ensures.bad.0 (ap Err c.in-Err-BadName.field-0-is)))
      (ap (λ at. Err (Bad at BadName)) c.at-start.ensures);
}
