use Rattle.std.proofs.Common.{refl, rules, ap, Err}
use Rattle.schema_model.specs.declared.reason.Reason.TheVariants.{BadName}
use Rattle.blob_frame.specs.declared.fault.BlobFault.TheVariants.{Bad}
use Rattle.blob_frame.specs.Item.{name}
use Rattle.blob_cursor.proofs.Chain.{reads_judged, reads_unread, reads_refused}
use Rattle.blob_cursor.proofs.cursor.Cursor.utf.Goals as goal

pub returns-in_err-units : goal.returns-in_err-units
unfolding name
returns-in_err-units g c = record { reads = reads_unread _ _ _ c.in_err-units.ensures.reads (search rules) }

pub returns-in-Some : goal.returns-in-Some
unfolding name
returns-in-Some g c = record { reads = reads_judged _ _ _ c.in_ok-units.ensures.reads (search rules) }

pub returns : goal.returns
unfolding name
returns g c =
    let none = rw c.in-None.is at c.in_ok-text.ensures.none in
    record { reads = reads_refused _ _ _ c.in_ok-units.ensures.reads (refl, λ text is. none.0 (search rules) (text, is)) (ap (λ at. Err (Bad at BadName)) c.at-start.ensures) }
