use Rattle.std.proofs.Common.{length}
use Rattle.snapshot_blob.proofs.Blamed.{body_fails, head_fails}
use Rattle.snapshot_blob.proofs.Items.{joined}
use Rattle.snapshot_blob.proofs.Whole.{begins, accepted_body}
use Rattle.snapshot_blob.proofs.laws.header_and_body.Goals as goal

pub returns : goal.returns
returns c = record { items = λ blob head n parts. joined blob head n (length blob) parts; begins = begins; accepted = accepted_body; blamed = body_fails; stuck = head_fails }
