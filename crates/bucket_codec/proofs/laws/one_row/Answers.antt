use Rattle.bucket_codec.proofs.PlaceRows.{row_once, reason_once, row_or_reason}
use Rattle.bucket_codec.proofs.laws.one_row.Goals as goal

pub returns : goal.returns
returns c = record { row = row_once; reason = reason_once; apart = row_or_reason }
