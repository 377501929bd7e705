use Rattle.std.proofs.Common.{rules}
use Rattle.blob_frame.specs.Header.{header_tags, name_pair}
use Rattle.blob_cursor.proofs.Counting.{reads_counted, reads_uncounted}
use Rattle.blob_cursor.proofs.cursor.Cursor.header_tags.Goals as goal

pub returns-in_err-count : goal.returns-in_err-count
unfolding header_tags name_pair
returns-in_err-count g c = record { reads = reads_uncounted _ c.in_err-count.ensures.reads (search rules) }

pub returns : goal.returns
unfolding header_tags name_pair
returns g c = record { reads = reads_counted _ c.in_ok-count.ensures.reads c.from.ensures c.counted.ensures.reads }
