use Rattle.std.proofs.Common.{rules}
use Rattle.blob_frame.specs.Header.{listed_schemas}
use Rattle.blob_cursor.proofs.Chain.{reads_then, reads_stops, reads_nothing}
use Rattle.blob_cursor.proofs.cursor.Cursor.listed_schemas.Goals as goal

pub returns-in_err-listed : goal.returns-in_err-listed
unfolding listed_schemas
returns-in_err-listed g c = record { reads = reads_stops _ c.in_err-listed.ensures.reads (search rules) }

pub returns-in_err-count : goal.returns-in_err-count
unfolding listed_schemas
returns-in_err-count g c = record { reads = reads_then _ c.in_ok-listed.ensures.reads (reads_stops _ c.in_err-count.ensures.reads (search rules)) }

pub returns-in_err-skip_counted : goal.returns-in_err-skip_counted
unfolding listed_schemas
returns-in_err-skip_counted g c = record {
  reads = reads_then _ c.in_ok-listed.ensures.reads (reads_then _ c.in_ok-count.ensures.reads
      (reads_stops _ (c.in_err-skip_counted.ensures.reads _ c.in_ok-count.ensures.reads.over) (search rules)));
}

pub returns : goal.returns
unfolding listed_schemas
returns g c =
    let past = c.in_ok-skip_counted.ensures.reads _ c.in_ok-count.ensures.reads.over in
    record { reads = reads_then _ c.in_ok-listed.ensures.reads (reads_then _ c.in_ok-count.ensures.reads (reads_then _ past (reads_nothing past.over))) }
