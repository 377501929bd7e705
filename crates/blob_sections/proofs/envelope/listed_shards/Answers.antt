use Rattle.std.proofs.Common.{rules}
use Rattle.blob_cursor.proofs.Chain.{reads_then, reads_stops}
use Rattle.blob_sections.specs.Envelope.{listed_shards}
use Rattle.blob_sections.proofs.envelope.listed_shards.Goals as goal

pub returns-in_err-count : goal.returns-in_err-count
unfolding listed_shards
returns-in_err-count g c = record { reads = reads_stops _ c.in_err-count.ensures.reads (search rules) }

pub returns-in_err-skip_counted : goal.returns-in_err-skip_counted
unfolding listed_shards
returns-in_err-skip_counted g c = record {
  reads = reads_then _ c.in_ok-count.ensures.reads (reads_stops _ (c.in_err-skip_counted.ensures.reads _ c.in_ok-count.ensures.reads.over) (search rules));
}

pub returns : goal.returns
unfolding listed_shards
returns g c = record {
  reads = reads_then _ c.in_ok-count.ensures.reads (reads_then _ (c.in_ok-skip_counted.ensures.reads _ c.in_ok-count.ensures.reads.over) c.shards.ensures.reads);
}
