use Rattle.std.proofs.Common.{rules, refl}
use Rattle.blob_grammar.specs.Form.{envelope}
use Rattle.blob_cursor.proofs.Chain.{reads_then, reads_stops}
use Rattle.blob_cursor.proofs.Envelopes.{reads_unlisted, reads_listed}
use Rattle.blob_sections.specs.Envelope.{listed_shards, shard_envelope}
use Rattle.blob_sections.proofs.envelope.shard_envelope.Goals as goal

pub returns-in_err-number : goal.returns-in_err-number
unfolding shard_envelope envelope
returns-in_err-number g c = record { reads = reads_stops _ c.in_err-number.ensures.reads (search rules) }

pub returns-then-number-eq0 : goal.returns-then-number-eq0
unfolding shard_envelope envelope
returns-then-number-eq0 g c = record {
  reads = reads_then _ c.in_ok-number.ensures.reads (reads_unlisted tt listed_shards c.in_ok-number.number (search rules) c.in_ok-number.ensures.reads.over refl);
}

pub returns : goal.returns
unfolding shard_envelope envelope
returns g c = record { reads = reads_then _ c.in_ok-number.ensures.reads (reads_listed tt listed_shards c.in_ok-number.number (search rules) c.listed_shards.ensures.reads) }
