use Rattle.std.proofs.Common.{rules, refl}
use Rattle.blob_cursor.proofs.Chain.{reads_then, reads_stops, reads_value}
use Rattle.blob_sections.specs.Head.{type_head}
use Rattle.blob_sections.proofs.Heads.{reads_here}
use Rattle.blob_sections.proofs.head.type_head.Goals as goal

pub returns-in_err-schema : goal.returns-in_err-schema
unfolding type_head
returns-in_err-schema g c = record { reads = reads_then _ (reads_here c.requires.over) (reads_stops _ c.in_err-schema.ensures.reads (search rules)) }

pub returns-in_err-shard_envelope : goal.returns-in_err-shard_envelope
unfolding type_head
returns-in_err-shard_envelope g c = record {
  reads = reads_then _ (reads_here c.requires.over) (reads_then _ c.in_ok-schema.ensures.reads (reads_stops _ c.in_err-shard_envelope.ensures.reads (search rules)));
}

pub returns : goal.returns
unfolding type_head
returns g c = record {
  reads = reads_then _ (reads_here c.requires.over) (reads_then _ c.in_ok-schema.ensures.reads (reads_then _ c.in_ok-shard_envelope.ensures.reads
      (reads_value c.in_ok-shard_envelope.ensures.reads.over (rw c.at-at.ensures refl))));
}
