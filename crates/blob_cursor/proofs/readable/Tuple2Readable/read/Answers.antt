use Rattle.std.proofs.Common.{rules}
use Rattle.blob_grammar.specs.Form.{both}
use Rattle.blob_cursor.proofs.Chain.{reads_then, reads_stops, reads_nothing}
use Rattle.blob_cursor.proofs.readable.Tuple2Readable.read.Goals as goal

pub returns-in_err-first : goal.returns-in_err-first
unfolding both
returns-in_err-first g c = record { reads = reads_stops _ c.in_err-first.ensures.reads (search rules) }

pub returns-in_err-second : goal.returns-in_err-second
unfolding both
returns-in_err-second g c = record { reads = reads_then _ c.in_ok-first.ensures.reads (reads_stops _ c.in_err-second.ensures.reads (search rules)) }

pub returns : goal.returns
unfolding both
returns g c = record { reads = reads_then _ c.in_ok-first.ensures.reads (reads_then _ c.in_ok-second.ensures.reads (reads_nothing c.in_ok-second.ensures.reads.over)) }
