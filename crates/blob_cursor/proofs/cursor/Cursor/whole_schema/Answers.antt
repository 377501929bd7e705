use Rattle.std.proofs.Common.{rules}
use Rattle.blob_frame.specs.SchemaForm.{schema}
use Rattle.blob_cursor.proofs.Chain.{reads_then, reads_stops, reads_nothing}
use Rattle.blob_cursor.proofs.cursor.Cursor.whole_schema.Goals as goal

pub returns-in_err-kind : goal.returns-in_err-kind
unfolding schema
returns-in_err-kind g c = record { reads = reads_stops _ c.in_err-kind.ensures.reads (search rules) }

pub returns-in_err-name : goal.returns-in_err-name
unfolding schema
returns-in_err-name g c = record { reads = reads_then _ c.in_ok-kind.ensures.reads (reads_stops _ c.in_err-name.ensures.reads (search rules)) }

pub returns-in_err-shape : goal.returns-in_err-shape
unfolding schema
returns-in_err-shape g c = record { reads = reads_then _ c.in_ok-kind.ensures.reads (reads_then _ c.in_ok-name.ensures.reads (reads_stops _ c.in_err-shape.ensures.reads (search rules))) }

pub returns : goal.returns
unfolding schema
returns g c = record { reads = reads_then _ c.in_ok-kind.ensures.reads (reads_then _ c.in_ok-name.ensures.reads (reads_then _ c.in_ok-shape.ensures.reads (reads_nothing c.in_ok-shape.ensures.reads.over))) }
