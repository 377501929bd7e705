use Rattle.std.proofs.Common.{rules}
use Rattle.blob_frame.specs.SchemaForm.{field}
use Rattle.blob_cursor.proofs.Chain.{reads_then, reads_stops, reads_nothing}
use Rattle.blob_cursor.proofs.cursor.Cursor.field.Goals as goal

pub returns-in_err-name : goal.returns-in_err-name
unfolding field
returns-in_err-name g c = record { reads = reads_stops _ c.in_err-name.ensures.reads (search rules) }

pub returns-in_err-type_name : goal.returns-in_err-type_name
unfolding field
returns-in_err-type_name g c = record { reads = reads_then _ c.in_ok-name.ensures.reads (reads_stops _ c.in_err-type_name.ensures.reads (search rules)) }

pub returns-in_err-kind : goal.returns-in_err-kind
unfolding field
returns-in_err-kind g c = record { reads = reads_then _ c.in_ok-name.ensures.reads (reads_then _ c.in_ok-type_name.ensures.reads (reads_stops _ c.in_err-kind.ensures.reads (search rules))) }

pub returns : goal.returns
unfolding field
returns g c = record { reads = reads_then _ c.in_ok-name.ensures.reads (reads_then _ c.in_ok-type_name.ensures.reads (reads_then _ c.in_ok-kind.ensures.reads (reads_nothing c.in_ok-kind.ensures.reads.over))) }
