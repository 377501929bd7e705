use Rattle.std.proofs.Common.{rules}
use Rattle.blob_frame.specs.SchemaForm.{field_kind_of}
use Rattle.blob_cursor.proofs.Chain.{reads_made, reads_unmade, reads_nothing}
use Rattle.blob_cursor.proofs.cursor.Cursor.field_kind.Goals as goal

pub returns-in_err-to-in-Reference : goal.returns-in_err-to-in-Reference
unfolding field_kind_of
returns-in_err-to-in-Reference g c = record { reads = rw c.in-Reference.is (reads_unmade _ c.in_err-to-in-Reference.ensures.reads (search rules)) }

pub returns-in_ok-to-in-Reference : goal.returns-in_ok-to-in-Reference
unfolding field_kind_of
returns-in_ok-to-in-Reference g c = record { reads = rw c.in-Reference.is (reads_made _ c.in_ok-to-in-Reference.ensures.reads (search rules)) }

pub returns-in-Int : goal.returns-in-Int
unfolding field_kind_of
returns-in-Int g c = record { reads = rw c.in-Int.is (reads_nothing c.requires.over) }

pub returns-in-Long : goal.returns-in-Long
unfolding field_kind_of
returns-in-Long g c = record { reads = rw c.in-Long.is (reads_nothing c.requires.over) }

pub returns-in-Boolean : goal.returns-in-Boolean
unfolding field_kind_of
returns-in-Boolean g c = record { reads = rw c.in-Boolean.is (reads_nothing c.requires.over) }

pub returns-in-Text : goal.returns-in-Text
unfolding field_kind_of
returns-in-Text g c = record { reads = rw c.in-Text.is (reads_nothing c.requires.over) }

pub returns-in-Bytes : goal.returns-in-Bytes
unfolding field_kind_of
returns-in-Bytes g c = record { reads = rw c.in-Bytes.is (reads_nothing c.requires.over) }
