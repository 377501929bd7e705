-- The bytes of a snapshot: its header, and behind it for each type its head and its section.
use Rattle.std.specs.Prelude.{List}
use Rattle.schema_model.specs.declared.schema.Shape.{Shape}
use Rattle.type_rows.specs.declared.section.Section.{Section}
use Rattle.blob_grammar.specs.Form.{Form, ◌>>=◌, nothing, at_most, counted, both}
use Rattle.blob_frame.specs.declared.header.Header.{Header}
use Rattle.blob_frame.specs.Item.{vint, end}
use Rattle.blob_frame.specs.Header.{header}
use Rattle.blob_sections.specs.Head.{type_head}
use Rattle.blob_sections.specs.Section.{max_ordinal, packed_rows, section_with}
use Rattle.blob_sections.specs.Population.{population}
use Rattle.snapshot_blob.specs.declared.part.TypePart.{TypePart}

-- The section of a type of this shape: the max ordinal, the packed rows and the population.
unfoldable pub section_of : Shape → Form Section
section_of shape = do
  max ← max_ordinal
  rows ← packed_rows shape max
  live ← population
  nothing (section_with max rows live)

-- A type: its head and its section.
unfoldable pub type_part : Form TypePart
type_part = do
  head ← type_head
  rows ← section_of head.schema.shape
  nothing (record { at = head.at; schema = head.schema; section = rows })

-- The types of a snapshot, of which there are 512 at most, and the end of the blob behind them.
unfoldable pub body : Form (List TypePart)
body = do
  parts ← counted (at_most vint 512) type_part
  _ ← end
  nothing parts

-- A snapshot, up to the end of the blob.
unfoldable pub snapshot : Form (Header × List TypePart)
snapshot = both header body
