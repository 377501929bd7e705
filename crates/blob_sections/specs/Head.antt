-- What stands in front of a type's section: its schema and its shard envelope.
use Rattle.blob_grammar.specs.Form.{Form, ◌>>=◌, nothing, here}
use Rattle.blob_frame.specs.SchemaForm.{schema}
use Rattle.blob_sections.specs.declared.head.TypeHead.{TypeHead}
use Rattle.blob_sections.specs.Envelope.{shard_envelope}

-- The head of a type: its schema, with the offset of it, and its shard envelope.
unfoldable pub type_head : Form TypeHead
type_head = do
  offset ← here
  of_type ← schema
  _ ← shard_envelope
  nothing (record { at = offset; schema = of_type })
