use Rattle.schema_model.specs.declared.schema.Field.{Field}
use Rattle.type_rows.specs.WellFormed.{IsWidth}
use Rattle.blob_cursor.specs.Scene.{scene}
use Rattle.blob_sections.specs.Width.{field_width}
use Rattle.blob_sections.proofs.Each.{Walks}
use Rattle.blob_sections.proofs.widths.field_widths.Given as goal

abbrev pub invariant-loop-field : goal.invariant-loop-field
invariant-loop-field g l = Walks (λ (field : Field). field_width l.max field.kind) (λ (field : Field) width. IsWidth l.max field.kind width) l.fields l.field-index
    (scene (g.S.BlobStore.seen l.initial.store) l.initial.cursor) (scene (g.S.BlobStore.seen l.store) l.cursor) l.widths
