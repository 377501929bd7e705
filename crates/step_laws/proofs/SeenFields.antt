-- The section of a type of a delta has, as the model's schema sees it, a width and an area for each field of the model's schema.
use Rattle.schema_model.specs.declared.schema.Schema.{Schema}
use Rattle.schema_model.specs.declared.schema.Shape.{Shape}
use Rattle.schema_model.specs.Growth.{Agree}
use Rattle.type_rows.specs.declared.patch.PatchSection.{PatchSection}
use Rattle.type_rows.specs.Patches.{places_in}
use Rattle.seen_patches.specs.Patch.{HasColumns}
use Rattle.seen_patches.specs.Seen.{IsSeen}
use Rattle.seen_patches.proofs.Readable.{columns_seen}
use Rattle.blob_faults.proofs.SettledRows.{HasFields}
use Rattle.delta_blob.specs.declared.part.DeltaPart.{DeltaPart}
use Rattle.delta_blob.proofs.SeenParts.{IsPlainPart}

fields_of_columns : (shape : Shape) (section : PatchSection) → HasColumns shape section → HasFields shape (places_in section)
fields_of_columns (Shape.Object key fields) section has = has
fields_of_columns (Shape.List element) section has = tt
fields_of_columns (Shape.Set element) section has = tt
fields_of_columns (Shape.Map key value) section has = tt

pub seen_fields : (mine : Schema) (part : DeltaPart) (seen : PatchSection) → IsPlainPart part → Agree mine part.schema → IsSeen mine.shape part.schema.shape part.section seen
    → HasFields mine.shape (places_in seen)
seen_fields mine part seen plain agree is =
    fields_of_columns mine.shape seen (columns_seen mine.shape part.schema.shape part.section seen agree plain.given.columns is)
