-- The patch of a delta: what it changes, by type, and which patch the bytes of a delta are.
use Rattle.std.specs.Prelude.{◌≡◌, ℕ, ℤ, List, Some, All, Contains, filter, is_some, length, map, slice_get}
use Rattle.std.specs.List.{AllZip}
use Rattle.schema_model.specs.declared.model.rule.Rule.TheVariants.{DuplicateName}
use Rattle.row_model.specs.declared.row.Row.{Row}
use Rattle.schema_model.specs.declared.schema.Schema.{Schema}
use Rattle.schema_model.specs.Model.{IsKept}
use Rattle.schema_model.specs.Growth.{Agree}
use Rattle.schema_model.specs.Parts.{index_of_type}
use Rattle.type_rows.specs.Layout.{Layout}
use Rattle.seen_patches.specs.Patch.{AddsSeen, layout_for, own_for}
use Rattle.blob_frame.specs.declared.header.Header.{Header}
use Rattle.delta_blob.specs.declared.part.DeltaPart.{DeltaPart}
use Rattle.delta_blob.specs.Parts.{delta}

-- What a delta changes of a type that a model has: the index of the type in the model, the model's schema of it, the layout of its new rows, how many bits
-- of the record of an OBJECT the limit on words counts, which are those of the fields that the delta's schema has too, the ordinals that it removes, and
-- those that it adds with the row of each, as the model has it.
pub record TypePatch : Type 0 where
  pub type_index : ℕ
  pub schema : Schema
  pub layout : Layout
  pub own : ℕ
  pub removed : List ℕ
  pub added : List ℕ
  pub rows : List Row

-- A schema of a delta means the type at this index of a model, which has this schema there: they have one name, and agree.
pub record Means (schemas : List Schema) (schema : Schema) (type_index : ℕ) (mine : Schema) : Type 0 where
  pub stands : slice_get schemas type_index ≡ Some mine
  pub named : mine.name ≡ schema.name
  pub agree : Agree mine schema

-- The schema of a part agrees with the model's of its name, if the model has one.
abbrev pub AgreesWith : List Schema → DeltaPart → Type 0
AgreesWith schemas part = All (λ mine. mine.name ≡ part.schema.name → Agree mine part.schema) schemas

-- The schema of a part is the model's of its name.
abbrev pub NamesOwn : List Schema → List DeltaPart → Type 0
NamesOwn schemas parts = All (λ part. Contains schemas part.schema) parts

-- Against a model the part of a type is that of this patch: its schema means the type at the patch's index, and the patch has what the model's schema takes
-- from the section: the layout, what counts of a record, the ordinals, and for the k-th added one the row that place k spells.
pub record PartIs (schemas : List Schema) (part : DeltaPart) (patch : TypePatch) : Type 0 where
  pub means : Means schemas part.schema patch.type_index patch.schema
  pub layout : patch.layout ≡ layout_for patch.schema.shape part.schema.shape part.section
  pub own : patch.own ≡ own_for patch.schema.shape part.schema.shape part.section.widths
  pub removed : patch.removed ≡ part.section.removed
  pub added : patch.added ≡ part.section.added
  pub spelled : AddsSeen patch.schema.shape part.schema.shape part.section patch.rows

-- The parts of the types that the model has, by their names.
abbrev pub parts_for : List Schema → List DeltaPart → List DeltaPart
parts_for schemas parts = filter (λ part. is_some (index_of_type schemas part.schema.name)) parts

-- The parts are those of the patch, type by type; those of types that the model lacks are passed over.
abbrev pub SeesParts : List Schema → List DeltaPart → List TypePatch → Type 0
SeesParts schemas parts patch = AllZip (PartIs schemas) (parts_for schemas parts) patch

-- the schemas of the types
abbrev pub schemas_in : List DeltaPart → List Schema
schemas_in parts = map (λ part. part.schema) parts

-- No two types of the parts have one name, and in none a field's name stands twice.
abbrev pub NamesOnce : List DeltaPart → Type 0
NamesOnce parts = IsKept (schemas_in parts) DuplicateName

-- The blob has the items of a delta: this header and these parts, of which no two are of types of one name, and none of a type in which a
-- field's name stands twice.
pub record DeltaItems (blob : List ℕ) (head : Header) (parts : List DeltaPart) : Type 0 where
  pub items : delta.Stands blob 0 (head, parts) (length blob)
  pub once : NamesOnce parts

-- Against a model the blob is a delta between these tags of this patch: each schema that it names agrees with the model's of its name, and the patch has the
-- types that the model has.
pub record DeltaIs (schemas : List Schema) (blob : List ℕ) (origin destination : ℤ) (patch : List TypePatch) : Type 0 where
  pub head : Header
  pub parts : List DeltaPart
  pub items : DeltaItems blob head parts
  pub from_tag : head.origin ≡ origin
  pub to_tag : head.destination ≡ destination
  pub agree : All (AgreesWith schemas) parts
  pub sees : SeesParts schemas parts patch
