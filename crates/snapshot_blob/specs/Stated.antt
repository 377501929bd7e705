-- The state that the types of a snapshot stand for, and when it keeps the limits.
use Rattle.std.specs.Prelude.{◌≡◌, ◌≤◌, List, map}
use Rattle.std.specs.List.{AllZip}
use Rattle.schema_model.specs.declared.limit.Limit.{Limit}
use Rattle.schema_model.specs.declared.limit.Limit.TheVariants.{Ordinals, Items, Words, Bytes}
use Rattle.schema_model.specs.declared.schema.Schema.{Schema}
use Rattle.schema_model.specs.Limit.{number_of_limit}
use Rattle.schema_model.specs.declared.model.rule.Rule.TheVariants.{TooMany, LongName}
use Rattle.schema_model.specs.Model.{IsKept, IsModel}
use Rattle.row_model.specs.Table.{RowMap, IsClosed}
use Rattle.type_state.specs.State.{Half, State, IsLaidOut, empty_half}
use Rattle.type_rows.specs.Layout.{places_of, record_bits}
use Rattle.type_rows.specs.Loads.{SectionIs, Loads, layout_of}
use Rattle.type_rows.specs.Holds.{Holds, KeepsLimits}
use Rattle.type_state.specs.Views.{table_of}
use Rattle.type_rows.specs.WellFormed.{IsReadable}
use Rattle.blob_frame.specs.declared.fault.BlobFault.{BlobFault}
use Rattle.blob_frame.specs.declared.fault.BlobFault.TheVariants as fault
use Rattle.snapshot_blob.specs.declared.part.TypePart.{TypePart}

-- the schemas of the types
abbrev pub schemas_of : List TypePart → List Schema
schemas_of parts = map (λ part. part.schema) parts

-- A type's part of the blob is that of this layout and these rows, which the layout holds.
pub record TypeIs (part : TypePart) (half : Half) : Type 0 where
  pub layout : half.layout ≡ layout_of part.section
  pub rows : SectionIs part.schema.shape part.section half.rows
  pub held : Holds part.schema.shape (layout_of part.section) half.rows

-- The parts are those of this state: their schemas are a model, each type's part is that of its rows, and each ordinal
-- that a row names is live.
pub record PartsAre (parts : List TypePart) (schemas : List Schema) (halves : List Half) : Type 0 where
  pub named : schemas_of parts ≡ schemas
  pub model : IsModel schemas
  pub types : AllZip TypeIs parts halves
  pub closed : IsClosed schemas (table_of halves)

-- The limits on a type's ordinals, and on its elements or buckets, are kept.
pub record KeepsCounts (part : TypePart) : Type 0 where
  pub ordinals : places_of part.section.max ≤ number_of_limit Ordinals
  pub items : part.section.total ≤ number_of_limit Items

-- These limits are kept, and those on its words and bytes.
pub record KeepsTypeLimits (part : TypePart) (half : Half) : Type 0 where
  pub counts : KeepsCounts part
  pub kept : KeepsLimits part.schema.shape (record_bits part.schema.shape part.section.widths) (layout_of part.section) half.rows

-- The parts are those of this state, and no limit of a type is passed.
abbrev pub AreAccepted : List TypePart → List Schema → List Half → Type 0
AreAccepted parts schemas halves = PartsAre parts schemas halves × AllZip KeepsTypeLimits parts halves

-- There are no more types and fields, and no longer texts, than can stand in a blob: two rules of models are kept.
pub record CanStand (schemas : List Schema) : Type 0 where
  pub few : IsKept schemas TooMany
  pub short : IsKept schemas LongName

-- The limits that a type of a snapshot may pass.
abbrev pub IsTypeLimit : Limit → Type 0
IsTypeLimit Ordinals = Unit {0}
IsTypeLimit Items = Unit {0}
IsTypeLimit Words = Unit {0}
IsTypeLimit Bytes = Unit {0}
IsTypeLimit _ = ⊥

-- Want of memory, which the state of some types may answer in place of any fault.
abbrev pub IsWant : BlobFault → Type 0
IsWant fault.Memory = Unit {0}
IsWant _ = ⊥

-- The faults that the state of some types answers.
abbrev pub IsStateFault : BlobFault → Type 0
IsStateFault (fault.Bad place why) = Unit {0}
IsStateFault (fault.BadRow place why of ordinal) = Unit {0}
IsStateFault (fault.Large limit) = IsTypeLimit limit
IsStateFault fault.Memory = Unit {0}
IsStateFault _ = ⊥

-- A type's part has these rows, which load.
abbrev pub LoadsPart : TypePart → RowMap → Type 0
LoadsPart part rows = Loads part.schema.shape part.section rows

-- A type was loaded from its part, which could be read, into the next half of a state whose current half is empty.
pub record IsLoadedFrom (part : TypePart) (state : State) : Type 0 where
  pub readable : IsReadable part.schema.shape part.section
  pub schema : state.schema ≡ part.schema
  pub current : state.current ≡ empty_half
  pub layout : state.other.layout ≡ layout_of part.section
  pub laid : IsLaidOut state.schema state.other
  pub loads : LoadsPart part state.other.rows
