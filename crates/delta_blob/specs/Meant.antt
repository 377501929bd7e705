-- Which type of a model a type of a delta is: the first one of its name, if there is one, where the two agree; its section is seen as the model's schema has it.
use Rattle.std.specs.Prelude.{◌≡◌, ℕ, List, Option, None, Some, slice_get}
use Rattle.schema_model.specs.declared.schema.Schema.{Schema}
use Rattle.schema_model.specs.Growth.{Agree}
use Rattle.schema_model.specs.Parts.{index_of_type}
use Rattle.seen_patches.specs.Seen.{IsSeen}
use Rattle.delta_blob.specs.declared.of_model.NamedPart.{NamedPart}
use Rattle.delta_blob.specs.declared.part.DeltaPart.{DeltaPart}
use Rattle.delta_blob.specs.declared.patch.PatchPart.{PatchPart}

-- The type at this index is the first one of the schema's name, and has this schema.
pub record IsMeant (schemas : List Schema) (schema : Schema) (type_index : ℕ) (mine : Schema) : Type 0 where
  pub first : index_of_type schemas schema.name ≡ Some type_index
  pub stands : slice_get schemas type_index ≡ Some mine

-- The schema agrees with the type at this index, which is the first one of its name.
pub record AgreesAt (schemas : List Schema) (schema : Schema) (type_index : ℕ) : Type 0 where
  pub mine : Schema
  pub meant : IsMeant schemas schema type_index mine
  pub agree : Agree mine schema

-- The schema does not agree with the first type of its name.
pub record Disagrees (schemas : List Schema) (schema : Schema) : Type 0 where
  pub index : ℕ
  pub mine : Schema
  pub meant : IsMeant schemas schema index mine
  pub differs : Agree mine schema → ⊥

-- The schema agrees with the type at this index, or the model has no type of its name.
abbrev pub IsIndexFor : List Schema → Schema → Option ℕ → Type 0
IsIndexFor schemas schema None = index_of_type schemas schema.name ≡ None
IsIndexFor schemas schema (Some t) = AgreesAt schemas schema t

-- The type of a delta is this one of the model.
pub record IsNamed (schemas : List Schema) (part : DeltaPart) (named : NamedPart) : Type 0 where
  pub agrees : AgreesAt schemas part.schema named.type_index
  pub same : named.part ≡ part

-- The type of a delta is this one of the model, or the model has none of its name.
abbrev pub IsNamedPart : List Schema → DeltaPart → Option NamedPart → Type 0
IsNamedPart schemas part None = index_of_type schemas part.schema.name ≡ None
IsNamedPart schemas part (Some named) = IsNamed schemas part named

-- The type of the model has this offset in the blob, and this section, which is the delta's as the model's schema sees it.
pub record IsSeenPart (schemas : List Schema) (named : NamedPart) (seen : PatchPart) : Type 0 where
  pub mine : Schema
  pub stands : slice_get schemas named.type_index ≡ Some mine
  pub type_index : seen.type_index ≡ named.type_index
  pub at : seen.at ≡ named.part.at
  pub section : IsSeen mine.shape named.part.schema.shape named.part.section seen.section
