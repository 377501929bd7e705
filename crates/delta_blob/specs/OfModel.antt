-- The types of a delta against a model: which of its types they are, and what a fault of them tells.
use Rattle.std.specs.Prelude.{◌≡◌, ◌≤◌, ◌⊎◌, ℕ, List, Option, Some, Result, Ok, Err, length, option_map, slice_get}
use Rattle.schema_model.specs.declared.model.rule.Rule.TheVariants.{LongName, TooMany}
use Rattle.schema_model.specs.declared.schema.Schema.{Schema}
use Rattle.schema_model.specs.Growth.{Agree}
use Rattle.schema_model.specs.Model.{IsKept}
use Rattle.schema_model.specs.Parts.{fields_of}
use Rattle.blob_frame.specs.declared.fault.BlobFault.{BlobFault}
use Rattle.blob_frame.specs.declared.fault.BlobFault.TheVariants as fault
use Rattle.blob_cursor.specs.Scene.{IsFree}
use Rattle.blob_faults.specs.Judge.{Judge, each_of}
use Rattle.blob_faults.specs.Models.{names_once}
use Rattle.delta_blob.specs.declared.of_model.NamedPart.{NamedPart}
use Rattle.delta_blob.specs.declared.part.DeltaPart.{DeltaPart}
use Rattle.delta_blob.specs.Judged.{counts_of, of_model, offsets_in, those_there}
use Rattle.delta_blob.specs.Meant.{Disagrees, IsIndexFor}
use Rattle.delta_blob.specs.Parts.{IsWellFormedPart}
use Rattle.delta_blob.specs.Patch.{schemas_in}
use Rattle.delta_blob.specs.Reads.{IsCountLimit, KeepsCounts}

-- There are no more types, and no more fields in a type, than a model may have, and no text of them is too long: so it is with all types that stand
-- in a blob.
pub record AreSpelled (parts : List DeltaPart) : Type 0 where
  pub few : IsKept (schemas_in parts) TooMany
  pub short : IsKept (schemas_in parts) LongName

-- The type has no more fields than one of a model may have.
abbrev pub HasFewFields : DeltaPart → Type 0
HasFewFields part = length (fields_of part.schema) ≤ 1024

-- The type is the one at this index of the model, with its schema.
abbrev pub IsOwnAt : List Schema → DeltaPart → ℕ → Type 0
IsOwnAt schemas part t = slice_get schemas t ≡ Some part.schema

-- That no name of the types stands twice.
abbrev pub names_in : List DeltaPart → Judge Unit
names_in parts = names_once (offsets_in parts) (schemas_in parts)

-- What each answer tells of the index that a schema means.
abbrev pub TellsIndex : List Schema → Schema → Result (Option ℕ) BlobFault → Type 0
TellsIndex schemas schema (Ok index) = IsIndexFor schemas schema index
TellsIndex schemas schema (Err found) = (Disagrees schemas schema × (found ≡ fault.OtherModel schema.name)) ⊎ IsFree found

-- A type of the delta under its index, if it has one.
abbrev pub named_at : Option ℕ → DeltaPart → Option NamedPart
named_at index part = option_map (λ t. record { type_index = t; part = part }) index

-- These are the types that the model has, each of which agrees; the others it has not.
pub record AreNamed (schemas : List Schema) (parts : List DeltaPart) (named : List NamedPart) : Type 0 where
  pub each : List (Option NamedPart)
  pub passes : (each_of (of_model schemas) parts).Passes each
  pub are : named ≡ those_there each

-- The limits on the numbers of ordinals and items of each type that the model has.
abbrev pub counts_in : List NamedPart → Judge (List Unit)
counts_in parts = each_of counts_of parts

-- The type keeps them.
abbrev pub KeepsNamed : NamedPart → Type 0
KeepsNamed named = KeepsCounts named.part

-- The type can be seen by the model's schema: the model has one at its index that agrees, and what stands of it is well formed.
pub record CanBeSeen (schemas : List Schema) (named : NamedPart) : Type 0 where
  pub mine : Schema
  pub stands : slice_get schemas named.type_index ≡ Some mine
  pub agree : Agree mine named.part.schema
  pub few : HasFewFields named.part
  pub well : IsWellFormedPart named.part

-- What is tried of the types fails with no other fault.
abbrev pub IsTypesFault : BlobFault → Type 0
IsTypesFault (fault.Bad place why) = Unit {0}
IsTypesFault (fault.OtherModel of) = Unit {0}
IsTypesFault (fault.Large limit) = IsCountLimit limit
IsTypesFault fault.Memory = Unit {0}
IsTypesFault _ = ⊥
