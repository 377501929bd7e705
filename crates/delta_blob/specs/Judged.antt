-- What is tried of a delta against a model, one thing after another, so that its fault is that of the first which fails: its length; its header;
-- the tag that it starts from; its items, up to the end of the blob; that no name stands twice; that each of its types agrees with the model's of that
-- name, if there is one; and of the types that the model has, one by one, the numbers of ordinals and items.
use Rattle.std.specs.Prelude.{◌≡◌, ℕ, ℤ, List, Option, filter_map, map}
use Rattle.schema_model.specs.declared.schema.Schema.{Schema}
use Rattle.blob_frame.specs.declared.fault.BlobFault.TheVariants as fault
use Rattle.blob_frame.specs.declared.header.Header.{Header}
use Rattle.blob_frame.specs.Header.{header}
use Rattle.blob_faults.specs.Judge.{Judge, ◌>>=◌, each_of, nothing}
use Rattle.blob_faults.specs.Models.{names_once}
use Rattle.blob_faults.specs.Reading.{short, standing, starts}
use Rattle.blob_faults.specs.Rows.{counts}
use Rattle.delta_blob.specs.declared.of_model.NamedPart.{NamedPart}
use Rattle.delta_blob.specs.declared.part.DeltaPart.{DeltaPart}
use Rattle.delta_blob.specs.declared.patch.PatchPart.{PatchPart}
use Rattle.delta_blob.specs.Deciding.{decides_named, decides_seen}
use Rattle.delta_blob.specs.Meant.{Disagrees, IsNamedPart, IsSeenPart}
use Rattle.delta_blob.specs.Parts.{body}
use Rattle.delta_blob.specs.Patch.{schemas_in}

-- the offset of the schema of each type
abbrev pub offsets_in : List DeltaPart → List ℕ
offsets_in parts = map (λ part. part.at) parts

-- The type of the model that a type of the delta is, if the model has one of its name.
unfoldable pub of_model : List Schema → DeltaPart → Judge (Option NamedPart)
of_model schemas part = record {
  Passes = IsNamedPart schemas part;
  Fails = λ found. Disagrees schemas part.schema × (found ≡ fault.OtherModel part.schema.name);
  decided = decides_named schemas part;
}

-- Those that the model has.
abbrev pub those_there : List (Option NamedPart) → List NamedPart
those_there parts = filter_map (λ part. part) parts

-- The numbers of ordinals and items of a type that the model has.
abbrev pub counts_of : NamedPart → Judge Unit
counts_of named = counts named.part.section.max named.part.section.total

-- The type as the model's schema sees it. Nothing is at fault.
unfoldable pub seen_of : List Schema → NamedPart → Judge PatchPart
seen_of schemas named = record {
  Passes = IsSeenPart schemas named;
  Fails = λ found. ⊥;
  decided = decides_seen schemas named;
}

-- The types of the delta that the model has, as those of the model.
unfoldable pub parts_in : List Schema → List DeltaPart → Judge (List PatchPart)
parts_in schemas parts = do
  _ ← names_once (offsets_in parts) (schemas_in parts)
  named ← each_of (of_model schemas) parts
  _ ← each_of counts_of (those_there named)
  each_of (seen_of schemas) (those_there named)

-- The types from a place on up to the end of the blob, as those of the model.
unfoldable pub patch_of : List ℕ → ℕ → List Schema → Judge (List PatchPart)
patch_of blob at schemas = do
  found ← standing body blob at
  parts_in schemas found.0

-- A delta that starts from the current tag: its header, and its types as those of the model.
unfoldable pub delta_of : List ℕ → ℤ → List Schema → Judge (Header × List PatchPart)
delta_of blob current schemas = do
  _ ← short blob
  head ← standing header blob 0
  _ ← starts head.0.origin current
  named ← patch_of blob head.1 schemas
  nothing (head.0, named)
