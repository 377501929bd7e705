-- Why a place spells no row, as the codec of its kind tells it.
use Rattle.std.proofs.Common.{ℕ, ◌<◌, Result, Ok, Err, arith}
use Rattle.std.specs.Prelude.{IfErr, All, length}
use Rattle.std.specs.List.Sorted.{IsStrictlyIncreasing}
use Rattle.schema_model.specs.declared.schema.Shape.{Shape}
use Rattle.row_model.specs.declared.row.Row.{Row}
use Rattle.row_model.specs.declared.packed.PlaceFault.{PlaceFault}
use Rattle.object_codec.specs.ObjectPlace.{IsObject, TellsObjectRow}
use Rattle.list_codec.specs.ListPlace.{IsList, TellsListRow}
use Rattle.bucket_codec.specs.BucketPlace.{TellsBucketRow}
use Rattle.type_rows.specs.declared.section.Section.{Section}
use Rattle.type_rows.specs.declared.patch.PatchSection.{PatchSection}
use Rattle.type_rows.specs.Layout.{places_of}
use Rattle.type_rows.specs.Loads.{parts_up_to}
use Rattle.type_rows.specs.Patches.{IsReadablePatch}
use Rattle.type_rows.specs.WellFormed.{IsReadable}
use Rattle.type_rows.proofs.Places.{IsBuckets}
use Rattle.type_rows.proofs.PlacesUpTo.{readable_patch, up_to}
use Rattle.type_rows.specs.Fails.{FailsPlace}

pub object_fails : (shape : Shape) (section : Section) (place : ℕ) (result : Result Row PlaceFault) → IsObject shape → TellsObjectRow shape section.widths section.first section.areas place result → IfErr result (FailsPlace shape section place)
object_fails (Shape.Object key fields) section place (Ok row) kind told = tt
object_fails (Shape.Object key fields) section place (Err PlaceFault.Memory) kind told = tt
object_fails (Shape.Object key fields) section place (Err (PlaceFault.Bad reason)) kind told = told
object_fails _ section place result kind told = absurd kind

pub list_fails : (shape : Shape) (section : Section) (place : ℕ) (result : Result Row PlaceFault) → IsList shape → TellsListRow section.widths section.total section.first section.second place result → IfErr result (FailsPlace shape section place)
list_fails (Shape.List element) section place (Ok row) kind told = tt
list_fails (Shape.List element) section place (Err PlaceFault.Memory) kind told = tt
list_fails (Shape.List element) section place (Err (PlaceFault.Bad reason)) kind told = told
list_fails _ section place result kind told = absurd kind

pub buckets_fail : (shape : Shape) (section : Section) (place : ℕ) (result : Result Row PlaceFault) → IsBuckets shape → TellsBucketRow shape section.widths section.total section.first section.second place result → IfErr result (FailsPlace shape section place)
buckets_fail (Shape.Set element) section place (Ok row) kind told = tt
buckets_fail (Shape.Set element) section place (Err PlaceFault.Memory) kind told = tt
buckets_fail (Shape.Set element) section place (Err (PlaceFault.Bad reason)) kind told = told
buckets_fail (Shape.Map key value) section place (Ok row) kind told = tt
buckets_fail (Shape.Map key value) section place (Err PlaceFault.Memory) kind told = tt
buckets_fail (Shape.Map key value) section place (Err (PlaceFault.Bad reason)) kind told = told
buckets_fail _ section place result kind told = absurd kind

-- What is told of the place there is told of it in the section.
fails_same : (shape : Shape) (section : Section) (place : ℕ) (fault : PlaceFault) → FailsPlace shape (up_to section place) place fault → FailsPlace shape section place fault
fails_same shape section place PlaceFault.Memory told = tt
fails_same (Shape.Object key fields) section place (PlaceFault.Bad reason) told = told
fails_same (Shape.List element) section place (PlaceFault.Bad reason) told = told
fails_same (Shape.Set element) section place (PlaceFault.Bad reason) told = told
fails_same (Shape.Map key value) section place (PlaceFault.Bad reason) told = told

pub fails_in : (shape : Shape) (section : Section) (place : ℕ) (result : Result Row PlaceFault) → IfErr result (FailsPlace shape (up_to section place) place) → IfErr result (FailsPlace shape section place)
fails_in shape section place (Ok row) told = tt
fails_in shape section place (Err fault) told = fails_same shape section place fault told

-- The place of an added ordinal can be read, whatever the total.
pub readable_added : (shape : Shape) (patch : PatchSection) (place : ℕ) → IsReadablePatch shape patch → IsStrictlyIncreasing patch.added → All (λ o. o < places_of patch.max) patch.added → place < length patch.added
    → IsReadable shape (parts_up_to patch.widths 0 patch.first patch.second patch.areas place)
readable_added shape patch place readable rise placed inside =
    let whole = readable_patch shape patch place readable rise placed inside in
    record {
      well = record { wide = whole.well.wide; filled = whole.well.filled; enough = whole.well.enough; short = whole.well.short };
      many = whole.many;
      few = whole.few;
      items = omega arith;
    }
