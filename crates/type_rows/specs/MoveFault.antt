-- The first fault of a patch of some rows.
use Rattle.std.specs.Prelude.{◌⊎◌, ℕ, List, length}
use Rattle.std.specs.List.{range_with_len}
use Rattle.std.specs.FinMap.{keys}
use Rattle.schema_model.specs.declared.schema.Shape.{Shape}
use Rattle.row_model.specs.declared.row.Row.{Row}
use Rattle.row_model.specs.Table.{RowMap}
use Rattle.type_rows.specs.declared.patch.PatchSection.{PatchSection}
use Rattle.type_rows.specs.declared.fault.RowFault.{RowFault}
use Rattle.type_rows.specs.Layout.{places_of}
use Rattle.type_rows.specs.Patches.{AddsRows, MovesRows, patch_layout, places_in}
use Rattle.type_rows.specs.First.{FirstFails, NoneFails}
use Rattle.type_rows.specs.Ordinals.{FailsAdded, FailsRemoved, HoldsNowhere, IsLeast, StaysOutside}
use Rattle.type_rows.specs.Places.{FirstPlaceFails}
use Rattle.type_rows.specs.Tests.{Tests, FailsFirst}

-- No removed ordinal is bad; no added one; none that stays.
abbrev pub RemovedPass : PatchSection → RowMap → Type 0
RemovedPass patch old = NoneFails (FailsRemoved (keys old) patch.removed) patch.removed

abbrev pub AddedPass : PatchSection → RowMap → Type 0
AddedPass patch old = NoneFails (FailsAdded (keys old) (places_of patch.max) patch.added) patch.added

abbrev pub StayingPass : PatchSection → RowMap → Type 0
StayingPass patch old = HoldsNowhere (StaysOutside (keys old) patch.removed (places_of patch.max))

pub record OrdinalsPass (patch : PatchSection) (old : RowMap) : Type 0 where
  pub removed : RemovedPass patch old
  pub added : AddedPass patch old
  pub staying : StayingPass patch old

-- The first bad ordinal, by the three walks one after the other.
abbrev pub FailsOrdinals : PatchSection → RowMap → ℕ → Type 0
FailsOrdinals patch old ordinal =
    FirstFails (FailsRemoved (keys old) patch.removed) patch.removed ordinal
    ⊎ (RemovedPass patch old × FirstFails (FailsAdded (keys old) (places_of patch.max) patch.added) patch.added ordinal)
    ⊎ (RemovedPass patch old × AddedPass patch old × IsLeast (StaysOutside (keys old) patch.removed (places_of patch.max)) ordinal)

-- The patch leads from the old rows to these, whether its layout holds them or not.
pub record LeadsTo (shape : Shape) (patch : PatchSection) (old new : RowMap) : Type 0 where
  pub ordinals : OrdinalsPass patch old
  pub rows : List Row
  pub adds : AddsRows shape patch rows
  pub moves : MovesRows old new patch.removed patch.added rows

-- Place k is that of the k-th added ordinal.
abbrev pub move_tests : Shape → PatchSection → RowMap → Tests
move_tests shape patch old = record {
  BadOrdinal = FailsOrdinals patch old;
  Ordered = OrdinalsPass patch old;
  BadPlace = FirstPlaceFails shape (places_in patch) (range_with_len 0 (length patch.added)) patch.added;
  Leads = LeadsTo shape patch old;
}

abbrev pub FailsMove : Shape → PatchSection → RowMap → RowFault → Type 0
FailsMove shape patch old = FailsFirst shape patch.own (patch_layout patch) (move_tests shape patch old)
