-- The first fault that each step of a move may find: of the places of the added rows, of what stands under one ordinal, and of rows that a layout is to hold.
use Rattle.std.specs.Prelude.{◌≡◌, ℕ, List, [], Option, length}
use Rattle.std.specs.List.{range_with_len}
use Rattle.std.specs.FinMap.{keys, values}
use Rattle.schema_model.specs.declared.schema.Shape.{Shape}
use Rattle.schema_model.specs.declared.reason.Reason.{Reason}
use Rattle.schema_model.specs.declared.limit.Limit.TheVariants.{Words, Bytes}
use Rattle.row_model.specs.declared.row.Row.{Row}
use Rattle.row_model.specs.Table.{RowMap}
use Rattle.type_rows.specs.declared.ends.Ends.{Ends}
use Rattle.type_rows.specs.declared.fault.RowFault.{RowFault}
use Rattle.type_rows.specs.declared.patch.PatchSection.{PatchSection}
use Rattle.type_rows.specs.Layout.{Layout}
use Rattle.type_rows.specs.Holds.{HoldsRows}
use Rattle.type_rows.specs.Patches.{places_in}
use Rattle.type_rows.specs.Places.{FirstPlaceFails}
use Rattle.type_rows.specs.Tests.{PassBytes, PassWords}
use Rattle.type_rows.specs.Widths.{FirstUnheld}
use Rattle.type_state.specs.Moving.{FitsSlot}

-- The place of an added ordinal is the first that spells no row; want of memory may come in place of any answer, here as below.
abbrev pub FailsAdds : Shape → PatchSection → RowFault → Type 0
FailsAdds shape patch (RowFault.At reason ordinal) = FirstPlaceFails shape (places_in patch) (range_with_len 0 (length patch.added)) patch.added reason ordinal
FailsAdds shape patch RowFault.Memory = Unit {0}
FailsAdds shape patch _ = ⊥

-- What stands under the ordinal does not fit behind rows that end there.
abbrev pub FailsSlot : Shape → List ℕ → ℕ → Option Row → Ends → RowFault → Type 0
FailsSlot shape widths ordinal slot ends (RowFault.At Reason.BadWidth at) = (at ≡ ordinal) × (FitsSlot shape widths slot ends → ⊥)
FailsSlot shape widths ordinal slot ends _ = ⊥

-- The ordinal is the first of a row that the layout does not hold; or it holds all, and they pass the limit on words, or that on bytes alone.
abbrev pub FailsHeld : Shape → ℕ → Layout → RowMap → RowFault → Type 0
FailsHeld shape own layout rows (RowFault.At Reason.BadWidth ordinal) = FirstUnheld shape layout.widths (keys rows) (values rows) ordinal
FailsHeld shape own layout rows (RowFault.Limit Words) = HoldsRows shape layout.widths [] (values rows) × PassWords shape own layout rows
FailsHeld shape own layout rows (RowFault.Limit Bytes) = HoldsRows shape layout.widths [] (values rows) × (PassWords shape own layout rows → ⊥) × PassBytes rows
FailsHeld shape own layout rows RowFault.Memory = Unit {0}
FailsHeld shape own layout rows _ = ⊥
