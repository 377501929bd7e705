-- What the rows are that a patch moves others to: one set of rows at most, of the kind of the type, and fitting it.
use Rattle.std.proofs.Common.{◌≡◌, ℕ, ◌<◌, ◌⊎◌, inl, inr, List, [], length, get_or, None, Some, ap, sym, ◌∙◌, subst, arith}
use Rattle.std.specs.Prelude.{Contains, slice_get}
use Rattle.std.specs.Cmp.{nat_cmp_total}
use Rattle.std.specs.FinMap.{get, same_map, nat_cmp-IsAntisymmetric}
use Rattle.std.proofs.lemmas.Option.{slice_get-get_or, slice_get_within}
use Rattle.schema_model.specs.declared.schema.Shape.{Shape}
use Rattle.row_model.specs.declared.row.Row.{Row}
use Rattle.row_model.specs.Row.{FitsShape, IsRowInRange}
use Rattle.row_model.specs.Table.{RowMap}
use Rattle.type_rows.specs.declared.patch.PatchSection.{PatchSection}
use Rattle.type_rows.specs.Ends.{IsOfKind, AreOfKind}
use Rattle.type_rows.specs.Loads.{Spells, IsSpelledIn}
use Rattle.type_rows.specs.Patches.{AddsRows, FitsOrdinals, IsMovedBy, IsReadablePatch, IsWellFormedPatch, MovesRows, patch_layout, places_in}
use Rattle.type_rows.proofs.Loading.{one_row, of_kind}
use Rattle.type_rows.proofs.PlacesUpTo.{readable_patch, spells_same, up_to, well_patch}
use Rattle.type_rows.proofs.SectionRows.{row_fits, row_ranges}
use Rattle.type_rows.proofs.Removal.{has_or}

-- An ordinal in a list stands at a place.
at_place : (added : List ℕ) (o : ℕ) → Contains added o → (place : ℕ) × (slice_get added place ≡ Some o)
at_place added o at = (at.0, slice_get-get_or added at.0 o at.1 ∙ ap Some (same at.2))
  where
    same : get_or added at.0 o ≡ o → get_or added at.0 o ≡ o
    same e = e

-- A moved row was there before, or is an added one.
pub moved_from : (old new : RowMap) (removed added : List ℕ) (rows : List Row) (o : ℕ) (row : Row) → MovesRows old new removed added rows → get new o ≡ Some row → (get old o ≡ Some row) ⊎ ((place : ℕ) × (slice_get rows place ≡ Some row))
moved_from old new removed added rows o row m is = elim (has_or added o) [
  | inl at ↦ (let place = at_place added o at in inr (place.0, sym (m.came place.0 o place.1) ∙ is))
  | inr other ↦ elim (has_or removed o) [
    | inl gone ↦ (let none : None ≡ Some row = sym (m.gone o gone) ∙ is in absurd cc)
    | inr stays ↦ inl (sym (m.kept o stays other) ∙ is)
  ]
]

-- What holds of the old rows and of those that a place of the patch spells holds of the new ones.
pub moved_all : (P : Row → Type 0) (shape : Shape) (patch : PatchSection) (old new : RowMap) (rows : List Row) → AddsRows shape patch rows → MovesRows old new patch.removed patch.added rows → ((o : ℕ) (row : Row) → get old o ≡ Some row → P row)
    → ((place : ℕ) (row : Row) → place < length patch.added → Spells shape (places_in patch) place row → P row) → (o : ℕ) (row : Row) → get new o ≡ Some row → P row
moved_all P shape patch old new rows a m before spelled o row is = elim (moved_from old new patch.removed patch.added rows o row m is) [
  | inl was ↦ before o row was
  | inr came ↦ (let inside = slice_get_within rows came.0 row came.1 in spelled came.0 row (omega (arith, a.each, inside)) (a.spelled came.0 row came.1))
]

same_place : (shape : Shape) (patch : PatchSection) (xs ys : List Row) (place : ℕ) → AddsRows shape patch xs → AddsRows shape patch ys → place < length patch.added → slice_get xs place ≡ slice_get ys place
same_place shape patch xs ys place a b inside =
    let d : Row = Row.List [] in
    let x = slice_get-get_or xs place d (omega (arith, a.each)) in
    let y = slice_get-get_or ys place d (omega (arith, b.each)) in
    x ∙ ap Some ((one_row shape (places_in patch)).once place (get_or xs place d) (get_or ys place d) (a.spelled place (get_or xs place d) x) (b.spelled place (get_or ys place d) y)) ∙ sym y

-- A patch moves some rows to one set of rows at most.
pub one_result : (shape : Shape) (patch : PatchSection) (old a b : RowMap) (xs ys : List Row) → AddsRows shape patch xs → AddsRows shape patch ys → MovesRows old a patch.removed patch.added xs → MovesRows old b patch.removed patch.added ys → a ≡ b
one_result shape patch old a b xs ys x y m n = same_map nat_cmp_total nat_cmp-IsAntisymmetric a b (λ o. elim (has_or patch.added o) [
  | inl at ↦ (let place = at_place patch.added o at in m.came place.0 o place.1 ∙ same_place shape patch xs ys place.0 x y (slice_get_within patch.added place.0 o place.1) ∙ sym (n.came place.0 o place.1))
  | inr other ↦ elim (has_or patch.removed o) [
    | inl gone ↦ m.gone o gone ∙ sym (n.gone o gone)
    | inr stays ↦ m.kept o stays other ∙ sym (n.kept o stays other)
  ]
])

pub one_move : (shape : Shape) (patch : PatchSection) (old a b : RowMap) → IsMovedBy shape patch old a → IsMovedBy shape patch old b → a ≡ b
one_move shape patch old a b m n = one_result shape patch old a b m.added n.added m.adds n.adds m.moves n.moves

spelled_up_to : (shape : Shape) (patch : PatchSection) (place : ℕ) (row : Row) → Spells shape (places_in patch) place row → IsSpelledIn shape (up_to (places_in patch) place) (place, row)
spelled_up_to shape patch place row h = subst (λ T. T) (sym (spells_same shape (places_in patch) place row)) h

-- The moved rows are of the kind of the type where the old ones are.
pub kinds_moved : (shape : Shape) (patch : PatchSection) (old new : RowMap) (rows : List Row) → IsReadablePatch shape patch → AddsRows shape patch rows → FitsOrdinals old (patch_layout patch) patch.removed patch.added
    → MovesRows old new patch.removed patch.added rows → AreOfKind shape old → AreOfKind shape new
kinds_moved shape patch old new rows h adds ordinals moves kinds =
    moved_all (IsOfKind shape) shape patch old new rows adds moves kinds
    (λ place row inside spelled. of_kind shape (up_to (places_in patch) place) place row (readable_patch shape patch place h ordinals.added_rise ordinals.added_placed inside) (spelled_up_to shape patch place row spelled))

-- They fit the type, and are in range.
pub moved_fit : (shape : Shape) (patch : PatchSection) (old new : RowMap) → IsMovedBy shape patch old new → ((o : ℕ) (row : Row) → get old o ≡ Some row → FitsShape shape row) → (o : ℕ) (row : Row) → get new o ≡ Some row → FitsShape shape row
moved_fit shape patch old new m fits = moved_all (FitsShape shape) shape patch old new m.added m.adds m.moves fits (λ place row inside spelled. row_fits shape (places_in patch) place row spelled)

pub moved_range : (shape : Shape) (patch : PatchSection) (old new : RowMap) → IsWellFormedPatch shape patch → IsMovedBy shape patch old new → ((o : ℕ) (row : Row) → get old o ≡ Some row → IsRowInRange row) → (o : ℕ) (row : Row) → get new o ≡ Some row → IsRowInRange row
moved_range shape patch old new h m ranges =
    moved_all IsRowInRange shape patch old new m.added m.adds m.moves ranges
    (λ place row inside spelled.
    let high = m.ordinals.added_placed place 0 inside in
    row_ranges shape (up_to (places_in patch) place) place row (well_patch shape patch place h (omega (arith, high)) inside) (spelled_up_to shape patch place row spelled))
