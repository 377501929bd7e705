-- The parts of a section and of a patch up to a place: they can be read there, and spell what they spell.
use Rattle.std.proofs.Common.{◌≡◌, ℕ, zero, suc, ◌+◌, ◌*◌, ◌<◌, ◌≤◌, List, length, get_or, Option, None, Some, Result, Ok, Err, refl, sym, subst, arith}
use Rattle.std.specs.Prelude.{All}
use Rattle.std.specs.List.Sorted.{IsStrictlyIncreasing}
use Rattle.std.proofs.Math.Nat.{mul-le-mul_right}
use Rattle.schema_model.specs.declared.schema.Shape.{Shape}
use Rattle.row_model.specs.declared.row.Row.{Row}
use Rattle.row_model.specs.declared.packed.PlaceFault.{PlaceFault}
use Rattle.bit_array.specs.Element.{words_of}
use Rattle.type_rows.specs.declared.patch.PatchSection.{PatchSection}
use Rattle.type_rows.specs.declared.section.Section.{Section}
use Rattle.type_rows.specs.Layout.{place_bits, places_of}
use Rattle.type_rows.specs.Loads.{Spells, TellsPlace, parts_up_to}
use Rattle.type_rows.specs.Patches.{IsReadablePatch, IsWellFormedPatch, places_in}
use Rattle.type_rows.specs.WellFormed.{AreWidths, IsReadable, IsWellFormed}

-- The parts of a section.
abbrev pub up_to : Section → ℕ → Section
up_to section place = parts_up_to section.widths section.total section.first section.second section.areas place

pub spells_same : (shape : Shape) (section : Section) (place : ℕ) (row : Row) → Spells shape (up_to section place) place row ≡ Spells shape section place row
spells_same (Shape.Object key fields) section place row = refl
spells_same (Shape.List element) section place row = refl
spells_same (Shape.Set element) section place row = refl
spells_same (Shape.Map key value) section place row = refl

-- What is told of the place there is told of it in the section.
pub tells_place : (shape : Shape) (section : Section) (place : ℕ) (result : Result Row PlaceFault) → TellsPlace shape (up_to section place) place result → TellsPlace shape section place result
tells_place shape section place (Ok row) told = subst (λ T. T) (spells_same shape section place row) told
tells_place shape section place (Err PlaceFault.Memory) told = tt
tells_place shape section place (Err (PlaceFault.Bad reason)) told = λ row h. told row (subst (λ T. T) (sym (spells_same shape section place row)) h)

wide_up_to : (shape : Shape) (max : Option ℕ) (place : ℕ) (widths : List ℕ) → 0 < places_of max → AreWidths shape max widths → AreWidths shape (Some place) widths
wide_up_to (Shape.Object key fields) None place widths some h = absurd (omega (arith, some))
wide_up_to (Shape.Object key fields) (Some max) place widths some h = h
wide_up_to (Shape.List element) max place widths some h = h
wide_up_to (Shape.Set element) max place widths some h = h
wide_up_to (Shape.Map key value) max place widths some h = h

enough_up_to : (places size words place : ℕ) → words_of (places * size) ≤ words → place < places → words_of ((place + 1) * size) ≤ words
enough_up_to places size words place enough inside =
    let below : (place + 1) * size ≤ places * size = mul-le-mul_right size (omega arith) in omega arith

-- A section can be read at a place.
pub readable_at : (shape : Shape) (section : Section) (place : ℕ) → IsReadable shape section → place < places_of section.max → IsReadable shape (up_to section place)
readable_at shape section place h inside = record {
  well = record {
    wide = wide_up_to shape section.max place section.widths (omega arith) h.well.wide;
    filled = h.well.filled;
    enough = enough_up_to (places_of section.max) (place_bits shape section.widths) (length section.first) place h.well.enough inside;
    short = h.well.short;
  };
  many = h.many;
  few = omega (arith, h.few);
  items = h.items;
}

-- Of rising ordinals each is at least its place.
pub place_below : (added : List ℕ) (place : ℕ) → IsStrictlyIncreasing added → place < length added → place ≤ get_or added place 0
place_below added zero rise inside = omega arith
place_below added (suc place) rise inside =
    let same : place + 1 ≡ suc place = omega arith in
    let above : get_or added place 0 < get_or added (suc place) 0 = subst (λ i. get_or added place 0 < get_or added i 0) same (rise place (omega arith)) in
    omega (arith, place_below added place rise (omega arith))

-- A patch is well formed at the place of an added ordinal, and can be read there.
pub well_patch : (shape : Shape) (patch : PatchSection) (place : ℕ) → IsWellFormedPatch shape patch → 0 < places_of patch.max → place < length patch.added → IsWellFormed shape (up_to (places_in patch) place)
well_patch shape patch place h some inside = record {
  wide = wide_up_to shape patch.max place patch.widths some h.wide;
  filled = h.filled;
  enough = enough_up_to (length patch.added) (place_bits shape patch.widths) (length patch.first) place h.enough inside;
  short = h.short;
}

pub readable_patch : (shape : Shape) (patch : PatchSection) (place : ℕ) → IsReadablePatch shape patch → IsStrictlyIncreasing patch.added → All (λ o. o < places_of patch.max) patch.added → place < length patch.added
    → IsReadable shape (up_to (places_in patch) place)
readable_patch shape patch place h rise placed inside =
    let low = place_below patch.added place rise inside in
    let high = placed place 0 inside in
    record { well = well_patch shape patch place h.well (omega arith) inside; many = h.many; few = omega (arith, h.few); items = h.items }
