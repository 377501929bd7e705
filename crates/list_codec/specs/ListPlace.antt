-- LIST rows of a blob: which list the pointers and elements spell at a place, and why they spell none.
use Rattle.std.specs.Prelude.{◌≡◌, ℕ, zero, suc, ◌+◌, ◌-◌, ◌*◌, ◌^◌, ◌<◌, ◌≤◌, List, length, map, slice_index, All, Any, Result, Ok, Err}
use Rattle.std.specs.List.{range_with_len}
use Rattle.bit_array.specs.Element.{element_of}
use Rattle.schema_model.specs.declared.schema.Shape.{Shape}
use Rattle.row_model.specs.declared.row.Row.{Row}
use Rattle.schema_model.specs.declared.reason.Reason.{Reason}
use Rattle.row_model.specs.declared.packed.PlaceFault.{PlaceFault}

abbrev pub IsList : Shape → Type 0
IsList (Shape.List element) = Unit {0}
IsList _ = ⊥

-- A LIST has two widths in bits: that of the pointers, and that of the elements.
abbrev pub pointer_width : List ℕ → ℕ
pointer_width widths = slice_index widths 0

abbrev pub element_width : List ℕ → ℕ
element_width widths = slice_index widths 1

-- The pointer at a place: the end of its list, counted in elements.
abbrev pub pointer_at : List ℕ → ℕ → ℕ → ℕ
pointer_at first width place = element_of first (place * width) width

-- The start of a list: the end of the one before it, and 0 for place 0.
abbrev pub pointer_before : List ℕ → ℕ → ℕ → ℕ
pointer_before first width zero = 0
pointer_before first width (suc earlier) = pointer_at first width earlier

abbrev pub start_at : List ℕ → List ℕ → ℕ → ℕ
start_at widths first place = pointer_before first (pointer_width widths) place

abbrev pub end_at : List ℕ → List ℕ → ℕ → ℕ
end_at widths first place = pointer_at first (pointer_width widths) place

-- The elements of a width from a start up to an end.
abbrev pub elements_between : List ℕ → ℕ → ℕ → ℕ → List ℕ
elements_between second width start end = map (λ index. element_of second (index * width) width) (range_with_len start (end - start))

-- The elements that the pointers bound at a place.
abbrev pub elements_at : List ℕ → List ℕ → List ℕ → ℕ → List ℕ
elements_at widths first second place = elements_between second (element_width widths) (start_at widths first place) (end_at widths first place)

-- The pointers bound a run of elements: it is within the total, and the element words hold it; at width 0 they hold any number.
pub record HasElements (widths : List ℕ) (total : ℕ) (first second : List ℕ) (place : ℕ) : Type 0 where
  pub rises : start_at widths first place ≤ end_at widths first place
  pub within : end_at widths first place ≤ total
  pub held : end_at widths first place * element_width widths ≤ 64 * length second

-- A number is past the greatest ordinal.
abbrev pub IsPastOrdinals : ℕ → Type 0
IsPastOrdinals element = 2 ^ 32 - 1 < element

-- The place spells this list: the elements that its pointers bound, each an ordinal.
pub record SpellsList (widths : List ℕ) (total : ℕ) (first second : List ℕ) (place : ℕ) (ordinals : List ℕ) : Type 0 where
  pub has : HasElements widths total first second place
  pub are : ordinals ≡ elements_at widths first second place
  pub small : All (λ ordinal. ordinal ≤ 2 ^ 32 - 1) ordinals

-- The place of a type spells this row.
abbrev pub SpellsListRow : List ℕ → ℕ → List ℕ → List ℕ → ℕ → Row → Type 0
SpellsListRow widths total first second place (Row.List ordinals) = SpellsList widths total first second place ordinals
SpellsListRow widths total first second place _ = ⊥

-- The place of a type spells no row, for this reason: the pointers bound no run, or, where they do, an element is no ordinal.
abbrev pub FailsListRow : List ℕ → ℕ → List ℕ → List ℕ → ℕ → Reason → Type 0
FailsListRow widths total first second place Reason.BadPointers = HasElements widths total first second place → ⊥
FailsListRow widths total first second place Reason.BadValue =
    HasElements widths total first second place × Any IsPastOrdinals (elements_at widths first second place)
FailsListRow widths total first second place _ = ⊥

-- The parts of a type have the two widths, and pointer words for the place: what a section of a blob has that can be read.
pub record HoldsListPlace (widths first : List ℕ) (place : ℕ) : Type 0 where
  pub two : length widths ≡ 2
  pub narrow : All (λ width. width ≤ 64) widths
  pub within : (place + 1) * pointer_width widths ≤ 64 * length first

-- Want of memory may come in place of any answer.
abbrev pub IsFreePlace : PlaceFault → Type 0
IsFreePlace (PlaceFault.Bad reason) = ⊥
IsFreePlace PlaceFault.Memory = Unit {0}

-- What each answer of the reader tells.
abbrev pub TellsListRow : List ℕ → ℕ → List ℕ → List ℕ → ℕ → Result Row PlaceFault → Type 0
TellsListRow widths total first second place (Ok row) = SpellsListRow widths total first second place row
TellsListRow widths total first second place (Err (PlaceFault.Bad reason)) = FailsListRow widths total first second place reason
TellsListRow widths total first second place (Err PlaceFault.Memory) = Unit {0}
