-- Elements of one width that stand in words behind one another.
use Rattle.std.specs.Prelude.{◌≡◌, ℕ, ◌-◌, ◌*◌, ◌^◌, ◌<◌, ◌≤◌, List, length, map, slice_index, All, Any, Result, Ok, Err}
use Rattle.std.specs.List.{range_with_len}
use Rattle.bit_array.specs.Element.{element_of}
use Rattle.schema_model.specs.declared.reason.Reason.{Reason}
use Rattle.row_model.specs.declared.packed.PlaceFault.{PlaceFault}
use Rattle.list_codec.specs.ListPlace.{IsPastOrdinals}
use Rattle.list_codec.specs.declared.elements.Elements.{Elements}

-- The elements.
abbrev pub elements_of : Elements → List ℕ
elements_of elements = map (λ index. element_of elements.words.now (index * elements.width) elements.width) (range_with_len elements.start elements.len)

-- The elements of a width from one index up to another are ordinals.
abbrev pub AreOrdinals : List ℕ → ℕ → ℕ → ℕ → Type 0
AreOrdinals words width from to = (index : ℕ) → from ≤ index → index < to → element_of words (index * width) width ≤ 2 ^ 32 - 1

-- One of them is none.
abbrev pub HasPastOrdinals : List ℕ → ℕ → ℕ → ℕ → Type 0
HasPastOrdinals words width from to = (index : ℕ) × (from ≤ index) × (index < to) × (2 ^ 32 - 1 < element_of words (index * width) width)

-- How far elements are ordinals, for the indexes in steps of 64.
abbrev pub AreOrdinalReaches : List ℕ → ℕ → List ℕ → Type 0
AreOrdinalReaches words width reaches = (step : ℕ) → step < length reaches → AreOrdinals words width (64 * step) (slice_index reaches step)

-- What each answer of the reader of elements tells.
abbrev pub TellsOrdinals : List ℕ → Result (List ℕ) PlaceFault → Type 0
TellsOrdinals elements (Ok ordinals) = (ordinals ≡ elements) × All (λ ordinal. ordinal ≤ 2 ^ 32 - 1) ordinals
TellsOrdinals elements (Err (PlaceFault.Bad reason)) = (reason ≡ Reason.BadValue) × Any IsPastOrdinals elements
TellsOrdinals elements (Err PlaceFault.Memory) = Unit {0}
