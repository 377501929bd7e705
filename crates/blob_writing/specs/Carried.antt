-- What a section can carry: a max ordinal that is not read as none, and packed rows with the widths and parts of their kind,
-- words for their places, and numbers that fit the bytes that spell them.
use Rattle.std.specs.Prelude.{◌≡◌, ◌≤◌, ◌<◌, ◌-◌, ◌*◌, ◌^◌, ℕ, List, [], Option, Some, None, All, length}
use Rattle.bit_array.specs.Element.{words_of}
use Rattle.ordinal_set.specs.Gaps.{gap_bytes}
use Rattle.schema_model.specs.declared.schema.Shape.{Shape}
use Rattle.type_rows.specs.Layout.{place_bits}
use Rattle.type_rows.specs.WellFormed.{AreWidths}
use Rattle.blob_sections.specs.declared.section.PackedRows.{PackedRows}

-- The greatest ordinal is not the number that is read as none.
abbrev pub IsMax : Option ℕ → Type 0
IsMax None = Unit {0}
IsMax (Some max) = max < 2 ^ 32 - 1

-- The rows have the parts of their kind and no others: an OBJECT bytes for each field, and the other kinds a total, and words
-- of elements or buckets.
abbrev pub HasParts : Shape → PackedRows → Type 0
HasParts (Shape.Object key fields) rows = (length rows.packed.areas ≡ length fields) × (rows.total ≡ 0) × (rows.packed.second ≡ [])
HasParts shape rows = rows.packed.areas ≡ []

-- Each word fits 8 bytes, and their number a VLong.
pub record FitWords (words : List ℕ) : Type 0 where
  pub few : length words < 2 ^ 64
  pub small : All (λ word. word < 2 ^ 64) words

-- The number of bytes of a list's gaps fits a VLong.
abbrev pub FitGaps : List ℕ → Type 0
FitGaps list = length (gap_bytes list) < 2 ^ 64

-- What is written of the rows of such a type fits the bytes that spell it.
abbrev pub FitBytes : Shape → PackedRows → Type 0
FitBytes (Shape.Object key fields) rows = FitWords rows.packed.first × All (λ area. length area < 2 ^ 64) rows.packed.areas
FitBytes shape rows = (rows.total < 2 ^ 64) × FitWords rows.packed.first × FitWords rows.packed.second

-- The packed rows can be carried as those of so many places, for a type of this shape under this max ordinal.
pub record AreCarried (shape : Shape) (max : Option ℕ) (places : ℕ) (rows : PackedRows) : Type 0 where
  pub wide : AreWidths shape max rows.widths
  pub parts : HasParts shape rows
  pub fits : FitBytes shape rows
  pub enough : words_of (places * place_bits shape rows.widths) ≤ length rows.packed.first
