-- The columns of records that stand in words one behind the other, and the elements of a record, one for each column.
use Rattle.std.specs.Prelude.{ℕ, ◌+◌, ◌*◌, ◌^◌, ◌<◌, ◌≤◌, List, [], ◌∷◌, Option, Some, None, length, map, sum}
use Rattle.object_codec.specs.ObjectPlace.{element_at}
use Rattle.seen_patches.specs.declared.column.Column.{Column}

-- The columns of some fields that follow one another: a record has `size` bits, of which `before` stand before the first of them.
abbrev pub columns_from : ℕ → ℕ → List ℕ → List Column
columns_from size before [] = []
columns_from size before (width ∷ widths) = record { size = size; before = before; width = width } ∷ columns_from size (before + width) widths

-- Those of all fields, which have these widths: a record is as wide as its fields together.
abbrev pub columns_of : List ℕ → List Column
columns_of widths = columns_from (sum widths) 0 widths

-- The element of a column in the record at a place.
abbrev pub column_element : List ℕ → ℕ → Column → ℕ
column_element words place column = element_at words column.size column.before column.width place

-- The elements of a record: one for each column.
abbrev pub elements_in : List ℕ → ℕ → List Column → List ℕ
elements_in words place columns = map (column_element words place) columns

-- Those of a record of fields of these widths.
abbrev pub elements_of : List ℕ → List ℕ → ℕ → List ℕ
elements_of widths words place = elements_in words place (columns_of widths)

-- The column lies within its records, and so many of these within the words.
pub record IsHeld (words : List ℕ) (places : ℕ) (column : Column) : Type 0 where
  pub narrow : column.width ≤ 64
  pub inside : column.before + column.width ≤ column.size
  pub held : places * column.size ≤ 64 * length words
  pub fits : places * column.size < 2 ^ 64

-- The element of a column, or this one where there is no column.
abbrev pub element_or : List ℕ → ℕ → Option Column → ℕ → ℕ
element_or words place None other = other
element_or words place (Some column) other = column_element words place column
