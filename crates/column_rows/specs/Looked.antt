-- Which rows of a type are looked at: all, or those under some ordinals.
use Rattle.std.specs.Prelude.{ℕ, ◌^◌, ◌<◌, length, slice_index, Contains}
use Rattle.column_rows.specs.declared.looked.Looked.{Looked}

-- The row under an ordinal is looked at.
abbrev pub IsLooked : Looked → ℕ → Type 0
IsLooked Looked.All ordinal = Unit {0}
IsLooked (Looked.At ordinals) ordinal = Contains ordinals.now ordinal

-- How many ordinals are gone through, in a type of this bound.
abbrev pub count_of : Looked → ℕ → ℕ
count_of Looked.All bound = bound
count_of (Looked.At ordinals) bound = length ordinals.now

-- The ordinal at an index of these.
abbrev pub ordinal_of : Looked → ℕ → ℕ
ordinal_of Looked.All index = index
ordinal_of (Looked.At ordinals) index = slice_index ordinals.now index

-- There is an ordinal at the index.
abbrev pub IsIndex : Looked → ℕ → Type 0
IsIndex Looked.All index = index < 2 ^ 32
IsIndex (Looked.At ordinals) index = index < length ordinals.now
