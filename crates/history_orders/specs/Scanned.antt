-- Which records of a column a pass over its packed words goes through.
use Rattle.std.specs.Prelude.{◌≡◌, ◌≢◌, ℕ, ◌+◌, ◌*◌, ◌^◌, ◌<◌, ◌≤◌, List, Contains, length}
use Rattle.object_codec.specs.ObjectPlace.{element_at}
use Rattle.object_codec.specs.declared.column.Column.{Column}
use Rattle.row_model.specs.Table.{IsLive, Table}

-- The element that a column has at a place.
abbrev pub number_at : Column → ℕ → ℕ
number_at column place = element_at column.first.now column.size column.before column.width place

-- Each record below a place begins before the last word, at a bit that a number of 64 bits tells.
abbrev pub HasWordsBelow : Column → ℕ → Type 0
HasWordsBelow column limit = (place : ℕ) → place < limit → (place * column.size + column.before + 64 < 64 * length column.first.now) × (place * column.size + column.before < 2 ^ 64)

-- The records from one place up to another have other numbers in the column.
abbrev pub LacksNumber : Column → ℕ → ℕ → ℕ → Type 0
LacksNumber column number from to = (place : ℕ) → from ≤ place → place < to → number_at column place ≢ number

-- The live ordinals below a limit whose records have the number in the column are among these.
abbrev pub HasNumbered : Table → ℕ → Column → ℕ → ℕ → List ℕ → Type 0
HasNumbered table t column number limit among = (ordinal : ℕ) → ordinal < limit → IsLive table t ordinal → number_at column ordinal ≡ number → Contains among ordinal
