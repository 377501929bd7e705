-- The elements of one field in a run of records: where they stand, what other bits there are, and how they move.
use Rattle.std.specs.Prelude.{◌≡◌, ℕ, ◌+◌, ◌-◌, ◌*◌, ◌^◌, ◌<◌, ◌≤◌, ◌⊎◌, List, ◌++◌, drop, length, take}
use Rattle.bit_array.specs.Element.{element_of, number_of}
use Rattle.object_codec.specs.ObjectPlace.{element_at, start_at}
use Rattle.record_copies.specs.declared.column.Column.{Column}
use Rattle.record_copies.specs.declared.run.Run.{Run}

-- The place is one of the run.
abbrev pub IsIn : Run → ℕ → Type 0
IsIn run place = (run.place ≤ place) × (place < run.end)

-- The element of the field at a place, and where its bytes start there.
abbrev pub element_in : Column → List ℕ → ℕ → ℕ
element_in column words place = element_at words column.size column.before column.width place

abbrev pub start_in : Column → List ℕ → ℕ → ℕ
start_in column words place = start_at words column.size column.before column.width place

-- The element lies within its record, and the words hold all records up to the end of the run.
pub record Lies (column : Column) (words : List ℕ) (run : Run) : Type 0 where
  pub narrow : column.width ≤ 64
  pub some : 1 ≤ column.width
  pub record_holds : column.before + column.width ≤ column.size
  pub words_hold : run.end * column.size ≤ 64 * length words
  pub fits : run.end * column.size < 2 ^ 64

-- The bits from one on, so many, are none of the field's elements in the run.
abbrev pub AreApart : Column → Run → ℕ → ℕ → Type 0
AreApart column run at bits = (place : ℕ) → IsIn run place → (at + bits ≤ place * column.size + column.before) ⊎ (place * column.size + column.before + column.width ≤ at)

-- Each element of the run may be made less by one number and then greater by another.
abbrev pub CanShift : Column → List ℕ → Run → ℕ → ℕ → Type 0
CanShift column words run less more =
    (place : ℕ) → IsIn run place → (less ≤ element_in column words place) × (element_in column words place - less + more < 2 ^ column.width)

-- Each element of the run is less by one number and then greater by another, all other bits are what they were, and none is behind the run.
pub record IsShifted (column : Column) (old new : List ℕ) (run : Run) (less more : ℕ) : Type 0 where
  pub elements : (place : ℕ) → IsIn run place → element_in column new place ≡ element_in column old place - less + more
  pub others : (at bits : ℕ) → AreApart column run at bits → element_of new at bits ≡ element_of old at bits
  pub bits : number_of old < 2 ^ (run.end * column.size) → number_of new < 2 ^ (run.end * column.size)

-- The bytes of the field in the run, which stand between the offsets of its first and its last end, are behind those that were there, and its
-- elements are less by the first of these offsets and greater by the number of those bytes.
pub record IsMoved (column : Column) (from bytes : List ℕ) (run : Run) (old new before area : List ℕ) : Type 0 where
  pub shifted : IsShifted column old new run (start_in column from run.place) (length before)
  pub grown : area ≡ before ++ take (start_in column from run.end - start_in column from run.place) (drop (start_in column from run.place) bytes)
