-- OBJECT rows of a blob: the element of a field at a place lies within the words.
use Rattle.std.specs.Prelude.{ℕ, ◌+◌, ◌*◌, ◌^◌, ◌<◌, ◌≤◌, List, length}

-- The element of this width behind `before` bits of the record lies within the record, and this within the words.
pub record IsWithin (first : List ℕ) (size place before width : ℕ) : Type 0 where
  pub narrow : width ≤ 64
  pub record_holds : before + width ≤ size
  pub words_hold : place * size + before + width ≤ 64 * length first
  pub fits : place * size + before + width < 2 ^ 64
