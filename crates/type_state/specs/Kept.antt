-- How the rows of a half are kept: in packed words.
use Rattle.std.specs.Prelude.{◌≡◌, ◌⊎◌, ℕ, List, [], None, length}
use Rattle.schema_model.specs.declared.schema.Shape.{Shape}
use Rattle.row_model.specs.Table.{RowMap}
use Rattle.packed_half.specs.declared.half.HalfShape.{HalfShape}
use Rattle.packed_half.specs.Half.{section_in, words_for}
use Rattle.packed_half.specs.LaidOut.{IsLaidOut}
use Rattle.packed_half.specs.Laying.{CanLay}
use Rattle.type_rows.specs.Rows.{rows_in}
use Rattle.type_state.specs.State.{Half}

-- The rows that the words of a half spell.
abbrev pub half_rows : Shape → HalfShape → List ℕ → RowMap
half_rows shape half words = rows_in shape (section_in shape half words)

-- The half as contracts see it.
abbrev pub half_in : Shape → HalfShape → List ℕ → Half
half_in shape half words = record { layout = record { max = half.max; widths = half.widths }; rows = half_rows shape half words }

-- Nothing is laid out.
pub record IsBare (half : HalfShape) : Type 0 where
  pub max : half.max ≡ None
  pub widths : half.widths ≡ []
  pub lengths : half.lengths ≡ []
  pub total : half.total ≡ 0
  pub live : half.live ≡ []

-- The words are those of their rows, which can be laid out in the half.
pub record IsPacked (shape : Shape) (half : HalfShape) (words : List ℕ) : Type 0 where
  pub laid : IsLaidOut shape half words (half_rows shape half words)
  pub can : CanLay shape half (half_rows shape half words)

-- A half that is kept: nothing is laid out, or its words are those of its rows.
abbrev pub IsHalf : Shape → HalfShape → List ℕ → Type 0
IsHalf shape half words = IsBare half ⊎ IsPacked shape half words

-- Both halves of a type: each has as many words as it takes, none where nothing is laid out.
pub record AreHalves (shape : Shape) (current other : HalfShape) (words others : List ℕ) : Type 0 where
  pub current_half : IsHalf shape current words
  pub other_half : IsHalf shape other others
  pub current_long : length words ≡ words_for shape current
  pub other_long : length others ≡ words_for shape other
