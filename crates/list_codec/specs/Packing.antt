-- LIST rows as they are written: where there is room for a list, and what the words of all places spell.
use Rattle.std.specs.Prelude.{◌≡◌, ℕ, ◌+◌, ◌*◌, ◌^◌, ◌<◌, ◌≤◌, List, [], length, flat_map, slice_get, slice_index_or, All, Option, Some, None}
use Rattle.bit_array.specs.Element.{number_of, words_of}
use Rattle.schema_model.specs.declared.schema.Shape.{Shape}
use Rattle.row_model.specs.declared.row.Row.{Row}
use Rattle.row_model.specs.Row.{FitsShape}
use Rattle.list_codec.specs.ListPlace.{pointer_width, element_width, start_at, end_at, IsList, SpellsList, SpellsListRow}
use Rattle.list_codec.specs.Widths.{elements_of_row}

-- There is room for a list at a place, whose elements begin at a start: the pointer before the place is that start, the words hold the
-- pointer and the elements, and the widths hold their values.
pub record HasRoom (widths first second : List ℕ) (place start : ℕ) (elements : List ℕ) : Type 0 where
  pub two : length widths ≡ 2
  pub narrow : All (λ width. width ≤ 64) widths
  pub follows : start_at widths first place ≡ start
  pub pointers : (place + 1) * pointer_width widths ≤ 64 * length first
  pub held : (start + length elements) * element_width widths ≤ 64 * length second
  pub few : 64 * length first < 2 ^ 64
  pub second_few : 64 * length second < 2 ^ 64
  pub below : start + length elements < 2 ^ pointer_width widths
  pub small : All (λ element. element < 2 ^ element_width widths) elements

-- The elements that a place takes: those of its list, none where it has no row.
abbrev pub elements_of_place : Option Row → List ℕ
elements_of_place None = []
elements_of_place (Some row) = elements_of_row row

abbrev pub elements_of_places : List (Option Row) → List ℕ
elements_of_places rows = flat_map elements_of_place rows

-- What can be packed: the widths hold the number of all elements and each of them, and each row is one of the type.
pub record CanPack (shape : Shape) (widths : List ℕ) (rows : List (Option Row)) : Type 0 where
  pub list : IsList shape
  pub fit : (place : ℕ) (row : Row) → slice_get rows place ≡ Some (Some row) → FitsShape shape row
  pub two : length widths ≡ 2
  pub narrow : All (λ width. width ≤ 64) widths
  pub below : length (elements_of_places rows) < 2 ^ pointer_width widths
  pub small : All (λ element. element < 2 ^ element_width widths) (elements_of_places rows)

-- The place spells its row; where it has none, the pointer is that of the place before.
abbrev pub SpellsPlace : List ℕ → ℕ → List ℕ → List ℕ → ℕ → Option Row → Type 0
SpellsPlace widths total first second place None = end_at widths first place ≡ start_at widths first place
SpellsPlace widths total first second place (Some row) = SpellsListRow widths total first second place row

-- The words are those of these places: each spells its row, and they have as many words as they need, and no bit behind.
pub record IsPacked (widths : List ℕ) (rows : List (Option Row)) (first second : List ℕ) : Type 0 where
  pub spelled : (place : ℕ) (row : Option Row) → slice_get rows place ≡ Some row → SpellsPlace widths (length (elements_of_places rows)) first second place row
  pub pointer_words : length first ≡ words_of (length rows * pointer_width widths)
  pub element_words : length second ≡ words_of (length (elements_of_places rows) * element_width widths)
  pub pointer_bits : number_of first < 2 ^ (length rows * pointer_width widths)
  pub element_bits : number_of second < 2 ^ (length (elements_of_places rows) * element_width widths)

-- The first so many places are written, up to an end in elements: each spells the elements that it takes, in as many words as all places need.
pub record WordsOf (widths : List ℕ) (rows : List (Option Row)) (first second : List ℕ) (place total : ℕ) : Type 0 where
  pub follows : start_at widths first place ≡ total
  pub spelled : (before : ℕ) → before < place → SpellsList widths total first second before (elements_of_place (slice_index_or rows before None))
  pub pointer_words : length first ≡ words_of (length rows * pointer_width widths)
  pub element_words : length second ≡ words_of (length (elements_of_places rows) * element_width widths)
  pub pointer_bits : number_of first < 2 ^ (place * pointer_width widths)
  pub element_bits : number_of second < 2 ^ (total * element_width widths)
