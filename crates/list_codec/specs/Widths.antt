-- What the writer of a blob chooses for a LIST type: the widths and the total, over the rows of two states.
use Rattle.std.specs.Prelude.{ℕ, ◌+◌, List, [], ◌∷◌, length, max, min, flat_map}
use Rattle.bit_array.specs.Digits.{digit_count}
use Rattle.row_model.specs.declared.row.Row.{Row}
use Rattle.schema_model.specs.declared.limit.Limit.{Limit}
use Rattle.schema_model.specs.Limit.{number_of_limit}
use Rattle.row_model.specs.Table.{Table}
use Rattle.row_model.specs.BothStates.{rows_of_both}

-- The elements of a list.
abbrev pub elements_of_row : Row → List ℕ
elements_of_row (Row.List ordinals) = ordinals
elements_of_row _ = []

-- The elements of all lists of two states, a list that both have counted once.
abbrev pub elements_of_both : Table → Table → ℕ → List ℕ
elements_of_both old new type_index = flat_map elements_of_row (rows_of_both old new type_index)

-- The greatest of some numbers, 0 where there are none.
unfoldable pub greatest : List ℕ → ℕ
greatest [] = 0
greatest (number ∷ rest) = max number (greatest rest)

-- The widths for these elements: the pointers hold their number, and the elements the greatest of them. Each has a bit at least.
abbrev pub widths_for : List ℕ → List ℕ
widths_for elements = max 1 (digit_count (length elements)) ∷ max 1 (digit_count (greatest elements)) ∷ []

-- The total of these elements: their number, or one more than the limit where they are more.
abbrev pub total_for : List ℕ → ℕ
total_for elements = min (length elements) (number_of_limit Limit.Items + 1)
