-- The rows of films.
use Rattle.std.specs.Prelude.{ℕ, List, [], ◌∷◌, ◌++◌, pos, decimal}
use Rattle.hol_varint.specs.TextUnits.{text_units}
use Rattle.row_model.specs.declared.row.Row.{Row}
use Rattle.row_model.specs.declared.row.Value.{Value}
use Rattle.film_script.specs.Films.{film_year}

-- the index of Text
abbrev pub text_type : ℕ
text_type = 0

-- the index of Tags
abbrev pub tags_type : ℕ
tags_type = 1

-- the Text of a letter and a number in decimal
abbrev pub text_row : List ℕ → ℕ → Row
text_row letter number = Row.Object (Value.Text (text_units (letter ++ decimal number)) ∷ [])

-- the Film at a place in a cycle, whose title and tags stand under these ordinals
abbrev pub film_row : ℕ → ℕ → ℕ → ℕ → ℕ → Row
film_row seed cycle place title tags =
    Row.Object (Value.Int (pos place) ∷ Value.Ref title ∷ Value.Int (pos (film_year seed cycle place)) ∷ Value.Ref tags ∷ [])
