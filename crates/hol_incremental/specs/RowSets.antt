-- Sets of rows, as a set of ordinals for each type.
use Rattle.std.specs.Prelude.{List, [], ℕ, ◌↔◌, Contains, get_or}

-- the sets of ordinals have just these rows
abbrev pub IsSetOf : List (ℕ × ℕ) → List (List ℕ) → Type 0
IsSetOf rows sets = (t ordinal : ℕ) → Contains (get_or sets t []) ordinal ↔ Contains rows (t, ordinal)
