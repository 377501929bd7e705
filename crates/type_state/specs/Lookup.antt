-- What a set or map has that may stand under an ordinal.
use Rattle.std.specs.Prelude.{ℕ, List, [], Option, Some}
use Rattle.row_model.specs.declared.row.Row.{Row}

-- The elements of a set; there are none where there is no set.
abbrev pub elements_of : Option Row → List ℕ
elements_of (Some (Row.Set ordinals)) = ordinals
elements_of _ = []

-- The keys and values of a map, and none where there is no map.
abbrev pub pairs_of : Option Row → List (ℕ × ℕ)
pairs_of (Some (Row.Map pairs)) = pairs
pairs_of _ = []
