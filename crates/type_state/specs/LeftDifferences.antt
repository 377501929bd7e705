-- Ordinals that are gone through beside the places, by rising ordinal.
use Rattle.std.specs.Prelude.{◌==◌, ℕ, ◌-◌, ◌^◌, List, [], ◌∷◌, if◌then◌else◌}

-- The first one, the greatest number of 64 bits where there is none.
abbrev pub first_ordinal : List ℕ → ℕ
first_ordinal [] = 2 ^ 64 - 1
first_ordinal (ordinal ∷ rest) = ordinal

-- Those behind a place: all but the first where that is the place.
abbrev pub behind : ℕ → List ℕ → List ℕ
behind place [] = []
behind place (ordinal ∷ rest) = (if ordinal == place then rest else ordinal ∷ rest)
