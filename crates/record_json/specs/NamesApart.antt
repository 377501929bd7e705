-- When the names of the fields of a type are apart, as those of each type of a model are.
use Rattle.std.specs.Prelude.{◌≡◌, ℕ, List, [], ◌∷◌, All}

-- no name stands twice
abbrev pub AreNamesApart : List (List ℕ) → Type 0
AreNamesApart [] = Unit {0}
AreNamesApart (name ∷ names) = All (λ other. name ≡ other → ⊥) names × AreNamesApart names
