-- Things that stand in a blob one behind the other.
use Rattle.std.specs.Prelude.{◌+◌, ℕ, List, [], ◌∷◌, length}

-- What is made of each of them and of the offset at which it stands, where the first stands at this one.
abbrev pub placed : {A V : Type 0} → (A → List ℕ) → (A → ℕ → V) → List A → ℕ → List V
placed bytes made [] at = []
placed bytes made (one ∷ others) at = made one at ∷ placed bytes made others (at + length (bytes one))
