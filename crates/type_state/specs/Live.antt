-- Sets of live ordinals, from which others are taken, and into which others are put.
use Rattle.std.specs.Prelude.{ℕ, List, [], ◌∷◌}
use Rattle.ordinal_set.specs.Ordinals.{with_ordinal, without_ordinal}
use Rattle.type_state.specs.declared.differences.Differences.{Differences}

-- The set without some ordinals.
unfoldable pub without_all : List ℕ → List ℕ → List ℕ
without_all set [] = set
without_all set (ordinal ∷ ordinals) = without_all (without_ordinal ordinal set) ordinals

-- The set with some ordinals.
unfoldable pub with_all : List ℕ → List ℕ → List ℕ
with_all set [] = set
with_all set (ordinal ∷ ordinals) = with_all (with_ordinal ordinal set) ordinals

-- The live ordinals of rows with differences of which those that the patch removes are gone and those that it adds come.
abbrev pub live_with : List ℕ → Differences → List ℕ
live_with live differences = with_all (without_all live differences.patch.now.removed) differences.patch.now.added
