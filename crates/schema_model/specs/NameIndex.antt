-- What an index of names keeps.
use Rattle.std.specs.Prelude.{◌≡◌, ℕ, List}
use Rattle.std.specs.BTreeMap.{BTreeMap, get_by_text}
use Rattle.std.specs.declared.alloc.Global.{Global}
use Rattle.std.specs.declared.string.String.{String}
use Rattle.schema_model.specs.Parts.{name_index}

-- The map has each of the names at the first index at which it stands, and no other name.
abbrev pub Indexes : List (List ℕ) → BTreeMap (String Global) ℕ → Type 0
Indexes names places = (name : List ℕ) → get_by_text places name ≡ name_index names name
