-- The line of a look-up by one path in its shortest form, and the values that may stand in it.
use Rattle.std.specs.Prelude.{◌≡◌, ◌++◌, ℕ, List, Some, codes}
use Rattle.json.specs.Print.{IsNumber, quoted}
use Rattle.serde_json.specs.Data.{Data, number, string}
use Rattle.serde_json.specs.Read.{number_of}

-- The text is that of a number, or that of a text.
abbrev pub IsScalar : Data → List ℕ → Type 0
IsScalar (number found) text = IsNumber text × (number_of text ≡ Some found)
IsScalar (string bytes) text = text ≡ quoted bytes
IsScalar _ text = ⊥

-- The line is a look-up by one path, whose value has this text.
abbrev pub IsPlainFind : List ℕ → List ℕ → List ℕ → List ℕ → Type 0
IsPlainFind name path text line = line ≡ codes "{\"find\":[" ++ (quoted name ++ (codes ",[" ++ (quoted path ++ (codes "],[" ++ (text ++ codes "]]}")))))
