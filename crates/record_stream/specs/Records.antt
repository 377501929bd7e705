-- The records of a cycle that stand ahead in the tokens of its line.
use Rattle.std.specs.Prelude.{◌≡◌, ℕ, List, [], ◌∷◌, Option, Some, None}
use Rattle.json.specs.Token.{Token}
use Rattle.json.specs.Json.{items, value}
use Rattle.serde_json.specs.Data.{Data}
use Rattle.serde_json.specs.Read.{converted, of_items}
use Rattle.serde_json.specs.View.{items_of, view}
use Rattle.serde_json.specs.declared.value.Value.{Value}

-- How deep arrays and objects may nest in a record: a line may nest 127 deep, and three objects and an array are around it.
abbrev pub record_depth : ℕ
record_depth = 123

-- The tokens begin with these records and the bracket that closes their array; the rest follows.
abbrev pub AreAhead : List Token → List Data → List Token → Type 0
AreAhead tokens records rest = (turns : ℕ) × (converted of_items (items (value record_depth) turns tokens) ≡ Some (items_of records, rest))

-- What asking for the next record answers, where these are ahead: that none is left, and the reader is behind the bracket; or the first one, and
-- the others are ahead.
abbrev pub TellsRecord : List Data → List Token → Option Value → List Token → Type 0
TellsRecord records rest None now = (records ≡ []) × (now ≡ rest)
TellsRecord records rest (Some record_value) now = (others : List Data) × (records ≡ view record_value ∷ others) × AreAhead now others rest
