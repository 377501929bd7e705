-- What follows a value, the items of an array or the members of an object, where these can be read.
use Rattle.std.specs.Prelude.{ℕ, List, length, Option, option_map}
use Rattle.json.specs.Token.{Token}
use Rattle.json.specs.Json.{items, members, value}
use Rattle.serde_json.specs.Data.{no_members}
use Rattle.serde_json.specs.Read.{converted, of_items, of_json, of_members}

-- The tokens behind the value with which these begin, which nests no deeper than that.
abbrev pub behind_value : ℕ → List Token → Option (List Token)
behind_value depth tokens = option_map (λ found. found.1) (converted of_json (value depth tokens))

-- The tokens behind the items with which these begin, and the bracket that closes their array.
abbrev pub behind_items : ℕ → List Token → Option (List Token)
behind_items depth tokens = option_map (λ found. found.1) (converted of_items (items (value depth) (length tokens) tokens))

-- The tokens behind the members with which these begin, and the brace that closes their object.
abbrev pub behind_members : ℕ → List Token → Option (List Token)
behind_members depth tokens = option_map (λ found. found.1) (converted (λ found. of_members found no_members) (members (value depth) (length tokens) tokens))
