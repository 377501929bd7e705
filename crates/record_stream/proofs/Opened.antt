-- The start of a cycle, passed from one token to the next.
use Rattle.std.proofs.Common.{◌≡◌, ◌∙◌, ℕ, List, [], ◌∷◌, Option, Some, None, sym, ap}
use Rattle.json.specs.Token.{Token}
use Rattle.json.specs.Json.{Json, skip_value, value}
use Rattle.json.specs.Reads.{Yields}
use Rattle.json.specs.declared.token.Token as declared
use Rattle.json.proofs.Found.{Some_inj}
use Rattle.json.proofs.Grammar.{left}
use Rattle.serde_json.specs.Data.{Data}
use Rattle.serde_json.specs.Read.{converted, of_json}
use Rattle.record_stream.proofs.Converted.{converted_some}

abbrev behind_first : List Token → List Token
behind_first [] = []
behind_first (t ∷ ts) = ts

-- behind the next token is what stood behind the first one
pub behind_next : (found : Option declared.Token) (old new rest : List Token) (first : Token) → Yields old found new → old ≡ first ∷ rest → new ≡ rest
behind_next None old new rest first next e = absurd cc
behind_next (Some t) old new rest first next e = ap behind_first (sym next ∙ e)

-- a value that can be read is known
pub known : (depth : ℕ) (ts rest : List Token) (d : Data) → converted of_json (value depth ts) ≡ Some (d, rest) → (j : Json) × (value depth ts ≡ Some (j, rest))
known depth ts rest d e = let j = converted_some of_json (value depth ts) d rest e in (j.0, j.1)

pub known_passed : (depth : ℕ) (ts now rest : List Token) (d : Data) → converted of_json (value depth ts) ≡ Some (d, rest) → skip_value depth ts ≡ Some now → now ≡ rest
known_passed depth ts now rest d e passed = Some_inj now rest (sym passed ∙ ap left (known depth ts rest d e).1)
