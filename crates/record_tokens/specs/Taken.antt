-- What JSON at the front of some tokens is read as.
use Rattle.std.specs.Prelude.{◌≡◌, ℕ, List, Option, Some, None, Result, Ok, length, option_map}
use Rattle.json.specs.Token.{Token, begin_object, end_object, begin_array, end_array, key, string as string_token, number as number_token, boolean as boolean_token, null as null_token, bad}
use Rattle.json.specs.Json.{items, members, value}
use Rattle.serde_json.specs.Data.{Data, Items, Members, boolean, no_members, null, number, string}
use Rattle.serde_json.specs.Read.{converted, number_of, of_items, of_json, of_members}
use Rattle.schema_model.specs.declared.reason.Reason.{Reason}
use Rattle.json_values.specs.ReadValue.{read_each}

-- The tokens begin with JSON that nests no deeper than so, and that is read as this; the rest follows.
abbrev pub Takes : {A : Type 0} → (Data → Result A Reason) → ℕ → List Token → A → List Token → Type 0
Takes read nest tokens found rest = (json : Data) × (converted of_json (value nest tokens) ≡ Some (json, rest)) × (read json ≡ Ok found)

-- The same of the items of an array, up to its bracket, each of which is read as one of these.
abbrev pub TakesItems : {A : Type 0} → (Data → Result A Reason) → ℕ → List Token → List A → List Token → Type 0
TakesItems read nest tokens found rest =
    (parts : Items) × (converted of_items (items (value nest) (length tokens) tokens) ≡ Some (parts, rest)) × (read_each read parts ≡ Ok found)

-- The same of the members of an object, up to its brace, which are read together.
abbrev pub TakesMembers : {A : Type 0} → (Members → Result A Reason) → ℕ → List Token → A → List Token → Type 0
TakesMembers read nest tokens found rest =
    (parts : Members) × (converted (λ ms. of_members ms no_members) (members (value nest) (length tokens) tokens) ≡ Some (parts, rest)) × (read parts ≡ Ok found)

-- the JSON that a token is by itself
abbrev pub scalar : Token → Option Data
scalar begin_object = None
scalar end_object = None
scalar begin_array = None
scalar end_array = None
scalar (key name) = None
scalar (string_token text) = Some (string text)
scalar (number_token text) = option_map number (number_of text)
scalar (boolean_token flag) = Some (boolean flag)
scalar null_token = Some null
scalar bad = None
