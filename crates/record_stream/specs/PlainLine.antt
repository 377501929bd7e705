-- The line of an order in its shortest form: one member, which is an array of numbers, of texts and of arrays of one of these.
use Rattle.std.specs.Prelude.{◌≡◌, ◌++◌, ℕ, List, Bool, true, codes}
use Rattle.json.specs.Print.{quoted}
use Rattle.serde_json.specs.Data.{Data, Items, array, item, no_items, number, string}
use Rattle.serde_json.specs.Written.{comma_if}
use Rattle.record_stream.specs.PlainFind.{IsScalar}

-- The text is that of a number or a text, or that of an array of one of these.
abbrev pub IsPart : Data → List ℕ → Type 0
IsPart (number found) text = IsScalar (number found) text
IsPart (string bytes) text = IsScalar (string bytes) text
IsPart (array (item only no_items)) text = (inside : List ℕ) × IsScalar only inside × (text ≡ codes "[" ++ (inside ++ codes "]"))
IsPart _ text = ⊥

-- The text begins with a part, behind a comma where something stands before, and this follows it.
pub record BeginsWith (later : Bool) (value : Data) (text behind : List ℕ) : Type 0 where
  pub own : List ℕ
  pub part : IsPart value own
  pub whole : text ≡ comma_if later ++ (own ++ behind)

-- The text is that of some parts, up to the end of the line.
abbrev pub AreParts : Bool → Items → List ℕ → Type 0
AreParts later no_items text = text ≡ codes "]}"
AreParts later (item value values) text = (behind : List ℕ) × BeginsWith later value text behind × AreParts true values behind

-- The text has this word, in quotes, and this follows the bracket behind it.
abbrev pub HasWord : List ℕ → List ℕ → List ℕ → Type 0
HasWord word text behind = text ≡ codes "{" ++ (quoted word ++ (codes ":[" ++ behind))
