-- The header of a blob: the format, the tags of the state before and of this state, the schemas, and pairs of texts.
use Rattle.std.specs.Prelude.{◌≡◌, ◌≢◌, ◌≤◌, ℕ, List, [], length, Option, Some}
use Rattle.std.specs.Int.{w16, w32}
use Rattle.schema_model.specs.declared.limit.Limit.TheVariants.{Blob}
use Rattle.schema_model.specs.Limit.{number_of_limit}
use Rattle.schema_model.specs.declared.reason.Reason.{Reason}
use Rattle.schema_model.specs.declared.reason.Reason.TheVariants.{OtherFormat}
use Rattle.schema_model.specs.declared.schema.Schema.{Schema}
use Rattle.blob_frame.specs.declared.header.Header.{Header}
use Rattle.blob_grammar.specs.Form.{Form, ◌>>=◌, nothing, judged, both, counted, envelope}
use Rattle.blob_grammar.specs.Deciding.{judge_number}
use Rattle.blob_frame.specs.Item.{fixed, signed, vint, name, skipped}
use Rattle.blob_frame.specs.SchemaForm.{schemas}

-- The number of the format.
abbrev pub format_number : ℕ
format_number = 1030

-- The format.
unfoldable pub format : Form Unit
format = judged (fixed w32) (λ n u. n ≡ format_number) (λ n why. (n ≢ format_number) × (why ≡ OtherFormat)) (judge_number format_number OtherFormat)

-- The listed schemas, and behind them bytes to skip.
unfoldable pub listed_schemas : Form (List Schema)
listed_schemas = do
  listed ← schemas
  count ← vint
  _ ← skipped count
  nothing listed

-- The schema envelope.
unfoldable pub schema_envelope : Form (List Schema)
schema_envelope = envelope vint [] listed_schemas

-- A pair of texts.
unfoldable pub name_pair : Form (List ℕ × List ℕ)
name_pair = both name name

-- The header tags: their number in 2 bytes, and each pair.
unfoldable pub header_tags : Form (List (List ℕ × List ℕ))
header_tags = counted (fixed w16) name_pair

-- A header.
unfoldable pub header : Form Header
header = do
  _ ← format
  from_tag ← signed
  to_tag ← signed
  listed ← schema_envelope
  pairs ← header_tags
  nothing (record { origin = from_tag; destination = to_tag; schemas = listed; tags = pairs })

-- The first n bytes of the blob are this header.
abbrev pub HeaderIs : List ℕ → ℕ → Header → Type 0
HeaderIs blob n h = header.Stands blob 0 h n

-- The header of the blob cannot be read past this place, for this reason.
abbrev pub StuckInHeader : List ℕ → ℕ → Reason → Type 0
StuckInHeader blob place why = header.Stuck blob 0 place why

-- What a name holds begins with this header, and is not too large.
abbrev pub HasHeader : Option (List ℕ) → Header → Type 0
HasHeader content header = (blob : List ℕ) × (n : ℕ) × (content ≡ Some blob) × (length blob ≤ number_of_limit Blob) × HeaderIs blob n header
