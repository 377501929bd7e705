-- The answers of one line: each as a JSON object, its members in byte order of their names, and its line.
use Rattle.std.specs.Prelude.{ℕ, List, [], ◌∷◌, ◌++◌, codes, Bool, true, false, Option, Some, None, negsuc, if◌then◌else◌}
use Rattle.serde_json.specs.Data.{Data, boolean, string}
use Rattle.serde_json.specs.View.{view}
use Rattle.serde_json.specs.declared.value.Value.{Value}
use Rattle.serde_json.specs.Written.{compact_text}
use Rattle.hol_io.specs.declared.name.BlobName.{BlobName}
use Rattle.hol_io.specs.Name.{text_of_name}
use Rattle.schema_model.specs.declared.schema.name.Name.{Name}
use Rattle.schema_model.specs.declared.schema.Schema.{Schema}
use Rattle.hol_orders.specs.Parts.{pair, whole}
use Rattle.hol_answers.specs.declared.reply.Made.{Made}
use Rattle.hol_answers.specs.declared.reply.Reply.{Reply}
use Rattle.hol_answers.specs.declared.reply.Reply.TheVariants.{Head, Model, Cycle, Restore, Load, Step, Index, Get, Find, Live, Row, Has, At, Past, Check, Stat, Make, Grow, Plan, Goto, Change, WalkIndex, WalkFind, History, Was, WasGet, Refused}
use Rattle.hol_answers.specs.declared.stat.TypeCounts.{TypeCounts}
use Rattle.hol_answers.specs.Member.{Member, integer, list_of, or_null, says}
use Rattle.hol_answers.specs.Refusal.{refusal_data}

-- the name of a schema, and a pair of a header as a list of two texts
abbrev pub schema_name : Schema → Data
schema_name schema = string schema.name

abbrev pub tag_item : Name × Name → Data
tag_item tag = pair (string tag.0) (string tag.1)

-- the name of a blob
abbrev pub blob_item : BlobName → Data
blob_item blob = string (text_of_name blob)

-- a row that left: its ordinal and its record
abbrev pub past_item : ℕ × Value → Data
past_item entry = pair (whole entry.0) (view entry.1)

-- the greatest ordinal that has a place, and -1 where there is no place
abbrev pub max_data : Option ℕ → Data
max_data None = integer (negsuc 0)
max_data (Some max) = whole max

-- what a consumer keeps of a type
abbrev pub counts_data : TypeCounts → Data
counts_data counts = says (
    (codes "bytes", whole counts.bytes) ∷ (codes "live", whole counts.live) ∷ (codes "max", max_data counts.max) ∷ (codes "name", string counts.type_name)
    ∷ (codes "words", whole counts.words) ∷ []
    )

-- how many rows there are of each type of `make`
abbrev pub made_rows : Made → Data
made_rows made = says ((codes "Film", whole made.films) ∷ (codes "Tags", whole made.tags) ∷ (codes "Text", whole made.texts) ∷ [])

-- the member that tells what is answered: the word of the command or the order
abbrev ok : List ℕ → Member
ok word = (codes "ok", string word)

-- The JSON object of an answer.
abbrev pub reply_data : Reply → Data
reply_data (Head header) = says (
    (codes "destination", integer header.destination) ∷ (codes "format", whole 1030) ∷ ok (codes "head") ∷ (codes "origin", integer header.origin)
    ∷ (codes "schemas", list_of schema_name header.schemas) ∷ (codes "tags", list_of tag_item header.tags) ∷ []
    )
reply_data (Model types) = says (ok (codes "model") ∷ (codes "types", whole types) ∷ [])
reply_data (Cycle changed published version) = says (
    (codes "changed", list_of string changed) ∷ ok (codes "cycle") ∷ (codes "published", boolean published) ∷ (codes "version", whole version) ∷ []
    )
reply_data (Restore tag version) = says (ok (codes "restore") ∷ (codes "tag", integer tag) ∷ (codes "version", whole version) ∷ [])
reply_data (Load tag) = says (ok (codes "load") ∷ (codes "tag", integer tag) ∷ [])
reply_data (Step tag) = says (ok (codes "step") ∷ (codes "tag", integer tag) ∷ [])
reply_data (Index keys) = says ((codes "keys", whole keys) ∷ ok (codes "index") ∷ [])
reply_data (Get ordinal row) = says (ok (codes "get") ∷ (codes "ordinal", whole ordinal) ∷ (codes "row", view row) ∷ [])
reply_data (Find ordinals) = says (ok (codes "find") ∷ (codes "ordinals", list_of whole ordinals) ∷ [])
reply_data (Live ordinals) = says (ok (codes "live") ∷ (codes "ordinals", list_of whole ordinals) ∷ [])
reply_data (Row row) = says (ok (codes "row") ∷ (codes "row", view row) ∷ [])
reply_data (Has there) = says ((codes "has", boolean there) ∷ ok (codes "has") ∷ [])
reply_data (At value) = says (ok (codes "at") ∷ (codes "value", or_null whole value) ∷ [])
reply_data (Past rows) = says (ok (codes "past") ∷ (codes "rows", list_of past_item rows) ∷ [])
reply_data (Check compared states) = says ((codes "compared", whole compared) ∷ ok (codes "check") ∷ (codes "states", whole states) ∷ [])
reply_data (Stat tag types) = says (ok (codes "stat") ∷ (codes "tag", integer tag) ∷ (codes "types", list_of counts_data types) ∷ [])
reply_data (Make made) = says (ok (codes "make") ∷ (codes "published", whole made.published) ∷ (codes "rows", made_rows made) ∷ [])
reply_data (Grow types) = says (ok (codes "grow") ∷ (codes "types", whole types) ∷ [])
reply_data (Plan blobs) = says ((codes "blobs", list_of blob_item blobs) ∷ ok (codes "plan") ∷ [])
reply_data (Goto progress) = says (
    (codes "applied", whole progress.applied) ∷ (codes "of", whole progress.of) ∷ ok (codes "goto") ∷ (codes "refused", or_null refusal_data progress.refused)
    ∷ (codes "tag", or_null integer progress.tag) ∷ []
    )
reply_data (Change change) = says (
    (codes "changed", list_of string change.changed) ∷ (codes "missing", whole change.missing) ∷ ok (codes "change") ∷ (codes "published", boolean change.published)
    ∷ (codes "version", whole change.version) ∷ []
    )
reply_data (WalkIndex keys) = says ((codes "keys", whole keys) ∷ ok (codes "walkindex") ∷ [])
reply_data (WalkFind ordinals) = says (ok (codes "walkfind") ∷ (codes "ordinals", list_of whole ordinals) ∷ [])
reply_data (History kept) = says ((codes "kept", whole kept) ∷ ok (codes "history") ∷ [])
reply_data (Was row) = says (ok (codes "was") ∷ (codes "row", view row) ∷ [])
reply_data (WasGet ordinal row) = says (ok (codes "wasget") ∷ (codes "ordinal", whole ordinal) ∷ (codes "row", view row) ∷ [])
reply_data (Refused refusal) = refusal_data refusal

-- The version whose blobs an answer says were put, where it says so.
abbrev pub published_by : Reply → Option ℕ
published_by (Cycle changed published version) = if published then Some version else None
published_by (Change change) = if change.published then Some change.version else None
published_by _ = None

-- Whether an answer is a refusal.
abbrev pub is_refusal : Reply → Bool
is_refusal (Refused refusal) = true
is_refusal _ = false

-- The line of an answer: its JSON text without spaces, and a newline.
abbrev pub line_of : Reply → List ℕ
line_of reply = compact_text (reply_data reply) ++ 10 ∷ []
