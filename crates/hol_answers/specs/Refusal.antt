-- The refusals: each as a JSON object, its members in byte order of their names, and its line.
use Rattle.std.specs.Prelude.{ℕ, ◌^◌, ℤ, List, [], ◌∷◌, ◌++◌, codes, Option, Some, None}
use Rattle.serde_json.specs.Data.{Data, string}
use Rattle.serde_json.specs.Written.{compact_text}
use Rattle.hol_io.specs.declared.name.BlobName.{BlobName}
use Rattle.hol_io.specs.Name.{text_of_name}
use Rattle.schema_model.specs.Limit.{name_of_limit, number_of_limit}
use Rattle.schema_model.specs.declared.reason.Reason.{Reason}
use Rattle.schema_model.specs.Reason.{number_of_reason}
use Rattle.schema_model.specs.Rule.{name_of_rule}
use Rattle.hol_orders.specs.Parts.{whole}
use Rattle.hol_answers.specs.declared.refusal.Refusal.{Refusal}
use Rattle.hol_answers.specs.declared.refusal.Refusal.TheVariants.{BadOrder, LineTooLong, BadModel, NoModel, ModelFixed, BadRecord, BadVersion, TagUsed, NoBlob, BadBlob, OtherOrigin, NoState, NoType, NoRow, BadPath, NoMatch, Ambiguous, Mismatch, TooLarge, DuplicateRow, OtherModel, NotLast, NoIndex, WrongKind, BadKey, NotGrown, NoPlan, KeyTwice, NoKey, NotKept}
use Rattle.hol_answers.specs.declared.refusal.ItemFault.{ItemFault}
use Rattle.hol_answers.specs.declared.refusal.RowPlace.{RowPlace}
use Rattle.hol_answers.specs.Member.{Member, integer, or_null, says}

-- the refusals of a record, of an item that is no row, and of a blob that starts from another state, by what they tell
abbrev pub bad_record : List ℕ → ℕ → Reason → Refusal
bad_record type_name index reason = BadRecord (record { type_name = type_name; index = index; reason = reason })

abbrev pub bad_item : BlobName → ℕ → Reason → Refusal
bad_item blob at reason = BadBlob (record { blob = blob; at = at; reason = reason; row = None })

abbrev pub other_origin : BlobName → ℤ → ℤ → Refusal
other_origin blob found current = OtherOrigin (record { blob = blob; found = found; current = current })

-- The members that refusals have: the number and the name of each, and what several of them tell.
abbrev error : ℕ → Member
error number = (codes "error", whole number)

abbrev named : List ℕ → Member
named name = (codes "name", string name)

abbrev of_type : List ℕ → Member
of_type type_name = (codes "type", string type_name)

abbrev of_blob : BlobName → Member
of_blob blob = (codes "blob", string (text_of_name blob))

-- a refusal without further members, and one that names a type alone
abbrev plain_data : ℕ → List ℕ → Data
plain_data number name = says (error number ∷ named name ∷ [])

abbrev type_data : ℕ → List ℕ → List ℕ → Data
type_data number name type_name = says (error number ∷ named name ∷ of_type type_name ∷ [])

-- a fault of a blob: the blob, the offset of the item and the reason, and of a row its ordinal and the name of its type
abbrev pub bad_blob_data : ItemFault → Option RowPlace → Data
bad_blob_data fault None = says (
    (codes "at", whole fault.at) ∷ of_blob fault.blob ∷ error 19 ∷ named (codes "BadBlob") ∷ (codes "reason", whole (number_of_reason fault.reason)) ∷ []
    )
bad_blob_data fault (Some row) = says (
    (codes "at", whole fault.at) ∷ of_blob fault.blob ∷ error 19 ∷ named (codes "BadBlob") ∷ (codes "ordinal", whole row.ordinal)
    ∷ (codes "reason", whole (number_of_reason fault.reason)) ∷ of_type row.type_name ∷ []
    )

-- The JSON object of a refusal.
abbrev pub refusal_data : Refusal → Data
refusal_data BadOrder = plain_data 10 (codes "BadOrder")
refusal_data LineTooLong = says (error 11 ∷ (codes "limit", whole (2 ^ 26)) ∷ named (codes "LineTooLong") ∷ [])
refusal_data (BadModel rule type_name) = says (error 12 ∷ named (codes "BadModel") ∷ (codes "rule", string (name_of_rule rule)) ∷ of_type type_name ∷ [])
refusal_data NoModel = plain_data 13 (codes "NoModel")
refusal_data ModelFixed = plain_data 14 (codes "ModelFixed")
refusal_data (BadRecord fault) = says (
    error 15 ∷ (codes "index", whole fault.index) ∷ named (codes "BadRecord") ∷ (codes "reason", whole (number_of_reason fault.reason)) ∷ of_type fault.type_name ∷ []
    )
refusal_data (BadVersion last) = says (error 16 ∷ (codes "last", whole last) ∷ named (codes "BadVersion") ∷ [])
refusal_data (TagUsed tag) = says (error 17 ∷ named (codes "TagUsed") ∷ (codes "tag", integer tag) ∷ [])
refusal_data (NoBlob blob) = says (of_blob blob ∷ error 18 ∷ named (codes "NoBlob") ∷ [])
refusal_data (BadBlob fault) = bad_blob_data fault fault.row
refusal_data (OtherOrigin fault) = says (
    of_blob fault.blob ∷ (codes "current", integer fault.current) ∷ error 20 ∷ (codes "found", integer fault.found) ∷ named (codes "OtherOrigin") ∷ []
    )
refusal_data NoState = plain_data 21 (codes "NoState")
refusal_data (NoType name) = type_data 22 (codes "NoType") name
refusal_data (NoRow row) = says (error 23 ∷ named (codes "NoRow") ∷ (codes "ordinal", whole row.ordinal) ∷ of_type row.type_name ∷ [])
refusal_data (BadPath path) = says (error 24 ∷ named (codes "BadPath") ∷ (codes "path", string path) ∷ [])
refusal_data NoMatch = plain_data 25 (codes "NoMatch")
refusal_data (Ambiguous first second) = says (error 26 ∷ (codes "first", whole first) ∷ named (codes "Ambiguous") ∷ (codes "second", whole second) ∷ [])
refusal_data (Mismatch difference) = says (
    error 27 ∷ named (codes "Mismatch") ∷ (codes "ordinal", or_null whole difference.ordinal) ∷ (codes "type", or_null string difference.type_name)
    ∷ (codes "version", whole difference.version) ∷ []
    )
refusal_data (TooLarge limit) = says (
    error 28 ∷ (codes "limit", whole (number_of_limit limit)) ∷ named (codes "TooLarge") ∷ (codes "what", string (name_of_limit limit)) ∷ []
    )
refusal_data (DuplicateRow rows) = says (
    error 29 ∷ (codes "first", whole rows.first) ∷ named (codes "DuplicateRow") ∷ (codes "second", whole rows.second) ∷ of_type rows.type_name ∷ []
    )
refusal_data (OtherModel blob type_name) = says (of_blob blob ∷ error 30 ∷ named (codes "OtherModel") ∷ of_type type_name ∷ [])
refusal_data (NotLast announced) = says ((codes "announced", whole announced) ∷ error 31 ∷ named (codes "NotLast") ∷ [])
refusal_data NoIndex = plain_data 32 (codes "NoIndex")
refusal_data (WrongKind name) = type_data 33 (codes "WrongKind") name
refusal_data BadKey = plain_data 34 (codes "BadKey")
refusal_data (NotGrown name) = type_data 35 (codes "NotGrown") name
refusal_data (NoPlan from to) = says (error 36 ∷ (codes "from", or_null whole from) ∷ named (codes "NoPlan") ∷ (codes "to", whole to) ∷ [])
refusal_data (KeyTwice keys) = says (
    error 37 ∷ (codes "first", whole keys.first) ∷ named (codes "KeyTwice") ∷ (codes "second", whole keys.second) ∷ of_type keys.type_name ∷ []
    )
refusal_data (NoKey type_name index) = says (error 38 ∷ (codes "index", whole index) ∷ named (codes "NoKey") ∷ of_type type_name ∷ [])
refusal_data (NotKept version) = says (error 39 ∷ named (codes "NotKept") ∷ (codes "version", whole version) ∷ [])

-- The line of a refusal: its JSON text without spaces, and a newline.
abbrev pub refusal_line : Refusal → List ℕ
refusal_line refusal = compact_text (refusal_data refusal) ++ 10 ∷ []
