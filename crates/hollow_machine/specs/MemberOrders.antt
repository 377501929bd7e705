-- The orders `has` and `at`, which look into a set and into a map: what they answer of where a consumer stands.
use Rattle.std.specs.Prelude.{◌≡◌, ◌↔◌, ℕ, Option, Contains, IsTrue, true}
use Rattle.schema_model.specs.declared.schema.name.Name.{Name}
use Rattle.schema_model.specs.declared.schema.Shape.{Shape}
use Rattle.row_model.specs.Table.{IsLive, row_at}
use Rattle.bucket_codec.specs.Run.{FindsIn}
use Rattle.type_state.specs.Lookup.{elements_of, pairs_of}
use Rattle.read_engine.specs.Position.{Position, rows_now}
use Rattle.hol_answers.specs.declared.refusal.Refusal.{Refusal}
use Rattle.hol_answers.specs.declared.refusal.Refusal.TheVariants.{NoRow, WrongKind}
use Rattle.hol_answers.specs.declared.reply.Reply.{Reply}
use Rattle.hol_answers.specs.declared.reply.Reply.TheVariants as reply
use Rattle.hollow_machine.specs.KeyPaths.{HasShape, IsMap, IsSet}
use Rattle.hollow_machine.specs.RowOrders.{AnswersOf}
use Rattle.hollow_machine.specs.Forms.{OrderForm, looking}

-- Why a row of a type is not looked into: the rows of the type have another shape, or the ordinal is not live.
abbrev pub MemberRefusal : (Shape → Type 0) → Name → ℕ → Position → ℕ → Refusal → Type 0
MemberRefusal Is name ordinal now type_index (WrongKind other) = (other ≡ name) × ¬ HasShape Is now.schemas type_index
MemberRefusal Is name ordinal now type_index (NoRow row) =
    HasShape Is now.schemas type_index × (row.type_name ≡ name) × (row.ordinal ≡ ordinal) × ¬ IsLive (rows_now now) type_index ordinal
MemberRefusal Is name ordinal now type_index _ = ⊥

-- The row under an ordinal of a type is there, and has this shape.
abbrev pub IsRowOf : (Shape → Type 0) → ℕ → Position → ℕ → Type 0
IsRowOf Is ordinal now t = HasShape Is now.schemas t × IsLive (rows_now now) t ordinal

-- What `has` answers of a type: whether the set under an ordinal has the element.
abbrev pub TellsElement : Name → ℕ → ℕ → Position → ℕ → Reply → Type 0
TellsElement name ordinal element now type_index (reply.Has there) =
    IsRowOf IsSet ordinal now type_index × (IsTrue there ↔ Contains (elements_of (row_at (rows_now now) type_index ordinal)) element)
TellsElement name ordinal element now type_index (reply.Refused refusal) = MemberRefusal IsSet name ordinal now type_index refusal
TellsElement name ordinal element now type_index _ = ⊥

abbrev pub HasReply : Option Position → Name → ℕ → ℕ → Reply → Type 0
HasReply consumer name ordinal element answer = AnswersOf consumer name (TellsElement name ordinal element) answer

-- What `at` answers of a type: the value that the map under an ordinal has beside the key, if it has the key.
abbrev pub TellsValue : Name → ℕ → ℕ → Position → ℕ → Reply → Type 0
TellsValue name ordinal key now type_index (reply.At value) = IsRowOf IsMap ordinal now type_index × FindsIn (pairs_of (row_at (rows_now now) type_index ordinal)) key value
TellsValue name ordinal key now type_index (reply.Refused refusal) = MemberRefusal IsMap name ordinal now type_index refusal
TellsValue name ordinal key now type_index _ = ⊥

abbrev pub AtReply : Option Position → Name → ℕ → ℕ → Reply → Type 0
AtReply consumer name ordinal key answer = AnswersOf consumer name (TellsValue name ordinal key) answer

abbrev pub has_form : OrderForm (Name × ℕ × ℕ)
has_form = looking (λ consumer asked answer. HasReply consumer asked.0 asked.1 asked.2 answer) true

abbrev pub at_form : OrderForm (Name × ℕ × ℕ)
at_form = looking (λ consumer asked answer. AtReply consumer asked.0 asked.1 asked.2 answer) true
