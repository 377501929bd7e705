-- The orders `walkindex` and `walkfind`, which keep an index of what the rows of a type reach along a walk path, and look rows up by a value that they reach.
use Rattle.std.specs.Prelude.{◌≡◌, ℕ, List, [], ◌∷◌, Option, Some, None, Contains, IsSomeAnd, option_and_then, slice_get, true}
use Rattle.serde_json.specs.Data.{Data}
use Rattle.schema_model.specs.declared.limit.Limit.TheVariants.{Entries, Walks}
use Rattle.schema_model.specs.declared.model.walk_path.WalkPart.{WalkPart}
use Rattle.schema_model.specs.declared.model.walk_path.WalkPath.{WalkPath}
use Rattle.schema_model.specs.declared.schema.FieldKind.{FieldKind}
use Rattle.schema_model.specs.declared.schema.Schema.{Schema}
use Rattle.schema_model.specs.declared.schema.name.Name.{Name}
use Rattle.schema_model.specs.Limit.{number_of_limit}
use Rattle.schema_model.specs.Parts.{index_of_type}
use Rattle.schema_model.specs.WalkPath.{WalkResolves, part_kind}
use Rattle.row_model.specs.declared.row.Value.{Value}
use Rattle.row_model.specs.Reach.{AreWalkMatches, type_by}
use Rattle.json_values.specs.KeyFrom.{key_part}
use Rattle.json_values.specs.ReadValue.{read_value}
use Rattle.read_engine.specs.Indexes.{KeepsOne}
use Rattle.read_engine.specs.Position.{Position, rows_now}
use Rattle.read_engine.specs.Walks.{CountsWalked, HasNoWalkRoom, PassesEntries}
use Rattle.hol_answers.specs.declared.refusal.Refusal.{Refusal}
use Rattle.hol_answers.specs.declared.refusal.Refusal.TheVariants.{BadKey, BadPath, NoIndex, NoState, NoType, TooLarge}
use Rattle.hol_answers.specs.declared.reply.Reply.{Reply}
use Rattle.hol_answers.specs.declared.reply.Reply.TheVariants as reply
use Rattle.hollow_machine.specs.Forms.{OrderForm, looking, moving}
use Rattle.hollow_machine.specs.RowOrders.{AnswersOf}
use Rattle.hollow_machine.specs.State.{Machine, with_consumer}

-- The text resolves to no walk path from the type at an index.
abbrev pub IsLostWalk : List Schema → ℕ → List ℕ → Type 0
IsLostWalk schemas t text = (path : WalkPath) → ¬ WalkResolves schemas t text path

-- ---- walkindex

-- The walk indexes of a position behind one that is asked for: the same where it is kept already, and else with it behind the others, where there is room and it
-- has no more entries than it may.
abbrev pub KeepsWalk : Position → WalkPath → List WalkPath → Type 0
KeepsWalk now path after = KeepsOne (number_of_limit Walks) now.walks path after × ¬ PassesEntries now path

-- Why no walk index of the type at an index is kept: the text leads to no value; there is no room; or there would be too many entries.
abbrev pub RefusesWalk : List ℕ → Position → ℕ → Refusal → Type 0
RefusesWalk text now type_index (BadPath lost) = (lost ≡ text) × IsLostWalk now.schemas type_index text
RefusesWalk text now type_index (TooLarge Walks) = (path : WalkPath) × WalkResolves now.schemas type_index text path × HasNoWalkRoom now path
RefusesWalk text now type_index (TooLarge Entries) = (path : WalkPath) × WalkResolves now.schemas type_index text path × PassesEntries now path
RefusesWalk text now type_index _ = ⊥

-- Why the order is refused: the consumer has no state, its model has no such type, or what there is to the type.
abbrev pub WalkIndexRefusal : Option Position → Name → List ℕ → Refusal → Type 0
WalkIndexRefusal consumer name text NoState = consumer ≡ None
WalkIndexRefusal consumer name text (NoType other) = IsSomeAnd consumer (λ now. (index_of_type now.schemas name ≡ None) × (other ≡ name))
WalkIndexRefusal consumer name text refusal =
    IsSomeAnd consumer (λ now. IsSomeAnd (index_of_type now.schemas name) (λ t. RefusesWalk text now t refusal))

-- A walk index of the type by the path of the text is kept, and so many live rows reach a value along it.
pub record WalksAlong (machine : Machine) (text : List ℕ) (now : Position) (type_index keys : ℕ) (next : Machine) : Type 0 where
  pub path : WalkPath
  pub resolves : WalkResolves now.schemas type_index text path
  pub counts : CountsWalked now path keys
  pub after : List WalkPath
  pub keeps : KeepsWalk now path after
  pub is : next ≡ with_consumer machine (Some (record now { walks = after }))

-- The consumer keeps the walk index of the type by the path, and so many live rows reach a value; or the order is refused and all stays.
abbrev pub WalkIndexStep : Machine → Name → List ℕ → Reply → Machine → Type 0
WalkIndexStep machine name text (reply.WalkIndex keys) next =
    IsSomeAnd machine.consumer (λ now. IsSomeAnd (index_of_type now.schemas name) (λ t. WalksAlong machine text now t keys next))
WalkIndexStep machine name text (reply.Refused refusal) next = WalkIndexRefusal machine.consumer name text refusal × (next ≡ machine)
WalkIndexStep machine name text _ next = ⊥

abbrev pub walkindex_form : OrderForm (Name × List ℕ)
walkindex_form = moving (λ machine asked reply next. WalkIndexStep machine asked.0 asked.1 reply next)

-- ---- walkfind

-- the kind of what stands at the end of parts from the type at an index
abbrev pub kind_walked : List Schema → ℕ → List WalkPart → Option FieldKind
kind_walked schemas type_index [] = None
kind_walked schemas type_index (part ∷ []) = option_and_then (λ schema. part_kind schema.shape part) (slice_get schemas type_index)
kind_walked schemas type_index (part ∷ next ∷ rest) = option_and_then (λ u. kind_walked schemas u (next ∷ rest)) (type_by schemas type_index part)

-- The JSON spells this value of what stands at the end of the path, which is not null; the least INT and the least LONG count as null.
pub record SpellsEnd (schemas : List Schema) (path : WalkPath) (json : Data) (value : Value) : Type 0 where
  pub kind : FieldKind
  pub ends : kind_walked schemas path.type_index path.parts ≡ Some kind
  pub reads : key_part (read_value kind json) ≡ Some value

-- A walk index is kept of a type by the path of this text.
abbrev pub IsWalkKept : List ℕ → Position → ℕ → WalkPath → Type 0
IsWalkKept text now t path = WalkResolves now.schemas t text path × Contains now.walks path

-- These are the live ordinals of a type whose rows reach the value that the JSON spells, along the path of this text, of which a walk index is kept.
abbrev pub FindsWalked : List ℕ → Data → Position → ℕ → List ℕ → Type 0
FindsWalked text json now type_index ordinals =
    (path : WalkPath) × IsWalkKept text now type_index path
    × ((value : Value) × SpellsEnd now.schemas path json value × AreWalkMatches now.schemas (rows_now now) type_index path.parts value ordinals)

-- Why no rows are looked up: the text leads to no value; no walk index is kept; or the JSON spells no value of what stands at the path's end.
abbrev pub WalkFindRefusal : List ℕ → Data → Position → ℕ → Refusal → Type 0
WalkFindRefusal text json now type_index (BadPath lost) = (lost ≡ text) × IsLostWalk now.schemas type_index text
WalkFindRefusal text json now type_index NoIndex = (path : WalkPath) × WalkResolves now.schemas type_index text path × ¬ Contains now.walks path
WalkFindRefusal text json now type_index BadKey = (path : WalkPath) × IsWalkKept text now type_index path × ((value : Value) → ¬ SpellsEnd now.schemas path json value)
WalkFindRefusal text json now type_index _ = ⊥

-- What `walkfind` answers of a type: the ordinals of the rows that reach the value.
abbrev pub ListsWalked : List ℕ → Data → Position → ℕ → Reply → Type 0
ListsWalked text json now type_index (reply.WalkFind ordinals) = FindsWalked text json now type_index ordinals
ListsWalked text json now type_index (reply.Refused refusal) = WalkFindRefusal text json now type_index refusal
ListsWalked text json now type_index _ = ⊥

abbrev pub WalkFindReply : Option Position → Name → List ℕ → Data → Reply → Type 0
WalkFindReply consumer name text json answer = AnswersOf consumer name (ListsWalked text json) answer

abbrev pub walkfind_form : OrderForm (Name × List ℕ × Data)
walkfind_form = looking (λ consumer asked answer. WalkFindReply consumer asked.0 asked.1 asked.2 answer) true
