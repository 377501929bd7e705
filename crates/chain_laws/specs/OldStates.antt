-- Older states of a consumer over a chain: what is answered of a version that is kept is what is answered where a consumer with the same model sees its state.
use Rattle.std.specs.Prelude.{◌≡◌, ℕ, List, [], Contains, IsSome, IsSomeAnd, Some}
use Rattle.serde_json.specs.Data.{Data}
use Rattle.schema_model.specs.declared.model.path.Path.{Path}
use Rattle.schema_model.specs.declared.schema.name.Name.{Name}
use Rattle.schema_model.specs.declared.schema.Schema.{Schema}
use Rattle.schema_model.specs.Parts.{index_of_type}
use Rattle.hol_answers.specs.declared.reply.Reply.{Reply}
use Rattle.hol_answers.specs.declared.reply.Reply.TheVariants as reply
use Rattle.read_engine.specs.Indexes.{index_by}
use Rattle.read_engine.specs.Position.{Position}
use Rattle.hollow_machine.specs.HistoryOrders.{rows_then}
use Rattle.hollow_machine.specs.KeyOrders.{GetReply}
use Rattle.hollow_machine.specs.KeyPaths.{AreKeyPaths}
use Rattle.hollow_machine.specs.RowOrders.{RowReply}
use Rattle.hollow_machine.specs.State.{Machine}
use Rattle.written_laws.specs.Chain.{Chain, ChainState, HasVersion}
use Rattle.chain_laws.specs.Consumers.{Sees}

-- The machine has a consumer that has the version, or of which the version is kept.
abbrev pub Reaches : Machine → ℕ → Type 0
Reaches machine version = IsSomeAnd machine.consumer (λ now. IsSome (rows_then now machine.version machine.past version))

-- the answer of `row` and of `get` that shows what an answer of `was` and of `wasget` shows, and refuses what it refuses
abbrev pub as_row : Reply → Reply
as_row (reply.Was value) = reply.Row value
as_row answer = answer

abbrev pub as_get : Reply → Reply
as_get (reply.WasGet ordinal value) = reply.Get ordinal value
as_get answer = answer

-- Where a consumer with this model sees the state that the chain has under the version, `row` gives the answer.
abbrev pub IsRowThen : Chain → List Schema → ℕ → Name → ℕ → Reply → Type 0
IsRowThen chain schemas version name ordinal answer =
    (state : ChainState) × HasVersion chain version state × ((position : Position) → position.schemas ≡ schemas → Sees state position → RowReply (Some position) name ordinal (as_row answer))

-- A consumer keeps an index by the primary key of the type of this name.
abbrev pub KeepsKey : Position → Name → Type 0
KeepsKey position name = (t : ℕ) (paths : List Path) → index_of_type position.schemas name ≡ Some t → AreKeyPaths position.schemas t [] paths → Contains position.indexes (index_by t paths)

-- Where a consumer with this model sees that state, with such an index, `get` gives the answer.
abbrev pub IsGotThen : Chain → List Schema → ℕ → Name → Data → Reply → Type 0
IsGotThen chain schemas version name values answer =
    (state : ChainState) × HasVersion chain version state
    × ((position : Position) → position.schemas ≡ schemas → Sees state position → KeepsKey position name → GetReply (Some position) name values (as_get answer))
