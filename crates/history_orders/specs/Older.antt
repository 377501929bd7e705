-- The rows of an older version, and those among which the ones are that have a key.
use Rattle.std.specs.Prelude.{◌≡◌, ℕ, List, Some, Contains, IsSomeAnd}
use Rattle.schema_model.specs.declared.model.path.Path.{Path}
use Rattle.schema_model.specs.declared.schema.Schema.{Schema}
use Rattle.row_model.specs.declared.row.Value.{Value}
use Rattle.row_model.specs.Key.{key_of}
use Rattle.row_model.specs.Table.{IsClosed, IsLive, Table}
use Rattle.hol_history.specs.History.{PastStep, StandsOn, table_then, tables_of, versions}
use Rattle.read_engine.specs.Position.{Position, rows_now}
use Rattle.hollow_machine.specs.Kept.{AreClosed}
use Rattle.history_orders.specs.Left.{HasLeftSince}
use Rattle.history_orders.specs.declared.key_seek.KeySeek.{KeySeek}
use Rattle.history_orders.specs.declared.key_seek.KeySeek.TheVariants as seek

-- The live ordinals of a type whose rows have a key are among these.
abbrev pub HasMatches : List Schema → Table → ℕ → List Path → List Value → List ℕ → Type 0
HasMatches schemas table t paths key among = (ordinal : ℕ) → IsLive table t ordinal → key_of schemas table t paths ordinal ≡ Some key → Contains among ordinal

-- The same of the rows where a consumer stands.
abbrev pub HasMatchesNow : ℕ → List Path → List Value → List ℕ → Position → Type 0
HasMatchesNow t paths key among now = HasMatches now.schemas (rows_now now) t paths key among

-- The rows of a model are those of a version from which the steps led to where the consumer stands.
pub record IsOlder (now : Position) (steps : List PastStep) (wanted : ℕ) (schemas : List Schema) (table : Table) : Type 0 where
  pub same : now.schemas ≡ schemas
  pub closed : IsClosed schemas (rows_now now)
  pub stands : StandsOn schemas (rows_now now) steps
  pub past_closed : AreClosed schemas (tables_of (rows_now now) steps)
  pub reached : Contains (versions steps) wanted
  pub rows : table_then (tables_of (rows_now now) steps) wanted ≡ Some table

-- The way to find rows with a key is one of these rows.
abbrev pub SeeksIn : KeySeek → List Schema → Table → Type 0
SeeksIn (seek.Now consumer) schemas table = IsSomeAnd consumer.now (λ now. (now.schemas ≡ schemas) × (rows_now now ≡ table))
SeeksIn (seek.Older consumer history wanted) schemas table = IsSomeAnd consumer.now (λ now. IsOlder now history.now.steps wanted schemas table)

-- The rows of a type that left since a version and had a key are among these, and so are those that have it where the consumer stands.
abbrev pub HasCandidates : List PastStep → ℕ → ℕ → List Path → List Value → List ℕ → Position → Type 0
HasCandidates steps wanted t paths key among now = HasLeftSince steps wanted t paths key among × HasMatchesNow t paths key among now
