-- What a program keeps of the machine: its store, its producer and its consumer, and what a call that answers an order means for them.
use Rattle.std.specs.Prelude.{◌≡◌, ℕ, List, [], All, length, false, Option, Some, None, Result, IfOk, IfSome, IsSome}
use Rattle.std.specs.Option.{option_map}
use Rattle.hol_io.specs.Store.{Store}
use Rattle.schema_model.specs.declared.schema.Schema.{Schema}
use Rattle.row_model.specs.Table.{IsClosed, Table}
use Rattle.hol_history.specs.History.{PastStep, PastSteps, StandsOn, tables_of}
use Rattle.write_engine.specs.Cycle.{no_rows}
use Rattle.write_engine.specs.Production.{Production}
use Rattle.read_engine.specs.Position.{Position, rows_now}
use Rattle.hol_answers.specs.declared.reply.Reply.{Reply}
use Rattle.hollow_machine.specs.State.{Machine}
use Rattle.state_blobs.specs.Published.{published_of}

-- What is kept of a consumer from line to line: where it stands, once it has a state, the version to which its last load or step that was not refused led,
-- and the history of its steps since that load.
pub record Reader : Type 0 where
  pub consumer : Option Position
  pub version : Option ℕ
  pub history : PastSteps

abbrev pub reader_of : Option Position → Option ℕ → PastSteps → Reader
reader_of consumer version history = record { consumer = consumer; version = version; history = history }

-- The rows of each of some versions are closed.
abbrev pub AreClosed : List Schema → List (ℕ × Table) → Type 0
AreClosed schemas past = All (λ pair. IsClosed schemas pair.1) past

-- The history leads to where the consumer stands, which has a version then, and the rows before each of its steps are closed; without a state there are no
-- steps.
abbrev pub LeadsHere : Option Position → Option ℕ → List PastStep → Type 0
LeadsHere None version steps = (version ≡ None) × (steps ≡ [])
LeadsHere (Some now) version steps = IsSome version × StandsOn now.schemas (rows_now now) steps × AreClosed now.schemas (tables_of (rows_now now) steps)

abbrev pub IsReader : Reader → Type 0
IsReader reader = LeadsHere reader.consumer reader.version reader.history.steps

-- The versions and rows that the steps of a history led from, the newest first, where a consumer stands behind the last one.
abbrev pub past_of : Option Position → List PastStep → List (ℕ × Table)
past_of None steps = []
past_of (Some now) steps = tables_of (rows_now now) steps

-- What is kept from line to line beside the store: a producer, where there is one, and what is kept of the consumer.
pub record Kept : Type 0 where
  pub producer : Option Production
  pub reader : Reader

-- A history of no steps, which keeps none.
abbrev pub no_history : PastSteps
no_history = record { bound = 0; steps = [] }

-- A consumer without a state; and it, without a producer.
abbrev pub new_reader : Reader
new_reader = reader_of None None no_history

abbrev pub nothing_kept : Kept
nothing_kept = record { producer = None; reader = new_reader }

-- The same with this producer, and with this of the consumer.
abbrev pub kept_with_producer : Kept → Option Production → Kept
kept_with_producer kept producer = record kept { producer = producer }

abbrev pub kept_with_reader : Kept → Reader → Kept
kept_with_reader kept reader = record kept { reader = reader }

-- The machine over a store whose producer is the one that is kept, and whose consumer and older states are those that are kept.
abbrev pub machine_of : Store → Kept → Machine
machine_of store kept = record {
  store = store;
  producer = option_map published_of kept.producer;
  consumer = kept.reader.consumer;
  version = kept.reader.version;
  bound = kept.reader.history.bound;
  past = past_of kept.reader.consumer kept.reader.history.steps;
}

-- A producer between two cycles: the next one is open, and has no rows.
pub record IsResting (kept : Production) : Type 0 where
  pub is_open : kept.closed ≡ false
  pub is_empty : kept.current ≡ no_rows (length kept.schemas)

-- What the answer means, where the store tells what it holds: it moves the machine by this relation.
abbrev pub Moves : {E : Type 0} → (Machine → Reply → Machine → Type 0) → Option Store → Kept → Option Store → Kept → Result Reply E → Type 0
Moves IsStep held kept held' kept' result =
    IfSome held (λ store. IfOk result (λ reply. (next : Store) × (held' ≡ Some next) × IsStep (machine_of store kept) reply (machine_of next kept')))

-- What the answer of an order of a producer means, whatever else is kept, which stays.
abbrev pub MovesProducer : {E : Type 0} → (Machine → Reply → Machine → Type 0) → Option Store → Option Production → Option Store → Option Production → Result Reply E → Type 0
MovesProducer IsStep held producer held' producer' result =
    (kept : Kept) → Moves IsStep held (kept_with_producer kept producer) held' (kept_with_producer kept producer') result

-- What the answer of an order of a consumer means over a store that stays, whatever producer is kept, which stays too.
abbrev pub MovesReader : {E : Type 0} → (Machine → Reply → Machine → Type 0) → Option Store → Reader → Reader → Result Reply E → Type 0
MovesReader IsStep held reader reader' result =
    (kept : Kept) → Moves IsStep held (kept_with_reader kept reader) held (kept_with_reader kept reader') result
