-- The state of the machine that orders move: what the store holds, the producer, and the consumer.
use Rattle.std.specs.Prelude.{ℕ, List, [], ◌∷◌, Option, Some, None, take}
use Rattle.hol_io.specs.Store.{Store}
use Rattle.row_model.specs.Table.{Table}
use Rattle.read_engine.specs.Position.{Position, rows_now}
use Rattle.state_blobs.specs.Published.{Published}

-- The machine: the store's names and their contents, a producer, where there is one, and where the consumer stands, once it has a state. With it goes the
-- version to which its last load or step that was not refused led, the greatest number of older states that are kept for it, and these: versions and their
-- rows, the newest first.
pub record Machine : Type 0 where
  pub store : Store
  pub producer : Option Published
  pub consumer : Option Position
  pub version : Option ℕ
  pub bound : ℕ
  pub past : List (ℕ × Table)

-- The machine with this store, with this producer, with this consumer, and with a consumer whose last load or step led to this version.
abbrev pub with_store : Machine → Store → Machine
with_store machine store = record machine { store = store }

abbrev pub with_producer : Machine → Option Published → Machine
with_producer machine producer = record machine { producer = producer }

abbrev pub with_consumer : Machine → Option Position → Machine
with_consumer machine consumer = record machine { consumer = consumer }

abbrev pub with_reader : Machine → Option Position → Option ℕ → Machine
with_reader machine consumer version = record machine { consumer = consumer; version = version }

-- What is kept of older states behind a step: the version and the rows from before it in front, and so many at most.
abbrev pub past_behind : ℕ → Option Position → Option ℕ → List (ℕ × Table) → List (ℕ × Table)
past_behind bound (Some now) (Some version) past = take bound ((version, rows_now now) ∷ past)
past_behind bound consumer version past = past

-- The machine behind a load of a version, where its consumer stands so: no older states are kept.
abbrev pub loaded_to : Machine → ℕ → Position → Machine
loaded_to machine version position = record machine { consumer = Some position; version = Some version; past = [] }

-- The machine behind a step that led to a version, where its consumer stands so: the state from before it is kept.
abbrev pub stepped_to : Machine → ℕ → Position → Machine
stepped_to machine version position =
    record machine { consumer = Some position; version = Some version; past = past_behind machine.bound machine.consumer machine.version machine.past }

-- The machine that keeps so many older states at most, and none of those so far.
abbrev pub with_bound : Machine → ℕ → Machine
with_bound machine bound = record machine { bound = bound; past = [] }

-- The machine at the begin of a run.
abbrev pub started : Store → Machine
started store = record { store = store; producer = None; consumer = None; version = None; bound = 0; past = [] }
