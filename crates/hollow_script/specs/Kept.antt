-- What a run keeps from one order to the next, and the machine that it stands for.
use Rattle.std.specs.Prelude.{◌≡◌, ◌⊎◌, ℕ, List, [], ◌∷◌, ◌++◌, Option, None, Result, IfSome, map}
use Rattle.std.specs.Option.{option_map}
use Rattle.hol_io.specs.Store.{Store}
use Rattle.hol_history.specs.History.{StandsOn, tables_of, versions}
use Rattle.read_engine.specs.Position.{rows_now}
use Rattle.state_blobs.specs.Published.{published_of}
use Rattle.state_blobs.specs.Puts.{Put}
use Rattle.hol_answers.specs.declared.reply.Reply.{Reply}
use Rattle.hollow_machine.specs.Kept.{IsReader, Kept, Moves, machine_of, no_history, reader_of}
use Rattle.hollow_machine.specs.Left.{Halts}
use Rattle.hollow_machine.specs.Script.{LineStep}
use Rattle.hollow_machine.specs.State.{Machine}
use Rattle.change_orders.specs.Keeping.{AreKeptFor}
use Rattle.hollow_script.specs.declared.keep.Keep.{Keep}

-- There is no producer, nothing is kept for changes, the consumer has no state and no version, no older states are kept, and no input was begun.
pub record KeepsNothing (keep : Keep) : Type 0 where
  pub producer : keep.producer ≡ None
  pub edits : keep.edits ≡ None
  pub consumer : keep.consumer ≡ None
  pub version : keep.version ≡ None
  pub history : keep.history ≡ no_history
  pub lines : keep.lines ≡ None

-- What is kept of the machine.
abbrev pub kept_of : Keep → Kept
kept_of keep = record { producer = keep.producer; reader = reader_of keep.consumer keep.version keep.history }

-- The history that is kept leads to where the consumer stands.
abbrev pub KeepsReader : Keep → Type 0
KeepsReader keep = IsReader (kept_of keep).reader

-- What is kept for changes, where there is some, is that of the producer's last state: how often each of its rows is named, and where its keys stand.
abbrev pub KeepsEdits : Keep → Type 0
KeepsEdits keep = AreKeptFor keep.producer keep.edits

-- The machine over a store whose producer, consumer and older states are those that are kept.
abbrev pub machine_with : Store → Keep → Machine
machine_with store keep = machine_of store (kept_of keep)

-- What the answer means, where the store tells what it holds: it moves the machine of what is kept by this relation.
abbrev pub MovesKept : {E : Type 0} → (Machine → Reply → Machine → Type 0) → Option Store → Keep → Option Store → Keep → Result Reply E → Type 0
MovesKept IsStep held keep held' keep' result = Moves IsStep held (kept_of keep) held' (kept_of keep') result

-- What it means that no answer comes, where the store tells what it holds: the store is as it was, or has the first of such puts.
abbrev pub HaltsKept : {E : Type 0} → (Machine → List Put → Type 0) → Option Store → Keep → Option Store → Result Reply E → Type 0
HaltsKept ArePuts held keep held' result = Halts ArePuts held (kept_of keep) held' result

-- The producer that is kept has published the same.
abbrev pub SameProducer : Keep → Keep → Type 0
SameProducer keep keep' = option_map published_of keep'.producer ≡ option_map published_of keep.producer

-- The producer that is kept is that of the machine.
abbrev pub KeepsProducer : Keep → Machine → Type 0
KeepsProducer keep machine = option_map published_of keep.producer ≡ machine.producer

-- It is that behind the first of these lines, whose answer was lost.
abbrev pub LosesAnswer : Keep → Machine → List (List ℕ) → Type 0
LosesAnswer keep machine [] = ⊥
LosesAnswer keep machine (line ∷ lines) = (reply : Reply) × (next : Machine) × LineStep machine line reply next × KeepsProducer keep next

-- It is that of the machine, or behind the first of these lines.
abbrev pub KeepsAhead : Keep → Machine → List (List ℕ) → Type 0
KeepsAhead keep machine ahead = KeepsProducer keep machine ⊎ LosesAnswer keep machine ahead

-- Of the lines that were asked all are answered but the last one, which is the first of those ahead.
abbrev pub LacksLast : (List (List ℕ) → Type 0) → List (List ℕ) → List (List ℕ) → Type 0
LacksLast HasAsked answered [] = ⊥
LacksLast HasAsked answered (line ∷ lines) = HasAsked (answered ++ line ∷ [])

-- Where the store failed: all lines that were asked are answered but the last one, and the producer that is kept is that behind them.
abbrev pub FailsAt : (List (List ℕ) → Type 0) → Keep → List (List ℕ) → Machine → List (List ℕ) → Store → Type 0
FailsAt HasAsked keep answered machine ahead store = LacksLast HasAsked answered ahead × KeepsProducer keep machine

-- Where memory was refused: all lines that were asked are answered, and the store and the producer that is kept are those behind them; or all but the last
-- one, and the producer is that behind those, or behind this one too, whose answer was lost.
abbrev pub LacksMemoryAt : (List (List ℕ) → Type 0) → Keep → List (List ℕ) → Machine → List (List ℕ) → Store → Type 0
LacksMemoryAt HasAsked keep answered machine ahead store =
    (HasAsked answered × (store ≡ machine.store) × KeepsProducer keep machine) ⊎ (LacksLast HasAsked answered ahead × KeepsAhead keep machine ahead)

-- The history that is kept is that of the machine: it keeps so many steps, reaches just the versions of the machine's older states, and leads to where the
-- consumer stands, whose rows before each step are those states.
pub record KeepsHistory (keep : Keep) (machine : Machine) : Type 0 where
  pub bound : keep.history.bound ≡ machine.bound
  pub reached : versions keep.history.steps ≡ map (λ pair. pair.0) machine.past
  pub stands : IfSome keep.consumer (λ now. StandsOn now.schemas (rows_now now) keep.history.steps)
  pub states : IfSome keep.consumer (λ now. tables_of (rows_now now) keep.history.steps ≡ machine.past)
