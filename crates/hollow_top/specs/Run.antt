-- What a run answers: its status, and what it leaves of the sink, of the store and of what is kept.
use Rattle.std.specs.Prelude.{◌≡◌, ℕ, List, Option, Some, Bool, if◌then◌else◌, Result, Ok, Err}
use Rattle.std.specs.Io.KnownBytes.{Appends}
use Rattle.hol_io.specs.Store.{Store}
use Rattle.hollow_machine.specs.Made.{StopsMake}
use Rattle.hollow_machine.specs.State.{Machine}
use Rattle.hollow_script.specs.Kept.{machine_with}
use Rattle.hollow_script.specs.Scripted.{TakesPast}
use Rattle.hollow_script.specs.Stopping.{LeavesStopped}
use Rattle.hollow_script.specs.declared.keep.Keep.{Keep}
use Rattle.hollow_script.specs.declared.script_stop.ScriptStop.{ScriptStop}
use Rattle.hollow_script.specs.declared.script_stop.ScriptStop.TheVariants.{Memory, Source, Sink, Store as StoreFailed, TooLong}
use Rattle.hollow_top.specs.declared.words.Command.{Command}
use Rattle.hollow_top.specs.declared.words.Command.TheVariants as command
use Rattle.hollow_top.specs.Command.{Writes, WritesMade, IsReading}
use Rattle.hollow_top.specs.Stopping.{GainsPart}
use Rattle.hollow_top.specs.Words.{Asks}

-- The words ask for no command.
abbrev pub AsksNothing : List (List ℕ) → Type 0
AsksNothing words = (command : Command) → ¬ Asks words command

-- The words ask for a command that only reads, or for none.
abbrev pub AskToRead : List (List ℕ) → Type 0
AskToRead words = (command : Command) → Asks words command → IsReading command

-- The words ask for the orders of the input.
abbrev pub AskScript : List (List ℕ) → Type 0
AskScript words = Asks words command.Run

-- The words ask for the orders of the input, and more bytes of it were taken than an input may have.
abbrev pub RunsPast : List (List ℕ) → Option (List ℕ) → Option (List ℕ) → Type 0
RunsPast words left left' = AskScript words × TakesPast left left'

-- The command that the words ask for writes the text, with this verdict, and leaves this machine.
abbrev pub WordsWrite : List (List ℕ) → Option (List ℕ) → Store → List ℕ → Bool → Machine → Type 0
WordsWrite words input store text refused next =
    (command : Command) × Asks words command × Writes input store command text refused next

-- 1 for a refusal, and else 0.
abbrev pub status_of : Bool → ℕ
status_of refused = if refused then 1 else 0

-- The status of a script.
abbrev pub script_status : Result Bool ScriptStop → ℕ
script_status (Ok refused) = status_of refused
script_status (Err Source) = 3
script_status (Err Sink) = 4
script_status (Err StoreFailed) = 5
script_status (Err Memory) = 6
script_status (Err TooLong) = 7

-- The sink gained the whole text that the words write, the status is that of its verdict, and the store that is held and the
-- producer and the consumer that are kept are those of the machine that they leave.
abbrev pub Finishes : List (List ℕ) → Option (List ℕ) → Store → Option Store → Keep → Option (List ℕ) → Option (List ℕ) → ℕ → Type 0
Finishes words input store held kept before after status =
    (text : List ℕ) × (refused : Bool) × (next : Store) × WordsWrite words input store text refused (machine_with next kept)
    × (held ≡ Some next) × Appends before after text × (status ≡ status_of refused)

-- The sink gained a part of the text that the words write, from its front on, and not all of it; and the store is the one that they leave.
abbrev pub WritesPart : List (List ℕ) → Option (List ℕ) → Store → Option Store → Option (List ℕ) → Option (List ℕ) → Type 0
WritesPart words input store held before after =
    GainsPart (λ text refused. (next : Machine) × WordsWrite words input store text refused next × (held ≡ Some next.store)) before after

-- A part of the line of `make` over a store, and what it leaves of the store.
abbrev pub MakesPart : ℕ → ℕ → ℕ → Store → Option Store → Option (List ℕ) → Option (List ℕ) → Type 0
MakesPart seed rows cycles first held before after =
    GainsPart (λ text refused. (next : Machine) × WritesMade seed rows cycles first text refused next × (held ≡ Some next.store)) before after

-- Where the status is that of a script that stopped, the script left this of the sink and of the store, and the source has so much left.
abbrev pub StopsScript : List ℕ → Store → Option (List ℕ) → Option Store → Keep → Option (List ℕ) → Option (List ℕ) → ℕ → Type 0
StopsScript bytes first left' held kept before after status = (why : ScriptStop) → status ≡ script_status (Err why) → LeavesStopped bytes first left' held kept before after why

-- The store is the one behind some first cycles of `make`, or has besides the first puts of the next one.
abbrev pub StopsMade : ℕ → ℕ → ℕ → Store → Option Store → Type 0
StopsMade seed rows cycles first held = (next : Store) × (held ≡ Some next) × StopsMake first seed rows cycles next

-- What `make` leaves where it ends: its line, the store and the producer that is kept, and the status.
abbrev pub EndsMake : ℕ → ℕ → ℕ → Store → Option Store → Keep → Option (List ℕ) → Option (List ℕ) → ℕ → Type 0
EndsMake seed rows cycles first held kept before after status =
    (text : List ℕ) × (refused : Bool) × (next : Store) × WritesMade seed rows cycles first text refused (machine_with next kept) × (held ≡ Some next)
    × Appends before after text × (status ≡ status_of refused)
