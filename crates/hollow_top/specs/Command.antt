-- What each command writes, and what it leaves of the store.
use Rattle.std.specs.Prelude.{◌≡◌, ◌≤◌, ℕ, List, length, Bool, Option, Some, Result, Ok, Err, IfSome}
use Rattle.std.specs.Io.KnownBytes.{Appends}
use Rattle.hol_io.specs.Lines.{cut}
use Rattle.hol_io.specs.declared.name.BlobName.{BlobName}
use Rattle.hol_io.specs.Store.{Store, told}
use Rattle.blob_grammar.specs.Decided.{AreBytes}
use Rattle.hol_answers.specs.declared.reply.Reply.{Reply}
use Rattle.hollow_machine.specs.MakeCommand.{Makes}
use Rattle.hollow_machine.specs.Script.{Script}
use Rattle.hollow_machine.specs.State.{Machine, started}
use Rattle.hollow_script.specs.Scripted.{longest_input}
use Rattle.hollow_top.specs.declared.stop.Stop.{Stop}
use Rattle.hollow_top.specs.declared.stop.Stop.TheVariants.{Memory, Sink, Store as StoreFailed}
use Rattle.hollow_top.specs.declared.words.Command.{Command}
use Rattle.hollow_top.specs.declared.words.Command.TheVariants.{Run, Head, Show, Make}
use Rattle.hollow_top.specs.Head.{HeadReply}
use Rattle.hol_answers.specs.Reply.{is_refusal, line_of}
use Rattle.hollow_top.specs.Show.{Shows}
use Rattle.hollow_top.specs.Stopping.{GainsPart}

-- The text is the line of an answer for which this holds, and the answer is a refusal or not, as told.
abbrev pub IsLineOf : (Reply → Type 0) → List ℕ → Bool → Type 0
IsLineOf Answers text refused = (reply : Reply) × Answers reply × (text ≡ line_of reply) × (refused ≡ is_refusal reply)

-- The text is the line of `make` over a store, and the machine is the one behind it.
abbrev pub WritesMade : ℕ → ℕ → ℕ → Store → List ℕ → Bool → Machine → Type 0
WritesMade seed rows cycles store text refused next = IsLineOf (λ reply. Makes store seed rows cycles reply next) text refused

-- The text is the answers to the lines of an input that is not too long, over a store, and the machine is the one behind
-- the last line. The input is what is left in the source, where that is told.
abbrev pub WritesAnswers : Option (List ℕ) → Store → List ℕ → Bool → Machine → Type 0
WritesAnswers input store text refused next =
    (bytes : List ℕ) × (input ≡ Some bytes) × (length bytes ≤ longest_input) × Script (started store) (cut bytes) text refused next

-- What a command writes over an input and a store, whether a line of it is a refusal, and the machine that it leaves.
abbrev pub Writes : Option (List ℕ) → Store → Command → List ℕ → Bool → Machine → Type 0
Writes input store Run text refused next = WritesAnswers input store text refused next
Writes input store (Head blob) text refused next = IsLineOf (HeadReply store blob) text refused × (next ≡ started store)
Writes input store (Show version) text refused next = Shows store version text refused × (next ≡ started store)
Writes input store (Make seed rows cycles) text refused next = WritesMade seed rows cycles store text refused next

-- The command writes the text, with this verdict, and leaves some machine.
abbrev pub WritesText : Option (List ℕ) → Store → Command → List ℕ → Bool → Type 0
WritesText input store command text refused = (next : Machine) × Writes input store command text refused next

-- The command writes some text.
abbrev pub WritesSome : Option (List ℕ) → Store → Command → Type 0
WritesSome input store command = (text : List ℕ) × (refused : Bool) × WritesText input store command text refused

-- What the store holds under each name are bytes.
abbrev pub HoldsBytes : Store → Type 0
HoldsBytes store = (name : BlobName) → IfSome (told (Some store) name) AreBytes

-- What a command that keeps no producer leaves of the store and of the sink: all that it writes, or where the sink failed a
-- part of the text.
abbrev pub Serves : Option (List ℕ) → Store → Command → Option Store → Option (List ℕ) → Option (List ℕ) → Result Bool Stop → Type 0
Serves input store command held before after (Ok refused) =
    (text : List ℕ) × (next : Store) × Writes input store command text refused (started next) × (held ≡ Some next) × Appends before after text
Serves input store command held before after (Err Sink) = GainsPart (WritesText input store command) before after
Serves input store command held before after (Err StoreFailed) = Unit {0}
Serves input store command held before after (Err Memory) = Unit {0}

-- The command reads the store and changes nothing.
abbrev pub IsReading : Command → Type 0
IsReading (Head blob) = Unit {0}
IsReading (Show version) = Unit {0}
IsReading _ = ⊥
