-- What a run of a script keeps from line to line: the store, the producer and the consumer, the lines that were answered, and the
-- answers that wait to be written.
use Rattle.std.specs.Prelude.{◌≡◌, ◌<◌, ◌≤◌, ◌⊎◌, ◌^◌, ℕ, List, [], ◌∷◌, ◌++◌, length, take, Bool, true, false, if◌then◌else◌, Option, Some, None, Result, Ok, Err}
use Rattle.std.specs.Io.KnownBytes.{Appends, Consumes}
use Rattle.std.specs.List.{flat_map, list_any}
use Rattle.hol_io.specs.Lines.{Reading, Moves, cut, finished}
use Rattle.hol_io.specs.Store.{Store}
use Rattle.hol_io.specs.declared.lines.Turn as declared
use Rattle.hol_io.specs.declared.lines.Turn.TheVariants.{Line, Long, End, Over}
use Rattle.hol_answers.specs.declared.reply.Reply.{Reply}
use Rattle.hol_answers.specs.Reply.{is_refusal, line_of}
use Rattle.hollow_machine.specs.Script.{LineStep, Script, longest_line}
use Rattle.hollow_machine.specs.State.{Machine, started}
use Rattle.hollow_machine.specs.Stopped.{LeavesAhead}
use Rattle.hol_orders.specs.declared.order_stop.OrderStop.{OrderStop}
use Rattle.hol_orders.specs.declared.order_stop.OrderStop.TheVariants as order_stop
use Rattle.hollow_script.specs.Asked.{Asks}
use Rattle.hollow_script.specs.declared.asked.Asked.{Asked}
use Rattle.hollow_script.specs.declared.keep.Keep.{Keep}
use Rattle.hollow_script.specs.declared.script_stop.ScriptStop.{ScriptStop}
use Rattle.hollow_script.specs.declared.script_stop.ScriptStop.TheVariants.{Memory, Sink, Source, Store as StoreFailed, TooLong}
use Rattle.hollow_script.specs.Kept.{FailsAt, LacksMemoryAt, SameProducer, machine_with}

-- How many bytes of an input are taken as lines.
abbrev pub longest_input : ℕ
longest_input = 2 ^ 32

-- The stop of a script for that of an order.
abbrev pub widened : OrderStop → ScriptStop
widened order_stop.Memory = Memory
widened order_stop.Store = StoreFailed

-- The reader of lines has given these lines of an input, and what lies ahead is the rest of it.
abbrev pub HasGiven : List ℕ → Option (List ℕ) → Reading → List (List ℕ) → Type 0
HasGiven bytes None reading lines = ⊥
HasGiven bytes (Some left) reading lines = Moves lines bytes longest_input reading left × (reading.line_max ≡ longest_line)

-- These are the lines that were asked: those that the reader of lines has given, and none before it is begun.
abbrev pub HasAsked : List ℕ → Option (List ℕ) → Option Reading → List (List ℕ) → Type 0
HasAsked bytes left' None lines = lines ≡ []
HasAsked bytes left' (Some reading) lines = HasGiven bytes left' reading lines

-- These are the lines that end within the bytes that an input may have.
abbrev pub AreFinished : List ℕ → List (List ℕ) → Type 0
AreFinished bytes lines = lines ≡ finished (take longest_input bytes)

-- These are the lines that end within the bytes of the input that were taken, where the source has the others left.
abbrev pub AreTaken : List ℕ → Option (List ℕ) → List (List ℕ) → Type 0
AreTaken bytes left' lines = (took : List ℕ) × Consumes (Some bytes) left' took × (lines ≡ finished took)

-- The lines that a turn gives behind these, or that there are no others.
abbrev pub TurnsNext : List ℕ → List (List ℕ) → Option (List ℕ) → Reading → declared.Turn → Type 0
TurnsNext bytes lines left' reading' Line =
    (line : List ℕ) × HasGiven bytes left' reading' (lines ++ line ∷ []) × (reading'.line ≡ Some line) × (length line ≤ longest_line)
TurnsNext bytes lines left' reading' Long = (line : List ℕ) × HasGiven bytes left' reading' (lines ++ line ∷ []) × (longest_line < length line)
TurnsNext bytes lines left' reading' End = (cut bytes ≡ lines) × (length bytes ≤ longest_input)
TurnsNext bytes lines left' reading' Over = AreFinished bytes lines

-- What the next line asks for, or that there is none. Where the source fails, all lines that end in what was taken are given; where memory is refused, the
-- next line was given, or not.
abbrev pub AsksNext : List ℕ → List (List ℕ) → Option (List ℕ) → Reading → Result (Option Asked) ScriptStop → Type 0
AsksNext bytes lines left' reading' (Ok (Some asked)) = (line : List ℕ) × HasGiven bytes left' reading' (lines ++ line ∷ []) × Asks line asked
AsksNext bytes lines left' reading' (Ok None) = (cut bytes ≡ lines) × (length bytes ≤ longest_input)
AsksNext bytes lines left' reading' (Err TooLong) = AreFinished bytes lines
AsksNext bytes lines left' reading' (Err Source) = AreTaken bytes left' lines
AsksNext bytes lines left' reading' (Err Memory) =
    HasGiven bytes left' reading' lines ⊎ ((line : List ℕ) × HasGiven bytes left' reading' (lines ++ line ∷ []))
AsksNext bytes lines left' reading' (Err stop) = Unit {0}

-- The next line was given and is not answered: the store is as it was, or has the first puts of this line, and the producer is as it was.
abbrev pub HaltsNext : List ℕ → List (List ℕ) → Store → Option (List ℕ) → Reading → Keep → Option Store → Keep → Type 0
HaltsNext bytes lines store left' reading' kept held' kept' =
    (line : List ℕ) × HasGiven bytes left' reading' (lines ++ line ∷ [])
    × ((next : Store) × (held' ≡ Some next) × LeavesAhead (machine_with store kept) (line ∷ []) next) × SameProducer kept kept'

-- What the next line is answered over a store, where these lines were given before: an answer that moves the machine, or
-- none where the input has no other lines. Where it stops at the next line, the store is as it was, or has the first puts of this line, and the producer
-- is as it was; where memory is refused before that line was given, the store is as it was too.
abbrev pub AnswersNext : List ℕ → List (List ℕ) → Store → Option (List ℕ) → Reading → Keep → Option Store → Keep → Result (Option Reply) ScriptStop → Type 0
AnswersNext bytes lines store left' reading' kept held' kept' (Ok (Some reply)) =
    (line : List ℕ) × HasGiven bytes left' reading' (lines ++ line ∷ [])
    × ((next : Store) × (held' ≡ Some next) × LineStep (machine_with store kept) line reply (machine_with next kept'))
AnswersNext bytes lines store left' reading' kept held' kept' (Ok None) =
    (cut bytes ≡ lines) × (length bytes ≤ longest_input) × (held' ≡ Some store) × (kept' ≡ kept)
AnswersNext bytes lines store left' reading' kept held' kept' (Err Source) = AreTaken bytes left' lines × (held' ≡ Some store)
AnswersNext bytes lines store left' reading' kept held' kept' (Err Sink) = held' ≡ Some store
AnswersNext bytes lines store left' reading' kept held' kept' (Err TooLong) = AreFinished bytes lines × (held' ≡ Some store)
AnswersNext bytes lines store left' reading' kept held' kept' (Err StoreFailed) = HaltsNext bytes lines store left' reading' kept held' kept'
AnswersNext bytes lines store left' reading' kept held' kept' (Err Memory) =
    (HasGiven bytes left' reading' lines × (held' ≡ Some store) × SameProducer kept kept') ⊎ HaltsNext bytes lines store left' reading' kept held' kept'

-- Lines whose answers wait: their text, whether one of them is a refusal, and the machine behind them, whose store is the one behind each of them, the
-- first one too.
abbrev pub Waits : Machine → List (List ℕ) → List ℕ → Bool → Machine → Type 0
Waits machine [] text refused next = (text ≡ []) × (refused ≡ false) × (next ≡ machine)
Waits machine (line ∷ lines) text refused next =
    (reply : Reply) × (between : Machine) × (rest : List ℕ) × (others : Bool)
    × LineStep machine line reply between × (between.store ≡ next.store) × Waits between lines rest others next
    × (text ≡ line_of reply ++ rest) × (refused ≡ (if is_refusal reply then true else others))

-- These lines are answered, from a first store on, and this is the machine behind them: the sink has gained the answers to the first of them, and the
-- others wait.
pub record HasAnswered (first : Store) (lines : List (List ℕ)) (before after : Option (List ℕ)) (waiting : List ℕ) (refused : Bool) (machine : Machine) : Type 0 where
  pub written : List (List ℕ)
  pub pending : List (List ℕ)
  pub lines_are : lines ≡ written ++ pending
  pub gone : List ℕ
  pub flag : Bool
  pub middle : Machine
  pub script : Script (started first) written gone flag middle
  pub also : Bool
  pub waits : Waits middle pending waiting also machine
  pub refused_is : refused ≡ (if flag then true else also)
  pub gained : Appends before after gone

-- The lines of an input that were given are answered, from the first store to the one that is held now.
pub record IsAnswered (bytes : List ℕ) (first : Store) (left : Option (List ℕ)) (held : Option Store) (reading : Reading) (kept : Keep) (before after : Option (List ℕ)) (waiting : List ℕ) (refused : Bool) : Type 0 where
  pub lines : List (List ℕ)
  pub store : Store
  pub given : HasGiven bytes left reading lines
  pub told : held ≡ Some store
  pub answered : HasAnswered first lines before after waiting refused (machine_with store kept)

-- All lines of an input are answered.
pub record AllAnswered (bytes : List ℕ) (first : Store) (held : Option Store) (kept : Keep) (before after : Option (List ℕ)) (waiting : List ℕ) (refused : Bool) : Type 0 where
  pub store : Store
  pub told : held ≡ Some store
  pub short : length bytes ≤ longest_input
  pub answered : HasAnswered first (cut bytes) before after waiting refused (machine_with store kept)

-- All lines of an input are answered, and the sink gained all answers.
pub record AllWritten (bytes : List ℕ) (first : Store) (held : Option Store) (kept : Keep) (before after : Option (List ℕ)) (refused : Bool) : Type 0 where
  pub store : Store
  pub text : List ℕ
  pub told : held ≡ Some store
  pub script : Script (started first) (cut bytes) text refused (machine_with store kept)
  pub short : length bytes ≤ longest_input
  pub gained : Appends before after text

-- What putting an answer behind those that wait leaves: it waits with them, or all of them went to the sink and none waits.
abbrev pub PutsAnswer : List ℕ → Option (List ℕ) → Option (List ℕ) → List ℕ → List ℕ → Type 0
PutsAnswer line before after waiting waiting' =
    ((waiting' ≡ waiting ++ line) × Appends before after []) ⊎ ((waiting' ≡ []) × Appends before after (waiting ++ line))

-- The sink failed within the answers that wait: it gained a front of them, and not all.
abbrev pub FailsWithin : List ℕ → Option (List ℕ) → Option (List ℕ) → Type 0
FailsWithin waiting before after = (count : ℕ) × (count < length waiting) × Appends before after (take count waiting)

-- What becomes of the answers that wait: they wait still, or went to the sink and none waits; or the sink failed within them.
abbrev pub StopsWaiting : Option (List ℕ) → Option (List ℕ) → List ℕ → List ℕ → ScriptStop → Type 0
StopsWaiting before after waiting waiting' Sink = (waiting' ≡ waiting) × FailsWithin waiting' before after
StopsWaiting before after waiting waiting' stop = PutsAnswer [] before after waiting waiting'

abbrev pub WritesWaiting : {T : Type 0} → Option (List ℕ) → Option (List ℕ) → List ℕ → List ℕ → Result T ScriptStop → Type 0
WritesWaiting before after waiting waiting' (Ok done) = PutsAnswer [] before after waiting waiting'
WritesWaiting before after waiting waiting' (Err stop) = StopsWaiting before after waiting waiting' stop

-- What putting an answer behind those that wait leaves where it fails: they wait still, and without it where memory was refused.
abbrev pub StopsReply : List ℕ → Option (List ℕ) → Option (List ℕ) → List ℕ → List ℕ → ScriptStop → Type 0
StopsReply line before after waiting waiting' Sink = (waiting' ≡ waiting ++ line) × FailsWithin waiting' before after
StopsReply line before after waiting waiting' Memory = (waiting' ≡ waiting) × Appends before after []
StopsReply line before after waiting waiting' stop = ⊥

abbrev pub PutsReply : {T : Type 0} → List ℕ → Option (List ℕ) → Option (List ℕ) → List ℕ → List ℕ → Result T ScriptStop → Type 0
PutsReply line before after waiting waiting' (Ok done) = PutsAnswer line before after waiting waiting'
PutsReply line before after waiting waiting' (Err stop) = StopsReply line before after waiting waiting' stop

-- These lines are answered, and the store is the one behind them.
abbrev pub StandsBehind : Store → List (List ℕ) → Option Store → Option (List ℕ) → Option (List ℕ) → List ℕ → Type 0
StandsBehind first lines held before after waiting =
    (refused : Bool) × (machine : Machine) × HasAnswered first lines before after waiting refused machine × (held ≡ Some machine.store)

-- Some first lines of an input are answered, and the store is the one behind them.
abbrev pub StandsBetween : List ℕ → Store → Option Store → Option (List ℕ) → Option (List ℕ) → List ℕ → Type 0
StandsBetween bytes first held before after waiting =
    (answered ahead : List (List ℕ)) × (cut bytes ≡ answered ++ ahead) × StandsBehind first answered held before after waiting

-- Some first lines of an input are answered, and the store is the one behind them; or no answer waits, and it has the first puts of the next line. What was
-- asked and what is kept is so.
abbrev pub StopsAhead : (List (List ℕ) → Machine → List (List ℕ) → Store → Type 0) → List ℕ → Store → Option Store → Option (List ℕ) → Option (List ℕ) → List ℕ → Type 0
StopsAhead Keeps bytes first held before after waiting =
    (answered ahead : List (List ℕ)) × (refused : Bool) × (machine : Machine) × (store : Store) × (cut bytes ≡ answered ++ ahead)
    × HasAnswered first answered before after waiting refused machine × (held ≡ Some store)
    × ((store ≡ machine.store) ⊎ ((waiting ≡ []) × LeavesAhead machine ahead store)) × Keeps answered machine ahead store

-- What is left where serving the lines of an input stops, of which the source has so much left, and which the reader of lines has read so; what still waits is
-- not yet written.
abbrev pub HasStopped : List ℕ → Store → Option (List ℕ) → Option Reading → Option Store → Keep → Option (List ℕ) → Option (List ℕ) → List ℕ → ScriptStop → Type 0
HasStopped bytes first left' reading' held keep before after waiting Source =
    (took : List ℕ) × Consumes (Some bytes) left' took × StandsBehind first (finished took) held before after waiting
HasStopped bytes first left' reading' held keep before after waiting Sink = (middle : Option (List ℕ)) × StandsBetween bytes first held before middle waiting × FailsWithin waiting middle after
HasStopped bytes first left' reading' held keep before after waiting StoreFailed = StopsAhead (FailsAt (HasAsked bytes left' reading') keep) bytes first held before after waiting
HasStopped bytes first left' reading' held keep before after waiting Memory = StopsAhead (LacksMemoryAt (HasAsked bytes left' reading') keep) bytes first held before after waiting
HasStopped bytes first left' reading' held keep before after waiting TooLong = StandsBehind first (finished (take longest_input bytes)) held before after waiting

-- What serving the next line leaves, where the lines before it are answered: it is answered too, or all lines are; or it stops.
abbrev pub ServesNext : List ℕ → Store → Option (List ℕ) → Option Store → Reading → Keep → Option (List ℕ) → Option (List ℕ) → List ℕ → Bool → Result (Option Bool) ScriptStop → Type 0
ServesNext bytes first left held reading kept before after waiting refused (Ok (Some also)) =
    IsAnswered bytes first left held reading kept before after waiting (if refused then true else also)
ServesNext bytes first left held reading kept before after waiting refused (Ok None) =
    AllAnswered bytes first held kept before after waiting refused
ServesNext bytes first left held reading kept before after waiting refused (Err stop) = HasStopped bytes first left (Some reading) held kept before after waiting stop

-- The lines of some answers were gained by the sink but for the last ones, which wait; and whether one of them is a refusal.
pub record HasReplied (before after : Option (List ℕ)) (waiting : List ℕ) (refused : Bool) : Type 0 where
  pub replies : List Reply
  pub gone : List ℕ
  pub split : flat_map line_of replies ≡ gone ++ waiting
  pub gained : Appends before after gone
  pub flag : refused ≡ list_any is_refusal replies

-- The same behind one more answer, or where there is none.
abbrev pub RepliesNext : Option (List ℕ) → Option (List ℕ) → List ℕ → Bool → Result (Option Bool) ScriptStop → Type 0
RepliesNext before after waiting refused (Ok (Some also)) = HasReplied before after waiting (if refused then true else also)
RepliesNext before after waiting refused (Ok None) = HasReplied before after waiting refused
RepliesNext before after waiting refused (Err stop) = Unit {0}

-- The sink gained the lines of some answers, one after another, and whether one of them is a refusal.
abbrev pub WritesReplies : Option (List ℕ) → Option (List ℕ) → Bool → Type 0
WritesReplies before after refused =
    (replies : List Reply) × Appends before after (flat_map line_of replies) × (refused ≡ list_any is_refusal replies)

-- More bytes were taken from the source than an input may have.
abbrev pub TakesPast : Option (List ℕ) → Option (List ℕ) → Type 0
TakesPast left left' = (took : List ℕ) × Consumes left left' took × (longest_input < length took)
