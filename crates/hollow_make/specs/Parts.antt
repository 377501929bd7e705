-- What the parts of the command `make` tell, over what the store tells.
use Rattle.std.specs.Prelude.{◌≡◌, ℕ, List, Bool, true, false, Option, None, Some, Result, IfOk, IfSome}
use Rattle.std.specs.List.{range_with_len}
use Rattle.hol_io.specs.Store.{Store}
use Rattle.row_model.specs.Table.{Table}
use Rattle.write_engine.specs.Production.{Production}
use Rattle.hol_answers.specs.Reply.{is_refusal}
use Rattle.hol_answers.specs.declared.reply.Reply.{Reply}
use Rattle.hol_answers.specs.declared.reply.Reply.TheVariants.{Cycle, Make, Refused}
use Rattle.hol_answers.specs.declared.refusal.Refusal.{Refusal}
use Rattle.hollow_machine.specs.CheckOrder.{CheckReply}
use Rattle.hollow_machine.specs.Kept.{kept_with_producer, machine_of, nothing_kept}
use Rattle.hollow_machine.specs.Made.{StopsCycles, StopsMake}
use Rattle.hollow_machine.specs.MakeCommand.{MakeReply, Makes, PassesCycles, RefusesOneOf, SumsUp, there_and_back}
use Rattle.hollow_machine.specs.State.{Machine}

-- whether an answer publishes a state
abbrev pub publishes : Reply → Bool
publishes (Cycle names published version) = published
publishes _ = false

-- the machine of the script over a store, whose producer is this one
abbrev pub machine_at : Store → Option Production → Machine
machine_at store producer = machine_of store (kept_with_producer nothing_kept producer)

-- What the command answers, and the producer behind it.
abbrev pub TellsMake : {E : Type 0} → ℕ → ℕ → ℕ → Option Store → Option Store → Option Production → Result Reply E → Type 0
TellsMake seed rows cycles held held' producer' result =
    IfSome held (λ store. IfOk result (λ reply. (next : Store) × (held' ≡ Some next) × Makes store seed rows cycles reply (machine_at next producer')))

-- The same of a producer that is there.
abbrev pub TellsScript : {E : Type 0} → ℕ → ℕ → ℕ → Option Store → Production → Option Store → Production → Result Reply E → Type 0
TellsScript seed rows cycles held producer held' producer' result =
    IfSome held (λ store. IfOk result (λ reply. (next : Store) × (held' ≡ Some next)
    × MakeReply seed rows (range_with_len 1 cycles) (machine_at store (Some producer)) reply (machine_at next (Some producer'))))

-- No cycle is refused, and these versions are published; or this is the first refusal.
abbrev pub TellsRefused : ℕ → ℕ → List ℕ → Machine → List ℕ → Option Reply → Machine → Type 0
TellsRefused seed rows cycles machine published None next = PassesCycles seed rows machine cycles published next
TellsRefused seed rows cycles machine published (Some reply) next =
    (refusal : Refusal) × (reply ≡ Refused refusal) × RefusesOneOf seed rows machine cycles refusal next

-- What the cycles of the script answer.
abbrev pub TellsCycles : {E : Type 0} → ℕ → ℕ → ℕ → Option Store → Production → Option Store → Production → List ℕ → Result (Option Reply) E → Type 0
TellsCycles seed rows cycles held producer held' producer' published result =
    IfSome held (λ store. IfOk result (λ refused. (next : Store) × (held' ≡ Some next)
    × TellsRefused seed rows (range_with_len 1 cycles) (machine_at store (Some producer)) published refused (machine_at next (Some producer'))))

-- What is answered behind the cycles, of the check there and back.
abbrev pub IsEnd : List ℕ → Table → Store → Reply → Type 0
IsEnd published rows store (Make made) =
    (answer : Reply) × CheckReply store (there_and_back published) answer × (is_refusal answer ≡ false) × SumsUp published rows made
IsEnd published rows store reply = CheckReply store (there_and_back published) reply × (is_refusal reply ≡ true)

abbrev pub TellsEnd : {E : Type 0} → List ℕ → Table → Option Store → Result Reply E → Type 0
TellsEnd published rows held result = IfSome held (λ store. IfOk result (IsEnd published rows store))

-- ---- where it stops

-- What cycles of a producer leave of the store where they stop, or what is behind them does.
abbrev pub HaltsScript : ℕ → ℕ → ℕ → Option Store → Production → Option Store → Type 0
HaltsScript seed rows cycles held producer held' = IfSome held (λ store. (next : Store) × (held' ≡ Some next)
    × StopsCycles seed rows (machine_at store (Some producer)) (range_with_len 1 cycles) next)

-- What the command leaves of it.
abbrev pub HaltsMake : ℕ → ℕ → ℕ → Option Store → Option Store → Type 0
HaltsMake seed rows cycles held held' = IfSome held (λ store. (next : Store) × (held' ≡ Some next) × StopsMake store seed rows cycles next)
