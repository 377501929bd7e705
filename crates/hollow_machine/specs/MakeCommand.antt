-- The command `make`: the orders of its script, answered one after another, and its one line.
use Rattle.std.specs.Prelude.{◌≡◌, ◌⊎◌, ℕ, List, [], ◌∷◌, ◌++◌, true, false, Option, Some, None, IsSomeAnd, drop, length, reverse}
use Rattle.std.specs.FinMap.{keys}
use Rattle.std.specs.List.{range_with_len}
use Rattle.film_script.specs.Films.{cycle_tag, film_schemas, films}
use Rattle.hol_io.specs.Store.{Store}
use Rattle.row_model.specs.Table.{Table}
use Rattle.row_model.specs.BothStates.{rows_in}
use Rattle.hol_answers.specs.Reply.{is_refusal, published_by}
use Rattle.hol_answers.specs.declared.refusal.Refusal.{Refusal}
use Rattle.hol_answers.specs.declared.reply.Made.{Made}
use Rattle.hol_answers.specs.declared.reply.Reply.{Reply}
use Rattle.hol_answers.specs.declared.reply.Reply.TheVariants.{Make, Refused}
use Rattle.state_blobs.specs.Published.{new_producer}
use Rattle.hollow_machine.specs.CheckOrder.{CheckReply}
use Rattle.hollow_machine.specs.CycleOrder.{CycleStep}
use Rattle.hollow_machine.specs.Records.{AskedCycle, given}
use Rattle.hollow_machine.specs.State.{Machine, started, with_producer}

-- what the cycle of this number asks for: the films that it shows, under its number and its tag
abbrev pub film_cycle : ℕ → ℕ → ℕ → AskedCycle
film_cycle seed rows cycle = record { version = cycle; tag = cycle_tag seed cycle; add = given (films seed rows cycle); snapshot = true }

-- the machine behind the order `model` of the script's schemas
abbrev pub film_machine : Store → Machine
film_machine store = with_producer (started store) (Some (new_producer film_schemas))

-- a version, if there is one, as a list
abbrev pub one_or_none : Option ℕ → List ℕ
one_or_none None = []
one_or_none (Some version) = version ∷ []

-- the versions that an answer publishes
abbrev pub versions_published : Reply → List ℕ
versions_published answer = one_or_none (published_by answer)

-- The cycles of these numbers are answered one after another, and none is refused; these versions are published, and this is the machine behind
-- the last one.
abbrev pub PassesCycles : ℕ → ℕ → Machine → List ℕ → List ℕ → Machine → Type 0
PassesCycles seed rows machine [] published next = (published ≡ []) × (next ≡ machine)
PassesCycles seed rows machine (cycle ∷ cycles) published next =
    (answer : Reply) × (between : Machine) × (others : List ℕ) × CycleStep machine (film_cycle seed rows cycle) answer between × (is_refusal answer ≡ false)
    × PassesCycles seed rows between cycles others next × (published ≡ versions_published answer ++ others)

-- One of the cycles is the first that is refused, for this, and this is the machine behind it.
pub record RefusesOneOf (seed rows : ℕ) (machine : Machine) (cycles : List ℕ) (refusal : Refusal) (next : Machine) : Type 0 where
  pub before : List ℕ
  pub cycle : ℕ
  pub behind : List ℕ
  pub cycles_are : cycles ≡ before ++ cycle ∷ behind
  pub published : List ℕ
  pub between : Machine
  pub passes : PassesCycles seed rows machine before published between
  pub refuses : CycleStep between (film_cycle seed rows cycle) (Refused refusal) next

-- versions as they rise, and back to the first
abbrev pub there_and_back : List ℕ → List ℕ
there_and_back versions = versions ++ drop 1 (reverse versions)

-- how many rows a type has in a table
abbrev pub row_count : Table → ℕ → ℕ
row_count table type_index = length (keys (rows_in table type_index))

-- The summary of these published versions, the last of which has these rows.
pub record SumsUp (published : List ℕ) (rows : Table) (made : Made) : Type 0 where
  pub published_are : made.published ≡ length published
  pub texts : made.texts ≡ row_count rows 0
  pub tags : made.tags ≡ row_count rows 1
  pub films : made.films ≡ row_count rows 2

-- All cycles pass, and of the check there and back over what they published this holds.
abbrev pub ChecksCycles : ℕ → ℕ → Machine → List ℕ → (List ℕ → Reply → Type 0) → Machine → Type 0
ChecksCycles seed rows machine cycles Answers next =
    (published : List ℕ) × PassesCycles seed rows machine cycles published next
    × ((answer : Reply) × CheckReply next.store (there_and_back published) answer × Answers published answer)

-- The one line of the command, and the machine behind it: the summary, where no order of the script is refused, or the first refusal.
abbrev pub MakeReply : ℕ → ℕ → List ℕ → Machine → Reply → Machine → Type 0
MakeReply seed rows cycles machine (Make made) next =
    ChecksCycles seed rows machine cycles (λ published answer. (is_refusal answer ≡ false) × IsSomeAnd next.producer (λ last. SumsUp published last.rows made)) next
MakeReply seed rows cycles machine (Refused refusal) next =
    RefusesOneOf seed rows machine cycles refusal next ⊎ ChecksCycles seed rows machine cycles (λ published answer. answer ≡ Refused refusal) next
MakeReply seed rows cycles machine _ next = ⊥

-- The command over a store.
abbrev pub Makes : Store → ℕ → ℕ → ℕ → Reply → Machine → Type 0
Makes store seed rows cycles reply next = MakeReply seed rows (range_with_len 1 cycles) (film_machine store) reply next
