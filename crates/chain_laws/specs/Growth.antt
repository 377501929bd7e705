-- What lines add to the chain that a store holds: the state that each of them publishes.
use Rattle.std.specs.Prelude.{◌≡◌, ℕ, ℤ, List, [], ◌∷◌, ◌++◌, Option, Some, None, IsSomeAnd}
use Rattle.std.specs.FinMap.{insert}
use Rattle.std.specs.List.{range_with_len}
use Rattle.hol_io.specs.Store.{Store}
use Rattle.row_model.specs.PlainTree.{PlainTree}
use Rattle.row_model.specs.Table.{Table}
use Rattle.write_engine.specs.Cycle.{Next}
use Rattle.hol_orders.specs.declared.order.Order.{Order}
use Rattle.hol_answers.specs.declared.reply.Reply.{Reply}
use Rattle.hol_orders.specs.Order.{Orders}
use Rattle.hol_answers.specs.Reply.{line_of, published_by}
use Rattle.hollow_machine.specs.CycleOrder.{CycleStep}
use Rattle.hollow_machine.specs.MakeCommand.{film_cycle, film_machine}
use Rattle.hollow_machine.specs.Puts.{asks_for}
use Rattle.hollow_machine.specs.Records.{AskedCycle, GivesTrees}
use Rattle.hollow_machine.specs.Script.{LineStep}
use Rattle.hollow_machine.specs.State.{Machine}
use Rattle.state_blobs.specs.Published.{Published}
use Rattle.written_laws.specs.Chain.{Chain}
use Rattle.chain_laws.specs.Producers.{state_behind}

-- The chain has one state more, under this version: the next state that the records of these types and trees make behind the producer's last one.
abbrev pub AddsState : Chain → Published → ℕ → ℤ → List (ℕ × PlainTree) → Chain → Type 0
AddsState chain last version tag trees after =
    (rows : Table) × Next last.model last.rows trees rows × (after ≡ insert chain version (state_behind last tag rows))

-- The chain has the state more that is asked for: its records give trees, and these make it.
abbrev pub AddsAsked : Chain → Published → AskedCycle → Chain → Type 0
AddsAsked chain last asked after =
    (trees : List (ℕ × PlainTree)) × GivesTrees last asked.add trees × AddsState chain last asked.version asked.tag trees after

-- What a cycle makes of the chain whose answer tells of this version that it was published, or of none: the chain has the state more that is asked for,
-- or is the same.
abbrev pub GrowsAsked : Machine → AskedCycle → Option ℕ → Chain → Chain → Type 0
GrowsAsked machine asked None chain after = after ≡ chain
GrowsAsked machine asked (Some version) chain after = IsSomeAnd machine.producer (λ last. AddsAsked chain last asked after)

abbrev pub GrowsByCycle : Machine → AskedCycle → Reply → Chain → Chain → Type 0
GrowsByCycle machine asked answer chain after = GrowsAsked machine asked (published_by answer) chain after

-- What a line makes of the chain whose answer tells of this version that it was published, or of none: the chain has the state more that the line's
-- order asks for, under this version, or is the same.
abbrev pub GrowsTo : Machine → List ℕ → Option ℕ → Chain → Chain → Type 0
GrowsTo machine line None chain after = after ≡ chain
GrowsTo machine line (Some version) chain after =
    (order : Order) × (asked : AskedCycle) × Orders line order × (asks_for order ≡ Some asked) × (asked.version ≡ version)
    × IsSomeAnd machine.producer (λ last. AddsAsked chain last asked after)

-- What a line with this answer makes of the chain.
abbrev pub GrowsBy : Machine → List ℕ → Reply → Chain → Chain → Type 0
GrowsBy machine line answer chain after = GrowsTo machine line (published_by answer) chain after

-- The lines have these answers one after another, and make the later chain of the earlier one; and this is the machine behind the last.
abbrev pub GrowsAlong : Machine → List (List ℕ) → List ℕ → Chain → Machine → Chain → Type 0
GrowsAlong machine [] text chain next after = (text ≡ []) × (next ≡ machine) × (after ≡ chain)
GrowsAlong machine (line ∷ lines) text chain next after =
    (reply : Reply) × (between : Machine) × (middle : Chain) × (rest : List ℕ)
    × LineStep machine line reply between × GrowsBy machine line reply chain middle × GrowsAlong between lines rest middle next after
    × (text ≡ line_of reply ++ rest)

-- Cycles of the script of `make` are answered one after another, and make the later chain of the earlier one; and this is the machine behind the last.
abbrev pub GrowsByCycles : ℕ → ℕ → Machine → List ℕ → Chain → Machine → Chain → Type 0
GrowsByCycles seed rows machine [] chain next after = (next ≡ machine) × (after ≡ chain)
GrowsByCycles seed rows machine (cycle ∷ cycles) chain next after =
    (answer : Reply) × (between : Machine) × (middle : Chain) × CycleStep machine (film_cycle seed rows cycle) answer between
    × GrowsByCycle machine (film_cycle seed rows cycle) answer chain middle × GrowsByCycles seed rows between cycles middle next after

-- So are the first cycles of the command over a store: all of them, or those before one that is refused and changes nothing.
abbrev pub GrowsByMake : Store → ℕ → ℕ → ℕ → Chain → Machine → Chain → Type 0
GrowsByMake store seed rows cycles chain next after =
    (answered : List ℕ) × (rest : List ℕ) × (range_with_len 1 cycles ≡ answered ++ rest) × GrowsByCycles seed rows (film_machine store) answered chain next after
