-- The puts of an order and of a line, in their order: those by which a cycle publishes.
use Rattle.std.specs.Prelude.{Bool, ◌≡◌, ◌≤◌, ℕ, ℤ, List, [], All, Option, Some, None, IsSome, IsSomeAnd, length}
use Rattle.hol_io.specs.Store.{Store}
use Rattle.row_model.specs.PlainTree.{PlainTree}
use Rattle.row_model.specs.Table.{Table}
use Rattle.write_engine.specs.CycleLimit.{TellsTypes}
use Rattle.state_blobs.specs.Published.{Published}
use Rattle.state_blobs.specs.Puts.{AreBlobs, IsShort, Put, puts_of}
use Rattle.hol_orders.specs.declared.order.Order.{Order}
use Rattle.hol_orders.specs.declared.order.Order.TheVariants as order
use Rattle.hol_orders.specs.Order.{Orders}
use Rattle.hol_orders.specs.Parts.{asked_change, asked_state}
use Rattle.hollow_machine.specs.CycleOrder.{Makes, Publishes}
use Rattle.hollow_machine.specs.Follow.{MayFollow}
use Rattle.hollow_machine.specs.Records.{AskedCycle, GivesTrees, asked_cycle, cycle_of_change}
use Rattle.hollow_machine.specs.Script.{longest_line}
use Rattle.hollow_machine.specs.State.{Machine}

-- A state of these rows that keeps all limits is published by these puts, in their order: its blobs, none of which is too long, and behind them its version
-- as the announced one.
abbrev pub ArePutsOf : Published → Table → ℕ → ℤ → Bool → List Put → Type 0
ArePutsOf last rows version tag with_snapshot puts =
    TellsTypes last.model last.rows rows None
    × ((blobs : List Put) × AreBlobs last rows version tag with_snapshot blobs × All IsShort blobs × (puts ≡ puts_of blobs version))

-- The puts of a cycle that publishes behind the producer's last state: the state may follow, the records give trees, and these make the rows.
abbrev pub PutsAfter : Store → Published → AskedCycle → List Put → Type 0
PutsAfter store last asked puts =
    MayFollow store last.version asked.version asked.tag
    × ((trees : List (ℕ × PlainTree)) × (rows : Table) × (changed : List ℕ)
    × GivesTrees last asked.add trees × Makes last trees rows changed × Publishes last changed × ArePutsOf last rows asked.version asked.tag asked.snapshot puts)

abbrev pub CyclePuts : AskedCycle → Machine → List Put → Type 0
CyclePuts asked machine puts = IsSomeAnd machine.producer (λ last. PutsAfter machine.store last asked puts)

-- The cycle that an order asks for, if it asks for one: a change asks for that of the edited list.
abbrev pub asks_for : Order → Option AskedCycle
asks_for (order.Cycle next_state) = Some (asked_cycle (asked_state next_state))
asks_for (order.Change change) = Some (cycle_of_change (asked_change change))
asks_for _ = None

-- The order may put blobs.
abbrev pub MayPut : Order → Type 0
MayPut order = IsSome (asks_for order)

-- The puts of an order that asks for this cycle, or for none: those of a cycle that publishes; no other order puts anything.
abbrev pub PutsFor : Option AskedCycle → Machine → List Put → Type 0
PutsFor None machine puts = puts ≡ []
PutsFor (Some asked) machine puts = CyclePuts asked machine puts

abbrev pub OrderPuts : Order → Machine → List Put → Type 0
OrderPuts order machine puts = PutsFor (asks_for order) machine puts

-- The puts of a line: those of the order that it is.
abbrev pub LinePuts : List ℕ → Machine → List Put → Type 0
LinePuts line machine puts = (length line ≤ longest_line) × ((asked : Order) × Orders line asked × OrderPuts asked machine puts)
