-- What a cycle puts are bytes, and what its rows hold in BYTES are.
use Rattle.std.proofs.Common.{ℕ, List, [], ◌∷◌, Bool, true, false, Option, None, Some, IfSome, sym, subst}
use Rattle.std.specs.Prelude.{All, IsSomeAnd}
use Rattle.std.proofs.lemmas.List.Elements.{All-cons, All-nil}
use Rattle.hol_io.specs.Store.{HoldsBytes, Store}
use Rattle.blob_grammar.specs.Decided.{AreBytes}
use Rattle.schema_model.specs.declared.schema.Schema.{Schema}
use Rattle.row_model.specs.PlainTree.{PlainTree}
use Rattle.row_model.specs.Table.{Table}
use Rattle.state_blobs.specs.Published.{Published}
use Rattle.state_blobs.specs.Puts.{Put, puts_of}
use Rattle.hol_orders.specs.declared.order.Order.{Order}
use Rattle.hol_orders.specs.declared.order.Order.TheVariants as order
use Rattle.hol_orders.specs.Parts.{asked_change, asked_state}
use Rattle.hol_answers.specs.declared.reply.Reply.TheVariants as reply
use Rattle.byte_laws.specs.Bytes.{IsByteProducer, IsByteTable}
use Rattle.byte_laws.proofs.Blobs.{puts_are}
use Rattle.byte_laws.proofs.NextRows.{next_bytes}
use Rattle.byte_laws.proofs.ReadRecords.{read_are}
use Rattle.hollow_machine.specs.CycleOrder.{CycleStep, Makes, SucceedsAfter}
use Rattle.hollow_machine.specs.Puts.{OrderPuts, PutsAfter}
use Rattle.hollow_machine.specs.Records.{Adding, AreRead, AskedCycle, Entry, GivesTrees, asked_cycle, cycle_of_change, edited, entries, given, spelled}
use Rattle.hollow_machine.specs.State.{Machine}
use Rattle.answer_laws.specs.Scripts.{PutsBytes}
use Rattle.answer_laws.proofs.EditedBytes.{IsByteRecord, edited_bytes}
use Rattle.answer_laws.proofs.Storing.{all_bytes}

-- ---- records

-- What the records that a cycle adds hold in BYTES are bytes: those that are JSON give no others, and so it is with those of a state whose rows have bytes.
abbrev pub IsByteAdding : Adding → Type 0
IsByteAdding (spelled json) = Unit {0}
IsByteAdding (given records) = All IsByteRecord records
IsByteAdding (edited put remove) = Unit {0}

read_trees : (schemas : List Schema) (recorded : List Entry) (trees : List (ℕ × PlainTree)) → AreRead schemas recorded trees → All IsByteRecord trees
read_trees schemas [] [] are = All-nil IsByteRecord
read_trees schemas [] (tree ∷ trees) are = absurd are
read_trees schemas (entry ∷ recorded) [] are = absurd are
read_trees schemas (entry ∷ recorded) (tree ∷ trees) are =
    All-cons IsByteRecord tree trees (read_are schemas entry.type_index entry.value tree.1 are.0.1) (read_trees schemas recorded trees are.1)

given_trees : (last : Published) → IsByteProducer last → (add : Adding) (trees : List (ℕ × PlainTree)) → IsByteAdding add → GivesTrees last add trees → All IsByteRecord trees
given_trees last bytes (spelled json) trees is gives = read_trees last.model (entries last.model json) trees gives.read
given_trees last bytes (given records) trees is gives = subst (All IsByteRecord) (sym gives) is
given_trees last bytes (edited put remove) trees is (puts, removes, spells, edits) =
    edited_bytes last.model last.rows bytes.rows puts removes (read_trees last.model (entries last.model put) puts spells.records.read) trees edits

-- the rows of the next state
pub made_bytes : (last : Published) → IsByteProducer last → (wanted : AskedCycle) → IsByteAdding wanted.add → (trees : List (ℕ × PlainTree)) → GivesTrees last wanted.add trees
    → (rows : Table) (changed : List ℕ) → Makes last trees rows changed → IsByteTable rows
made_bytes last bytes wanted adding trees gives rows changed makes = next_bytes last.model last.rows rows trees (given_trees last bytes wanted.add trees adding gives) makes.state

-- ---- what is put

-- What is put are bytes.
abbrev IsBytePut : Put → Type 0
IsBytePut put = AreBytes put.1

puts_after : (store : Store) (last : Published) → IsByteProducer last → (wanted : AskedCycle) → IsByteAdding wanted.add → (puts : List Put) → PutsAfter store last wanted puts → All IsBytePut puts
puts_after store last bytes wanted adding puts (follows, (trees, rows, changed, gives, makes, publishes, (keeps, (blobs, are, short, is)))) =
    subst (All IsBytePut) (sym is) (puts_are last bytes rows (made_bytes last bytes wanted adding trees gives rows changed makes) wanted.version wanted.tag wanted.snapshot blobs are)

cycle_puts : (store : Store) (found : Option Published) → IfSome found IsByteProducer → (wanted : AskedCycle) → IsByteAdding wanted.add → (puts : List Put)
    → IsSomeAnd found (λ last. PutsAfter store last wanted puts) → All IsBytePut puts
cycle_puts store None bytes wanted adding puts is = absurd is
cycle_puts store (Some last) bytes wanted adding puts is = puts_after store last bytes wanted adding puts is

order_puts : (asked : Order) (machine : Machine) → IfSome machine.producer IsByteProducer → (puts : List Put) → OrderPuts asked machine puts → All IsBytePut puts
order_puts (order.Cycle next_state) machine bytes puts is = cycle_puts machine.store machine.producer bytes (asked_cycle (asked_state next_state)) tt puts is
order_puts (order.Change change) machine bytes puts is = cycle_puts machine.store machine.producer bytes (cycle_of_change (asked_change change)) tt puts is
order_puts _ machine bytes puts is = subst (All IsBytePut) (sym is) (All-nil IsBytePut)

-- what a line puts
pub line_puts_bytes : (machine : Machine) (line : List ℕ) → IfSome machine.producer IsByteProducer → PutsBytes line machine
line_puts_bytes machine line bytes puts (short, (asked, orders, is)) = order_puts asked machine bytes puts is

-- ---- what a cycle leaves

-- The producer's model and rows have bytes, and the store has.
abbrev pub LeavesBytes : Machine → Type 0
LeavesBytes next = IsSomeAnd next.producer IsByteProducer × HoldsBytes next.store

succeeds_bytes : (machine next : Machine) (last : Published) → IsByteProducer last → LeavesBytes machine → (wanted : AskedCycle) → IsByteAdding wanted.add → (names : List (List ℕ)) (published : Bool)
    → SucceedsAfter machine last wanted names published next → LeavesBytes next
succeeds_bytes machine next last bytes before wanted adding names false (follows, (trees, gives, (rows, changed, makes, named, leaves))) = subst LeavesBytes (sym leaves.2) before
succeeds_bytes machine next last bytes before wanted adding names true (follows, (trees, gives, (rows, changed, makes, named, (publishes, keeps, (blobs, are, short, is))))) =
    let made = made_bytes last bytes wanted adding trees gives rows changed makes in
    let puts = puts_are last bytes rows made wanted.version wanted.tag wanted.snapshot blobs are in
    subst LeavesBytes (sym is) (record { model = bytes.model; rows = made }, all_bytes (puts_of blobs wanted.version) machine.store puts before.1)

from_producer : (machine next : Machine) (found : Option Published) → IsSomeAnd found IsByteProducer → LeavesBytes machine → (wanted : AskedCycle) → IsByteAdding wanted.add → (names : List (List ℕ)) (published : Bool)
    → IsSomeAnd found (λ last. SucceedsAfter machine last wanted names published next) → LeavesBytes next
from_producer machine next None bytes before wanted adding names published is = absurd is
from_producer machine next (Some last) bytes before wanted adding names published is = succeeds_bytes machine next last bytes before wanted adding names published is

-- a cycle that is not refused
pub cycle_leaves : (machine next : Machine) → LeavesBytes machine → (wanted : AskedCycle) → IsByteAdding wanted.add → (names : List (List ℕ)) (published : Bool) (version : ℕ)
    → CycleStep machine wanted (reply.Cycle names published version) next → LeavesBytes next
cycle_leaves machine next before wanted adding names published version step = from_producer machine next machine.producer before.0 before wanted adding names published step.1
