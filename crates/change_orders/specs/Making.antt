-- What the parts of a change make of a producer that has published its last state.
use Rattle.std.specs.Prelude.{◌≡◌, ℕ, List, Bool, false, true, IfSome, Ok, Option, Some, Result}
use Rattle.hol_io.specs.Store.{Store}
use Rattle.schema_model.specs.declared.schema.Schema.{Schema}
use Rattle.row_model.specs.Table.{Table}
use Rattle.record_trees.specs.declared.tree.Tree.{Tree}
use Rattle.write_engine.specs.Production.{Production}
use Rattle.write_engine.specs.declared.producer.Closed.{Closed}
use Rattle.hol_incremental.specs.Changes.{AreFitting, records}
use Rattle.hol_incremental.specs.EditKeys.{AreEditsOf, AreReady, Editing}
use Rattle.hol_incremental.specs.Edited.{Keys}
use Rattle.hol_orders.specs.Parts.{AskedChange}
use Rattle.hol_answers.specs.declared.reply.Reply.{Reply}
use Rattle.hol_answers.specs.declared.reply.Reply.TheVariants.{Change, Cycle}
use Rattle.hollow_machine.specs.ChangeOrder.{ChangeStep, IsNoChange, Misses, RefusesChange}
use Rattle.hollow_machine.specs.Puts.{PutsAfter}
use Rattle.hollow_machine.specs.Records.{SpellsChange, cycle_of_change, edited}
use Rattle.hollow_machine.specs.State.{Machine}
use Rattle.state_blobs.specs.Published.{Published}
use Rattle.producer_orders.specs.Ends.{IsMemory, TellsEnd}
use Rattle.producer_orders.specs.Making.{AreTaken, IsMade, StopsPart, machine_with}
use Rattle.producer_orders.specs.declared.cycle_end.CycleEnd.{CycleEnd}

-- The JSON of a change gives these records and these keys, and the records fit.
abbrev pub AreLists : List Schema → AskedChange → List (ℕ × Tree) → Keys → Type 0
AreLists schemas asked put remove = SpellsChange schemas asked.put asked.remove (records put) remove × AreFitting schemas (records put)

-- The lists of a change; or why it is none of a state of this model.
abbrev pub TellsLists : List Schema → AskedChange → Result (List (ℕ × Tree) × Keys) CycleEnd → Type 0
TellsLists schemas asked result = TellsEnd (λ lists. AreLists schemas asked lists.0 lists.1) (IsNoChange schemas asked) IsMemory result

-- The rows are those that the edited list makes next, and so many of the keys are those of no row.
abbrev pub IsEdit : Published → AskedChange → Table → ℕ → Type 0
IsEdit last asked rows missing = Misses last asked.remove missing × AreTaken last (edited asked.put asked.remove) rows

-- A closed cycle of the edited list, and how many of the keys are those of no row.
abbrev pub IsEditedState : Published → AskedChange → Production → ℕ × Closed → Type 0
IsEditedState last asked made found = Misses last asked.remove found.0 × IsMade last (edited asked.put asked.remove) made found.1

-- What a change of a producer answers or is refused for, over what the store tells, and what it leaves, whatever else the machine has.
abbrev pub ChangeSteps : AskedChange → Option Store → Published → Option Store → Published → Result Reply CycleEnd → Type 0
ChangeSteps asked held last held' now result = IfSome held (λ store. TellsEnd
    (λ reply. (next : Store) × (held' ≡ Some next)
    × ((machine : Machine) → ChangeStep (machine_with machine store last) asked reply (machine_with machine next now)))
    (λ refusal. (held' ≡ Some store) × RefusesChange store last asked refusal)
    (λ stop. StopsPart (PutsAfter store last (cycle_of_change asked)) store held') result)

-- whether this is the answer to a change that published a state
abbrev pub publishes : Result Reply CycleEnd → Bool
publishes (Ok (Change change)) = change.published
publishes _ = false

-- What is ready is that of the state that is now the previous one, where it was published; else the previous one is as it was.
abbrev pub IsReadyOver : Production → Production → Editing → Bool → Type 0
IsReadyOver old new edits true = AreReady old.schemas old.previous new.previous edits
IsReadyOver old new edits false = new.previous ≡ old.previous

-- What is kept is that of the previous state, and what is ready that of a state that a change has published.
abbrev pub AreKeptOver : Production → Production → Editing → Result Reply CycleEnd → Type 0
AreKeptOver old new edits result = AreEditsOf old.schemas old.previous edits × IsReadyOver old new edits (publishes result)

-- what a cycle answers, as the answer to a change
abbrev pub change_reply : Reply → ℕ → Reply
change_reply (Cycle names published version) missing = Change (record { changed = names; missing = missing; published = published; version = version })
change_reply reply missing = reply
