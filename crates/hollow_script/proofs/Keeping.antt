-- What is kept of a consumer and its history, and what of the machine this tells.
use Rattle.std.proofs.Common.{◌≡◌, ℕ, List, [], ◌∷◌, Option, Some, None, IfSome, map, refl, sym, ap, subst}
use Rattle.hol_io.specs.Store.{Store}
use Rattle.hol_history.specs.History.{PastStep, PastSteps, StandsOn, tables_of, versions}
use Rattle.row_model.specs.Before.{table_before}
use Rattle.row_model.specs.Table.{Table}
use Rattle.write_engine.specs.Production.{Production}
use Rattle.read_engine.specs.Position.{Position, rows_now}
use Rattle.hol_incremental.specs.EditKeys.{Editing}
use Rattle.change_orders.specs.Keeping.{AreKeptFor}
use Rattle.hollow_machine.specs.Kept.{LeadsHere, past_of}
use Rattle.hollow_script.specs.Kept.{KeepsEdits, KeepsHistory, KeepsNothing, KeepsReader, machine_with}
use Rattle.hollow_script.specs.declared.keep.Keep.{Keep}

-- where nothing is kept, no steps lead to no state
pub nothing_read : (keep : Keep) → KeepsNothing keep → KeepsReader keep
nothing_read keep none =
    subst (λ (consumer : Option Position). LeadsHere consumer keep.version keep.history.steps) (sym none.consumer) (none.version, ap (λ (h : PastSteps). h.steps) none.history)

-- where nothing is kept for changes, so is it of any producer
pub edited_beside : (keep : Keep) (producer : Option Production) → KeepsNothing keep → AreKeptFor producer keep.edits
edited_beside keep producer none = subst (λ (edits : Option Editing). AreKeptFor producer edits) (sym none.edits) tt

pub nothing_edited : (keep : Keep) → KeepsNothing keep → KeepsEdits keep
nothing_edited keep none = edited_beside keep keep.producer none

-- the older states are those of the versions that the steps led from
versions_of : (now : Table) (steps : List PastStep) → versions steps ≡ map (λ pair. pair.0) (tables_of now steps)
unfolding tables_of
versions_of now [] = refl
versions_of now (step ∷ steps) = ap (λ vs. step.from ∷ vs) (versions_of (table_before now step.past) steps)

reached : (consumer : Option Position) (version : Option ℕ) (steps : List PastStep) → LeadsHere consumer version steps → versions steps ≡ map (λ pair. pair.0) (past_of consumer steps)
reached None version steps leads = ap versions leads.1
reached (Some now) version steps leads = versions_of (rows_now now) steps

stands : (consumer : Option Position) (version : Option ℕ) (steps : List PastStep) → LeadsHere consumer version steps → IfSome consumer (λ now. StandsOn now.schemas (rows_now now) steps)
stands None version steps leads = tt
stands (Some now) version steps leads = leads.1

states : (consumer : Option Position) (steps : List PastStep) → IfSome consumer (λ now. tables_of (rows_now now) steps ≡ past_of consumer steps)
states None steps = tt
states (Some now) steps = refl

-- A history that leads to where the consumer stands is that of the machine.
pub keeps_history : (keep : Keep) (store : Store) → KeepsReader keep → KeepsHistory keep (machine_with store keep)
keeps_history keep store reads = record {
  bound = refl;
  reached = reached keep.consumer keep.version keep.history.steps reads;
  stands = stands keep.consumer keep.version keep.history.steps reads;
  states = states keep.consumer keep.history.steps;
}
