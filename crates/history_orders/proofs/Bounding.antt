-- The order `history`: a history of no steps, which keeps so many at most.
use Rattle.std.proofs.Common.{ℕ, [], Option, Some, None, Ok, refl}
use Rattle.hol_io.specs.Store.{Store}
use Rattle.hol_history.specs.History.{PastSteps, StandsOn, tables_of}
use Rattle.read_engine.specs.Position.{Position}
use Rattle.hol_answers.specs.declared.reply.Reply.TheVariants as reply
use Rattle.hollow_machine.specs.HistoryOrders.{HistoryStep}
use Rattle.hollow_machine.specs.Kept.{IsReader, MovesReader, reader_of}
use Rattle.hollow_machine.proofs.ClosedPast.{closed_none}

-- the history of no steps
abbrev pub none_of : ℕ → PastSteps
none_of bound = record { bound = bound; steps = [] }

-- It moves the machine.
pub bounded : (E : Type 0) (held : Option Store) (consumer : Option Position) (version : Option ℕ) (old : PastSteps) (bound : ℕ) →
    MovesReader {E = E} (λ machine reply next. HistoryStep machine bound reply next) held (reader_of consumer version old) (reader_of consumer version (none_of bound)) (Ok (reply.History bound))
unfolding tables_of
bounded E None consumer version old bound = λ kept. tt
bounded E (Some store) None version old bound = λ kept. (store, refl, (refl, refl))
bounded E (Some store) (Some now) version old bound = λ kept. (store, refl, (refl, refl))

-- It leads to where the consumer stands.
pub leads_none : (consumer : Option Position) (version : Option ℕ) (old : PastSteps) (bound : ℕ) → IsReader (reader_of consumer version old) → IsReader (reader_of consumer version (none_of bound))
unfolding StandsOn tables_of
leads_none None version old bound leads = (leads.0, refl)
leads_none (Some now) version old bound leads = (leads.0, tt, closed_none now.schemas)
