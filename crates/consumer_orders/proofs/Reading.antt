-- What is kept of a consumer behind a load and a step: the machine, and that the history leads to where the consumer stands.
use Rattle.std.proofs.Common.{◌≡◌, ℕ, List, [], ◌∷◌, take, Option, Some, None, refl, sym, ap, ◌∙◌, subst}
use Rattle.std.specs.Prelude.{IfSome, IsSome, IsSomeAnd}
use Rattle.hol_io.specs.Store.{Store}
use Rattle.schema_model.specs.declared.schema.Schema.{Schema}
use Rattle.row_model.specs.Before.{PastPart, table_before}
use Rattle.row_model.specs.Table.{Table}
use Rattle.hol_history.specs.History.{PastSteps, StandsOn, tables_of}
use Rattle.read_engine.specs.Gone.{HasLeft}
use Rattle.read_engine.specs.Position.{IsPosition, Position, rows_now}
use Rattle.read_engine.specs.Taking.{FollowsFrom}
use Rattle.hollow_machine.proofs.ClosedPast.{closed_behind, closed_none}
use Rattle.hollow_machine.specs.Kept.{AreClosed, IsReader, Kept, kept_with_reader, machine_of, reader_of}
use Rattle.hollow_machine.specs.State.{loaded_to, stepped_to}

-- the history without its steps
abbrev pub cleared : PastSteps → PastSteps
cleared history = record history { steps = [] }

-- ---- the machine

-- The machine of a consumer that has loaded a version, and of a history that is cleared.
pub machine_loaded : (store : Store) (kept : Kept) (old : Option Position) (before : Option ℕ) (position : Position) (version : ℕ) (history : PastSteps) →
    machine_of store (kept_with_reader kept (reader_of (Some position) (Some version) (cleared history)))
    ≡ loaded_to (machine_of store (kept_with_reader kept (reader_of old before history))) version position
unfolding tables_of
machine_loaded store kept old before position version history = refl

-- The machine of a consumer that has moved, and of a history that has the state from before in front.
pub machine_stepped : (store : Store) (kept : Kept) (from to : Position) (before version : ℕ) (history history' : PastSteps) → history'.bound ≡ history.bound → to.before ≡ rows_now from →
    tables_of (rows_now to) history'.steps ≡ take history.bound ((before, to.before) ∷ tables_of to.before history.steps) →
    machine_of store (kept_with_reader kept (reader_of (Some to) (Some version) history'))
    ≡ stepped_to (machine_of store (kept_with_reader kept (reader_of (Some from) (Some before) history))) version to
machine_stepped store kept from to before version history history' bound was tables =
    let past = tables ∙ ap (λ (table : Table). take history.bound ((before, table) ∷ tables_of table history.steps)) was in
    (λ i. record (machine_of store (kept_with_reader kept (reader_of (Some to) (Some version) history'))) { bound = bound i; past = past i })

-- ---- the history leads to where the consumer stands

stands_none : (schemas : List Schema) (table : Table) → StandsOn schemas table []
unfolding StandsOn
stands_none schemas table = tt

closed_from_none : (schemas : List Schema) (table : Table) → AreClosed schemas (tables_of table [])
unfolding tables_of
closed_from_none schemas table = closed_none schemas

-- A history that is cleared leads to each state.
pub reads_cleared : (now : Option Position) (version : ℕ) (history history' : PastSteps) → IsSome now → history' ≡ cleared history → IsReader (reader_of now (Some version) history')
reads_cleared None version history history' some is = absurd cc
reads_cleared (Some position) version history history' some is =
    subst (λ (h : PastSteps). IsReader (reader_of (Some position) (Some version) h)) (sym is) (refl, stands_none position.schemas (rows_now position), closed_from_none position.schemas (rows_now position))

-- A consumer that has a state has a version.
pub has_version : (now : Option Position) (version : Option ℕ) (history : PastSteps) → IsSome now → IsReader (reader_of now version history) → IsSome version
has_version None version history some reads = absurd cc
has_version (Some position) version history some reads = reads.0

-- The history led to the state from before a step.
pub stood_before : (old new : Option Position) (version : Option ℕ) (history : PastSteps) → IsSome old → IsReader (reader_of old version history) → IfSome old (λ from. IsSomeAnd new (FollowsFrom from)) →
    IfSome new (λ now. StandsOn now.schemas now.before history.steps)
stood_before None new version history some reads follows = absurd cc
stood_before (Some from) None version history some reads follows = absurd follows
stood_before (Some from) (Some to) version history some reads follows =
    subst (λ (schemas : List Schema). StandsOn schemas to.before history.steps) (sym follows.model)
    (subst (λ (table : Table). StandsOn from.schemas table history.steps) (sym follows.before) reads.1)

-- The rows before each step of the history were closed.
pub closed_before : (old new : Option Position) (version : Option ℕ) (history : PastSteps) → IsSome old → IsReader (reader_of old version history) → IfSome old (λ from. IsSomeAnd new (FollowsFrom from)) →
    IfSome new (λ now. AreClosed now.schemas (tables_of now.before history.steps))
closed_before None new version history some reads follows = absurd cc
closed_before (Some from) None version history some reads follows = absurd follows
closed_before (Some from) (Some to) version history some reads follows =
    subst (λ (schemas : List Schema). AreClosed schemas (tables_of to.before history.steps)) (sym follows.model)
    (subst (λ (table : Table). AreClosed from.schemas (tables_of table history.steps)) (sym follows.before) reads.2)

-- A history that got the state from before a step in front leads to where the consumer stands.
pub reads_pushed : (now : Option Position) (version from : ℕ) (schemas : List Schema) (table : Table) (past : List PastPart) (history history' : PastSteps) →
    IsSomeAnd now (λ position. position.schemas ≡ schemas) → IsSomeAnd now (λ position. rows_now position ≡ table) → IsSomeAnd now IsPosition → IsSomeAnd now (HasLeft past) →
    IfSome now (λ position. AreClosed position.schemas (tables_of position.before history.steps)) →
    tables_of table history'.steps ≡ take history.bound ((from, table_before table past) ∷ tables_of (table_before table past) history.steps) → StandsOn schemas table history'.steps →
    IsReader (reader_of now (Some version) history')
reads_pushed None version from schemas table past history history' model rows is left closed kept stands = absurd left
reads_pushed (Some position) version from schemas table past history history' model rows is left closed kept stands =
    let was : table_before table past ≡ position.before = subst (λ (t : Table). table_before t past ≡ position.before) rows left.before in
    let front = ap (λ (t : Table). tables_of t history'.steps) rows ∙ kept ∙ ap (λ (t : Table). take history.bound ((from, t) ∷ tables_of t history.steps)) was in (
      refl,
      subst (λ (s : List Schema). StandsOn s (rows_now position) history'.steps) (sym model) (subst (λ (t : Table). StandsOn schemas t history'.steps) (sym rows) stands),
      closed_behind position.schemas history.bound from position.before (tables_of position.before history.steps) (tables_of (rows_now position) history'.steps) is.closed_before closed front,
    )
