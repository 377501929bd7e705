-- The records of a machine whose tables are closed ones of the consumer's model can be shown, where what they print as can be held by a value, as of rows within the
-- limits of a state it can.
use Rattle.std.proofs.Common.{ℕ, List, [], ◌∷◌, cond, true, false, eqb, Option, None, Some, IfSome}
use Rattle.std.specs.Prelude.{All}
use Rattle.std.specs.List.{find}
use Rattle.std.specs.Option.{option_map}
use Rattle.std.proofs.lemmas.List.Elements.{All-cons, All-head, All-nil, All-tail}
use Rattle.schema_model.specs.declared.schema.Schema.{Schema}
use Rattle.schema_model.specs.Model.{IsModel}
use Rattle.row_model.specs.Table.{IsClosed, IsTableOf, Table}
use Rattle.hol_history.specs.History.{table_then}
use Rattle.read_engine.specs.Position.{Position, rows_now}
use Rattle.hollow_machine.specs.State.{Machine}
use Rattle.answer_laws.specs.Limits.{HasLimitedRows, IsWithinLimits}
use Rattle.answer_laws.specs.Ranges.{HoldsOfStates}
use Rattle.answer_laws.specs.Shown.{HasJson, HasTables, HasWhole, IsShown, IsWhole}
use Rattle.answer_laws.specs.Storable.{HasStorableRows, PrintsStorable}
use Rattle.answer_laws.proofs.Printing.{has_json}
use Rattle.answer_laws.proofs.StorableRows.{table_storable}
use Rattle.answer_laws.proofs.Values.{made_value}

pub storable_json : (schemas : List Schema) (table : Table) → IsModel schemas → IsTableOf schemas table → IsClosed schemas table → PrintsStorable schemas table → HasJson schemas table
storable_json schemas table model fits closed storable = has_json schemas table model fits closed (λ t ordinal printed live prints none.
    (let made = made_value printed (storable t ordinal printed live prints) in none made.0 made.1))

-- of the rows of a version holds what holds of all that are kept
all_then : (P : Table → Type 0) (past : List (ℕ × Table)) (version : ℕ) → All (λ pair. P pair.1) past → IfSome (table_then past version) P
all_then P [] version all = tt
all_then P (pair ∷ past) version all =
    elim (eqb pair.0 version) as (λ b. IfSome (option_map (λ (p : ℕ × Table). p.1) (cond b (Some pair) (find (λ (p : ℕ × Table). eqb p.0 version) past))) P) [
      | true ↦ All-head (λ (p : ℕ × Table). P p.1) pair past all
      | false ↦ all_then P past version (All-tail (λ (p : ℕ × Table). P p.1) pair past all)
    ]

whole_shown : (schemas : List Schema) → IsModel schemas → (table : Table) → IsWhole schemas table → PrintsStorable schemas table → HasJson schemas table
whole_shown schemas model table whole storable = storable_json schemas table model whole.0 whole.1 storable

then_shown : (schemas : List Schema) → IsModel schemas → (found : Option Table) → IfSome found (IsWhole schemas) → IfSome found (PrintsStorable schemas) → IfSome found (HasJson schemas)
then_shown schemas model None whole storable = tt
then_shown schemas model (Some table) whole storable = whole_shown schemas model table whole storable

-- What the consumer has can be shown.
abbrev Showing : List (ℕ × Table) → Option Position → Type 0
Showing past consumer =
    IfSome consumer (λ now. HasJson now.schemas (rows_now now)) × IfSome consumer (λ now. HasJson now.schemas now.before)
    × IfSome consumer (λ now. (version : ℕ) → IfSome (table_then past version) (HasJson now.schemas))

consumer_shown : (past : List (ℕ × Table)) (consumer : Option Position) → IfSome consumer (λ now. HasTables now × All (λ pair. IsWhole now.schemas pair.1) past)
    → IfSome consumer (λ now. HoldsOfStates PrintsStorable now past) → Showing past consumer
consumer_shown past None whole storable = (tt, tt, tt)
consumer_shown past (Some now) (tables, all) storable = (
  whole_shown now.schemas tables.model (rows_now now) (tables.rows, tables.closed) storable.current,
  whole_shown now.schemas tables.model now.before (tables.rows_before, tables.closed_before) storable.before,
  λ version. then_shown now.schemas tables.model (table_then past version) (all_then (IsWhole now.schemas) past version all) (all_then (PrintsStorable now.schemas) past version storable.older),
)

pub machine_shown : (machine : Machine) → HasWhole machine → HasStorableRows machine → IsShown machine
machine_shown machine whole storable =
    let shows = consumer_shown machine.past machine.consumer whole storable in
    record { now = shows.0; before = shows.1; past = shows.2 }

-- ---- rows within the limits

older_storable : (schemas : List Schema) → IsModel schemas → (past : List (ℕ × Table)) → All (λ pair. IsWithinLimits schemas pair.1) past → All (λ pair. PrintsStorable schemas pair.1) past
older_storable schemas model [] limited = All-nil (λ (pair : ℕ × Table). PrintsStorable schemas pair.1)
older_storable schemas model (pair ∷ past) limited =
    All-cons (λ (p : ℕ × Table). PrintsStorable schemas p.1) pair past (table_storable schemas pair.1 model (All-head (λ (p : ℕ × Table). IsWithinLimits schemas p.1) pair past limited))
    (older_storable schemas model past (All-tail (λ (p : ℕ × Table). IsWithinLimits schemas p.1) pair past limited))

consumer_storable : (past : List (ℕ × Table)) (consumer : Option Position) → IfSome consumer (λ now. HasTables now × All (λ pair. IsWhole now.schemas pair.1) past)
    → IfSome consumer (λ now. HoldsOfStates IsWithinLimits now past) → IfSome consumer (λ now. HoldsOfStates PrintsStorable now past)
consumer_storable past None whole limited = tt
consumer_storable past (Some now) (tables, all) limited = record {
  current = table_storable now.schemas (rows_now now) tables.model limited.current;
  before = table_storable now.schemas now.before tables.model limited.before;
  older = older_storable now.schemas tables.model past limited.older;
}

pub machine_storable : (machine : Machine) → HasWhole machine → HasLimitedRows machine → HasStorableRows machine
machine_storable machine whole limited = consumer_storable machine.past machine.consumer whole limited
