-- What a closed cycle has made, from what its steps leave of the producer.
use Rattle.std.proofs.Common.{◌≡◌, ◌<◌, ◌≤◌, inl, inr, ℕ, List, zero, suc, [], ◌∷◌, All, true, false, refl, sym, ap, ◌∙◌, subst, length, get_or, arith}
use Rattle.std.specs.Prelude.{IsTrue, ◌↔◌}
use Rattle.std.specs.FinMap.{empty}
use Rattle.std.proofs.lemmas.Bool.{cases_lt}
use Rattle.std.proofs.lemmas.List.Elements.{Contains-get_or}
use Rattle.serde_json.specs.Data.{Data}
use Rattle.row_model.specs.Table.{Table}
use Rattle.write_engine.specs.Cycle.{rows_in}
use Rattle.row_packing.specs.Measured.{AreMeasured}
use Rattle.write_engine.specs.CycleLimit.{IsToPublish, TellsCycle}
use Rattle.write_engine.specs.Production.{AreChanged, Production}
use Rattle.write_engine.specs.declared.producer.Closed.{Closed}
use Rattle.schema_model.specs.declared.limit.Limit.TheVariants.{Ordinals}
use Rattle.hol_answers.specs.declared.refusal.Refusal.TheVariants.{TooLarge}
use Rattle.hollow_machine.specs.CycleOrder.{Makes}
use Rattle.state_blobs.specs.Published.{published_of, Published}
use Rattle.hollow_machine.specs.Records.{Adding, AreTypes, entries, spelled}
use Rattle.producer_orders.specs.Making.{AreRefused, AreTaken, IsMade}
use Rattle.producer_orders.specs.Parts.{AreAdded}

-- a table has no rows past its types
rows_past : (table : Table) (t : ℕ) → length table ≤ t → rows_in table t ≡ empty
rows_past [] t past = refl
rows_past (rows ∷ table) zero past = absurd (omega arith)
rows_past (rows ∷ table) (suc t) past = rows_past table t (omega arith)

-- the types whose rows differ are types of the tables
changed_within : (count : ℕ) (previous current : Table) (changed : List ℕ) → length previous ≡ count → length current ≡ count → AreChanged previous current changed → All (λ t. t < count) changed
changed_within count previous current changed old new are = λ k d within.
    let t = get_or changed k d in
    elim (cases_lt t count) [
      | inl below ↦ below
      | inr past ↦
          let none : rows_in current t ≡ empty = rows_past current t (omega arith) in
          let none_before : rows_in previous t ≡ empty = rows_past previous t (omega arith) in
          absurd ((are.same t).0 (Contains-get_or changed k d within) (none ∙ sym none_before))
    ]

-- A cycle that is closed over the records that were taken.
pub is_made : (old taken new : Production) (add : Adding) (closed : Closed) → taken ≡ record old { current = taken.current } → new ≡ record taken { closed = true; over = new.over } →
    AreTaken (published_of old) add taken.current → AreChanged taken.previous taken.current closed.changed →
    (IsTrue closed.first ↔ (taken.version ≡ 0)) → TellsCycle taken.schemas taken.previous taken.current taken.version closed.changed new.over →
    (IsToPublish taken.version closed.changed → AreMeasured taken.schemas taken.previous taken.current closed.measured) → length new.previous ≡ length new.schemas → length new.current ≡ length new.schemas → IsMade (published_of old) add new closed
is_made old taken new add closed kept ok (trees, gives, state) are first over measured previous_types current_types =
    let whole : new ≡ record old { current = taken.current; closed = true; over = new.over } = ok ∙ ap (λ (p : Production). record p { closed = true; over = new.over }) kept in
    let same : taken.current ≡ new.current = sym (ap (λ (p : Production). p.current) whole) in
    let changed : AreChanged old.previous taken.current closed.changed = subst (λ (p : Production). AreChanged p.previous p.current closed.changed) kept are in
    let limits : TellsCycle old.schemas old.previous taken.current old.version closed.changed new.over = subst (λ (p : Production). TellsCycle p.schemas p.previous p.current p.version closed.changed new.over) kept over in
    let sized : IsToPublish old.version closed.changed → AreMeasured old.schemas old.previous taken.current closed.measured =
    subst (λ (p : Production). IsToPublish p.version closed.changed → AreMeasured p.schemas p.previous p.current closed.measured) kept measured in
    let before : length old.previous ≡ length old.schemas = subst (λ (p : Production). length p.previous ≡ length p.schemas) whole previous_types in
    let after : length taken.current ≡ length old.schemas = subst (λ (p : Production). length p.current ≡ length p.schemas) whole current_types in
    let makes : Makes (published_of old) trees taken.current closed.changed = record { state = state; types = changed } in
    record {
      trees = trees;
      gives = gives;
      makes = subst (λ (rows : Table). Makes (published_of old) trees rows closed.changed) same makes;
      over = subst (λ (rows : Table). TellsCycle old.schemas old.previous rows old.version closed.changed new.over) same limits;
      measured = subst (λ (rows : Table). IsToPublish old.version closed.changed → AreMeasured old.schemas old.previous rows closed.measured) same sized;
      first = subst (λ (p : Production). IsTrue closed.first ↔ (p.version ≡ 0)) kept first;
      in_model = changed_within (length old.schemas) old.previous taken.current closed.changed before after changed;
      is_closed = ap (λ (p : Production). p.closed) whole;
    }

-- records that were added are taken
pub are_taken : (last : Published) (add : Data) (rows : Table) → AreTypes last.model add → AreAdded last.model last.rows (entries last.model add) rows false → AreTaken last (spelled add) rows
are_taken last add rows types (trees, read, next) = (trees, record { types = types; read = read }, next)

-- records that are too many are refused
pub too_many : (last : Published) (add : Data) (rows : Table) → AreTypes last.model add → AreAdded last.model last.rows (entries last.model add) rows true → AreRefused last (spelled add) (TooLarge Ordinals)
too_many last add rows types (trees, read, none) = (trees, record { types = types; read = read }, none)
