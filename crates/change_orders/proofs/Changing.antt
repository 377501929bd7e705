-- A change from its parts: what the cycle of the edited list answers, a change answers.
use Rattle.std.proofs.Common.{◌≡◌, ◌∙◌, ◌≤◌, ℕ, List, true, false, Option, Some, None, Result, Ok, Err, inl, refl, sym, ap, subst, length}
use Rattle.std.specs.Prelude.{IfSome, IsSome, OnOk, IsSomeAnd, IsTrue, ◌↔◌, ⊤}
use Rattle.std.specs.Option.{option_map}
use Rattle.hol_io.specs.Store.{Store}
use Rattle.schema_model.specs.Model.{IsModel}
use Rattle.schema_model.specs.declared.limit.Limit.TheVariants as limit
use Rattle.schema_model.specs.declared.schema.Schema.{Schema}
use Rattle.row_model.specs.PlainTree.{PlainTree}
use Rattle.row_model.specs.Table.{Table}
use Rattle.record_trees.specs.declared.tree.Tree.{Tree}
use Rattle.write_engine.specs.Agreement.{HoldsOnce}
use Rattle.row_packing.specs.Measured.{AreMeasured}
use Rattle.write_engine.specs.CycleLimit.{IsToPublish, TellsCycle}
use Rattle.write_engine.specs.Production.{AreChanged, Production, without_rows}
use Rattle.write_engine.specs.declared.producer.Closed.{Closed}
use Rattle.hol_incremental.specs.Changes.{CountsMissing, HaveKeys, HaveOwnKeys, records}
use Rattle.hol_incremental.specs.EditKeys.{AreEditsOf, AreReady, Coming, Editing, IsComing, IsReadied}
use Rattle.hol_incremental.specs.Edited.{IsNextEdited, Keys}
use Rattle.hol_incremental.proofs.DecidedRoots.{an_edited_list}
use Rattle.hol_incremental.proofs.IndexRows.{all_reserved}
use Rattle.hol_orders.specs.Parts.{AskedChange}
use Rattle.hol_orders.specs.declared.order_stop.OrderStop.{OrderStop}
use Rattle.hol_orders.specs.declared.order_stop.OrderStop.TheVariants as stop
use Rattle.hol_answers.specs.declared.refusal.Refusal.{Refusal}
use Rattle.hol_answers.specs.declared.refusal.Refusal.TheVariants as refusal
use Rattle.hol_answers.specs.declared.reply.Reply.{Reply}
use Rattle.hol_answers.specs.declared.reply.Reply.TheVariants as reply
use Rattle.hollow_machine.specs.ChangeOrder.{AreAllKeyed, ChangeRefusal, ChangeStep, IsNoChange, Misses, RefusesChange}
use Rattle.hollow_machine.specs.CycleOrder.{CycleRefusal, CycleStep, RefusesAfter}
use Rattle.hollow_machine.specs.Follow.{MayFollow}
use Rattle.hollow_machine.specs.Kept.{MovesProducer, kept_with_producer, machine_of}
use Rattle.hollow_machine.specs.Left.{HaltsProducer}
use Rattle.hollow_machine.specs.Puts.{CyclePuts}
use Rattle.hollow_machine.specs.Records.{cycle_of_change, edited}
use Rattle.hollow_machine.specs.State.{Machine}
use Rattle.state_blobs.specs.Published.{Published, published_of}
use Rattle.producer_orders.specs.Ends.{HasEndCause, IsMemory, TellsEnd}
use Rattle.producer_orders.specs.Making.{AreRefused, AreTaken, Follows, KeepsRows, Steps, machine_with}
use Rattle.producer_orders.specs.declared.cycle_end.CycleEnd.{CycleEnd}
use Rattle.producer_orders.specs.declared.cycle_end.CycleEnd.TheVariants as cycle_end
use Rattle.producer_orders.proofs.Cycling.{records_end}
use Rattle.producer_orders.proofs.Makings.{is_made}
use Rattle.change_orders.specs.Given.{TellsGiven, TellsKeyed}
use Rattle.change_orders.specs.Keeping.{AreKeptFor}
use Rattle.change_orders.specs.Making.{AreKeptOver, AreLists, ChangeSteps, IsEdit, IsEditedState, IsReadyOver, change_reply, publishes}

-- the records of the lists are taken as the edited list
pub lists_taken : (last : Published) (asked : AskedChange) (put : List (ℕ × Tree)) (remove : Keys) (rows : Table) → AreLists last.model asked put remove → IsNextEdited last.model last.rows (records put) remove rows
    → AreTaken last (edited asked.put asked.remove) rows
lists_taken last asked put remove rows lists (list, is, next) = (list, (records put, remove, lists.0, is), next)

-- what refuses the cycle of the edited list refuses the change
refused_change : (store : Store) (last : Published) (asked : AskedChange) (why : Refusal) → RefusesAfter store last (cycle_of_change asked) why → RefusesChange store last asked why
refused_change store last asked (refusal.NoType name) is = absurd is.1
refused_change store last asked (refusal.BadRecord fault) is = absurd is.1
refused_change store last asked (refusal.WrongKind name) is = absurd is
refused_change store last asked (refusal.BadPath path) is = absurd is
refused_change store last asked (refusal.NoKey name place) is = absurd is
refused_change store last asked (refusal.KeyTwice keys) is = absurd is
refused_change store last asked refusal.BadKey is = absurd is
refused_change store last asked _ is = is

-- so does what makes it none of a state of the model, where the state may follow
pub no_change : (store : Store) (last : Published) (asked : AskedChange) (why : Refusal) → MayFollow store last.version asked.version asked.tag → IsNoChange last.model asked why → RefusesChange store last asked why
no_change store last asked (refusal.NoType name) follows is = (follows, is)
no_change store last asked (refusal.BadRecord fault) follows is = (follows, is)
no_change store last asked (refusal.WrongKind name) follows is = (follows, is)
no_change store last asked (refusal.BadPath path) follows is = (follows, is)
no_change store last asked (refusal.NoKey name place) follows is = (follows, is)
no_change store last asked (refusal.KeyTwice keys) follows is = (follows, is)
no_change store last asked refusal.BadKey follows is = (follows, is)
no_change store last asked _ follows is = absurd is

module _ (asked : AskedChange) (held held' : Option Store) (last now : Published) where
  -- a cycle of the edited list that is refused or stops, as a change
  pub err_steps : (end : CycleEnd) → Steps (cycle_of_change asked) held last held' now (Err end) → ChangeSteps asked held last held' now (Err end)
  err_steps end steps = over held steps
    where
      over : (h : Option Store) → Steps (cycle_of_change asked) h last held' now (Err end) → ChangeSteps asked h last held' now (Err end)
      over None steps = tt
      over (Some store) steps = by_end end steps
        where
          by_end : (e : CycleEnd) → Steps (cycle_of_change asked) (Some store) last held' now (Err e) → ChangeSteps asked (Some store) last held' now (Err e)
          by_end (cycle_end.Refused why) steps = (steps.0, refused_change store last asked why steps.1)
          by_end (cycle_end.Stopped stop) steps = steps

  -- what the cycle answers, with the number of the keys that are those of no row
  pub ok_steps : (answer : Reply) (missing : ℕ) → Misses last asked.remove missing → Steps (cycle_of_change asked) held last held' now (Ok answer) → ChangeSteps asked held last held' now (Ok (change_reply answer missing))
  ok_steps answer missing misses steps = over held steps
    where
      refuses : (machine : Machine) (store : Store) (why : Refusal) → CycleRefusal (machine_with machine store last) (cycle_of_change asked) why → ChangeRefusal (machine_with machine store last) asked why
      refuses machine store refusal.NoModel is = is
      refuses machine store (refusal.NoType name) is = absurd is.1
      refuses machine store (refusal.BadRecord fault) is = absurd is.1
      refuses machine store (refusal.WrongKind name) is = absurd is
      refuses machine store (refusal.BadPath path) is = absurd is
      refuses machine store (refusal.NoKey name place) is = absurd is
      refuses machine store (refusal.KeyTwice keys) is = absurd is
      refuses machine store refusal.BadKey is = absurd is
      refuses machine store _ is = is

      answered : (machine : Machine) (store next : Store) (r : Reply) → CycleStep (machine_with machine store last) (cycle_of_change asked) r (machine_with machine next now)
          → ChangeStep (machine_with machine store last) asked (change_reply r missing) (machine_with machine next now)
      answered machine store next (reply.Cycle names published version) (same, succeeds) = (same, (misses, succeeds))
      answered machine store next (reply.Refused why) (is, same) = (refuses machine store why is, same)
      answered machine store next _ is = absurd is

      over : (h : Option Store) → Steps (cycle_of_change asked) h last held' now (Ok answer) → ChangeSteps asked h last held' now (Ok (change_reply answer missing))
      over None steps = tt
      over (Some store) (next, is, steps) = (next, is, λ machine. answered machine store next answer (steps machine))

  -- lists that are none end a change of a state that may follow
  pub lists_end : (why : Refusal) → held' ≡ held → Follows held last.version asked.version asked.tag (Ok tt) → IsNoChange last.model asked why → ChangeSteps asked held last held' now (Err (cycle_end.Refused why))
  lists_end why same follows is = over held same follows
    where
      over : (h : Option Store) → held' ≡ h → Follows h last.version asked.version asked.tag (Ok tt) → ChangeSteps asked h last held' now (Err (cycle_end.Refused why))
      over None same follows = tt
      over (Some store) same follows = (same, no_change store last asked why follows is)

-- what is refused after the state of a producer is refused of the machine
after_producer : (machine : Machine) (store : Store) (last : Published) (asked : AskedChange) (why : Refusal) → RefusesChange store last asked why → ChangeRefusal (machine_with machine store last) asked why
after_producer machine store last asked refusal.NoModel is = absurd is
after_producer machine store last asked _ is = is

-- What a change answers moves the machine, where all that it leaves unpublished is dropped.
pub answers : (asked : AskedChange) (held held' : Option Store) (old mid new : Production) (answer : Reply) (E : Type 0) → new ≡ without_rows mid →
    ChangeSteps asked held (published_of old) held' (published_of mid) (Ok answer) →
    MovesProducer {E = E} (λ machine r next. ChangeStep machine asked r next) held (Some old) held' (Some new) (Ok answer)
answers asked None held' old mid new answer E is steps = λ kept. tt
answers asked (Some store) held' old mid new answer E is (next, told, steps) =
    subst (λ p. MovesProducer {E = E} (λ machine r next. ChangeStep machine asked r next) (Some store) (Some old) held' (Some p) (Ok answer)) (sym is)
    (λ kept. (next, told, steps (machine_of store (kept_with_producer kept (Some old)))))

pub refuses : (asked : AskedChange) (held held' : Option Store) (old mid new : Production) (why : Refusal) (E : Type 0) → new ≡ without_rows mid → published_of mid ≡ published_of old →
    ChangeSteps asked held (published_of old) held' (published_of mid) (Err (cycle_end.Refused why)) →
    MovesProducer {E = E} (λ machine r next. ChangeStep machine asked r next) held (Some old) held' (Some new) (Ok (reply.Refused why))
refuses asked None held' old mid new why E is kept steps = λ kept. tt
refuses asked (Some store) held' old mid new why E is kept steps =
    subst (λ p. MovesProducer {E = E} (λ machine r next. ChangeStep machine asked r next) (Some store) (Some old) held' (Some p) (Ok (reply.Refused why))) (sym is)
    (λ beside.
    let machine = machine_of store (kept_with_producer beside (Some old)) in
    (store, steps.0, (after_producer machine store (published_of old) asked why steps.1, ap (λ p. machine_with machine store p) kept)))

pub no_producer : (asked : AskedChange) (held : Option Store) (kept : Option Production) (E : Type 0) → kept ≡ None →
    MovesProducer {E = E} (λ machine r next. ChangeStep machine asked r next) held kept held kept (Ok (reply.Refused refusal.NoModel))
no_producer asked None kept E is = λ kept. tt
no_producer asked (Some store) kept E is = λ beside. (store, refl, (ap (option_map published_of) is, refl))

-- What a change leaves of the store that stops.
pub halts : (asked : AskedChange) (held held' : Option Store) (old mid : Production) (stop : OrderStop) →
    ChangeSteps asked held (published_of old) held' (published_of mid) (Err (cycle_end.Stopped stop)) →
    HaltsProducer (CyclePuts (cycle_of_change asked)) held (Some old) held' (Err stop)
halts asked None held' old mid stop steps = λ beside. tt
halts asked (Some store) held' old mid stop steps = λ beside. steps

-- ---- the edited list is made

pub edit_made : (old : Production) (rows : Table) (asked : AskedChange) (put : List (ℕ × Tree)) (remove : Keys) (missing : ℕ) → AreLists old.schemas asked put remove → IsNextEdited old.schemas old.previous (records put) remove rows
    → CountsMissing old.schemas old.previous remove missing → IsEdit (published_of old) asked rows missing
edit_made old rows asked put remove missing lists next counts = ((remove, lists.0.keys, counts), lists_taken (published_of old) asked put remove rows lists next)

pub edit_full : (old : Production) (asked : AskedChange) (put : List (ℕ × Tree)) (remove : Keys) → IsModel old.schemas → HoldsOnce old.previous
    → ((rows : Table) → IsNextEdited old.schemas old.previous (records put) remove rows → ⊥) → AreLists old.schemas asked put remove
    → AreRefused (published_of old) (edited asked.put asked.remove) (refusal.TooLarge limit.Ordinals)
edit_full old asked put remove model once none lists =
    let (trees, is) = an_edited_list old.schemas old.previous (records put) remove model once in
    (trees, (records put, remove, lists.0, is), λ rows next. none rows (trees, is, next))

-- a closed cycle of the edited list
pub edited_closed : (old taken new : Production) (asked : AskedChange) (missing : ℕ) (closed : Closed) → taken ≡ record old { current = taken.current } → new ≡ record taken { closed = true; over = new.over }
    → IsEdit (published_of old) asked taken.current missing → AreChanged taken.previous taken.current closed.changed → (IsTrue closed.first ↔ (taken.version ≡ 0))
    → TellsCycle taken.schemas taken.previous taken.current taken.version closed.changed new.over
    → (IsToPublish taken.version closed.changed → AreMeasured taken.schemas taken.previous taken.current closed.measured) → length taken.previous ≡ length taken.schemas → length taken.current ≡ length taken.schemas
    → IsEditedState (published_of old) asked new (missing, closed)
edited_closed old taken new asked missing closed kept ok is are first over measured previous_types current_types =
    let before : length new.previous ≡ length new.schemas = subst (λ (p : Production). length p.previous ≡ length p.schemas) (sym ok) previous_types in
    let after : length new.current ≡ length new.schemas = subst (λ (p : Production). length p.current ≡ length p.schemas) (sym ok) current_types in
    (is.0, is_made old taken new (edited asked.put asked.remove) closed kept ok is.1 are first over measured before after)

-- what is ready for an open cycle is so for the closed one
module _ (old taken made : Production) (edits : Editing) (kept : taken ≡ record old { current = taken.current }) (ok : made ≡ record taken { closed = true; over = made.over }) where
  same_schemas : made.schemas ≡ old.schemas
  same_schemas = ap (λ (p : Production). p.schemas) ok ∙ ap (λ (p : Production). p.schemas) kept

  same_previous : made.previous ≡ old.previous
  same_previous = ap (λ (p : Production). p.previous) ok ∙ ap (λ (p : Production). p.previous) kept

  pub made_ready : AreReady made.schemas made.previous made.current edits → AreReady old.schemas old.previous made.current edits
  made_ready ready =
      subst (λ (schemas : List Schema). AreReady schemas old.previous made.current edits) same_schemas (subst (λ (rows : Table). AreReady made.schemas rows made.current edits) same_previous ready)

  pub closed_ready : AreReady old.schemas old.previous taken.current edits → AreReady made.schemas made.previous made.current edits
  closed_ready ready =
      subst (λ (schemas : List Schema). AreReady schemas made.previous made.current edits) (sym same_schemas)
      (subst (λ (rows : Table). AreReady old.schemas rows made.current edits) (sym same_previous)
      (subst (λ (rows : Table). AreReady old.schemas old.previous rows edits) (sym (ap (λ (p : Production). p.current) ok)) ready))

-- an end means the same whatever was to be made
pub same_end : {T U : Type 0} (Made : T → Type 0) (Other : U → Type 0) (Refuses : Refusal → Type 0) (Stops : OrderStop → Type 0) (end : CycleEnd) → TellsEnd {T = T} Made Refuses Stops (Err end) → TellsEnd {T = U} Other Refuses Stops (Err end)
same_end Made Other Refuses Stops (cycle_end.Refused why) told = told
same_end Made Other Refuses Stops (cycle_end.Stopped stop) told = told

module _ (asked : AskedChange) (held held' : Option Store) (last now : Published) where
  -- a change that stops before anything is put
  pub stops_early : (stop : OrderStop) → held' ≡ held → ChangeSteps asked held last held' now (Err (cycle_end.Stopped stop))
  stops_early stop same = over held same
    where
      over : (h : Option Store) → held' ≡ h → ChangeSteps asked h last held' now (Err (cycle_end.Stopped stop))
      over None same = tt
      over (Some store) same = (store, same, inl refl)

  -- a change whose lists are none, or that stops where they are read
  pub lists_err : {T : Type 0} (Made : T → Type 0) (end : CycleEnd) → held' ≡ held → Follows held last.version asked.version asked.tag (Ok tt) → TellsEnd {T = T} Made (IsNoChange last.model asked) IsMemory (Err end)
      → ChangeSteps asked held last held' now (Err end)
  lists_err Made (cycle_end.Refused why) same follows told = lists_end asked held held' last now why same follows told
  lists_err Made (cycle_end.Stopped stop) same follows told = stops_early stop same

  -- a change whose edited list makes no state
  pub edit_err : {T : Type 0} (Made : T → Type 0) (end : CycleEnd) → held' ≡ held → Follows held last.version asked.version asked.tag (Ok tt)
      → TellsEnd {T = T} Made (AreRefused last (edited asked.put asked.remove)) IsMemory (Err end) → ChangeSteps asked held last held' now (Err end)
  edit_err Made end same follows told =
      err_steps asked held held' last now end
      (records_end (cycle_of_change asked) held held' last now (λ (closed : Closed). ⊤) end same follows (same_end Made (λ (closed : Closed). ⊤) (AreRefused last (edited asked.put asked.remove)) IsMemory end told))

-- the edits that are kept for the state of a producer behind a change that did not publish
pub kept_err : (old new : Production) (edits : Editing) (end : CycleEnd) → AreEditsOf old.schemas old.previous edits → published_of new ≡ published_of old → AreKeptOver old new edits (Err end)
kept_err old new edits end are same = (are, ap (λ (p : Published). p.rows) same)

-- and behind an answer
kept_over : (old mid new : Production) (edits : Editing) (answer : Reply) (missing : ℕ) → AreReady old.schemas old.previous mid.current edits → mid.previous ≡ old.previous → KeepsRows mid new answer
    → AreKeptOver old new edits (Ok (change_reply answer missing))
kept_over old mid new edits (reply.Cycle names true version) missing ready same keeps = (ready.now, subst (λ (rows : Table). AreReady old.schemas old.previous rows edits) (sym keeps) ready)
kept_over old mid new edits (reply.Cycle names false version) missing ready same keeps = (ready.now, keeps ∙ same)
kept_over old mid new edits _ missing ready same keeps = absurd keeps

pub kept_ok : (old mid new : Production) (edits : Editing) (answer : Reply) (missing : ℕ) (told : Reply) → told ≡ change_reply answer missing → AreReady old.schemas old.previous mid.current edits → published_of mid ≡ published_of old
    → KeepsRows mid new answer → AreKeptOver old new edits (Ok told)
kept_ok old mid new edits answer missing told is ready same keeps =
    subst (λ (r : Reply). AreKeptOver old new edits (Ok r)) (sym is) (kept_over old mid new edits answer missing ready (ap (λ (p : Published). p.rows) same) keeps)

-- what holds in any case holds behind an answer
pub answered_too : (result : Result Reply CycleEnd) (P : Type 0) → P → OnOk result P
answered_too (Ok told) P holds = holds
answered_too (Err end) P holds = tt

-- something is ready where a state was published
pub readied : (old new : Production) (edits : Editing) (result : Result Reply CycleEnd) → AreKeptOver old new edits result → publishes result ≡ true → IsReadied edits
readied old new edits result over is =
    let ready : AreReady old.schemas old.previous new.previous edits = subst (IsReadyOver old new edits) is over.1 in
    record { counts = some_counts edits.next ready.counts; keys = all_reserved old.schemas new.previous edits.keys ready.keys }
  where
    some_counts : (next : Option Coming) → IsSomeAnd next (IsComing old.schemas old.previous new.previous) → IsSome next
    some_counts None is' = absurd is'
    some_counts (Some coming) is' = refl

pub ok_told : (asked : AskedChange) (held held' : Option Store) (last now : Published) (answer : Reply) (missing : ℕ) (told : Reply) → told ≡ change_reply answer missing → Misses last asked.remove missing
    → Steps (cycle_of_change asked) held last held' now (Ok answer) → ChangeSteps asked held last held' now (Ok told)
ok_told asked held held' last now answer missing told is misses steps =
    subst (λ (r : Reply). ChangeSteps asked held last held' now (Ok r)) (sym is) (ok_steps asked held held' last now answer missing misses steps)

-- what is kept beside a producer, and beside one that there may be
pub kept_for : (producer : Production) (edits : Option Editing) → IfSome edits (AreEditsOf producer.schemas producer.previous) → AreKeptFor (Some producer) edits
kept_for producer None are = tt
kept_for producer (Some edits) are = are

pub for_kept : (there : Option Production) (producer : Production) (edits : Option Editing) → there ≡ Some producer → AreKeptFor there edits → IfSome edits (AreEditsOf producer.schemas producer.previous)
for_kept there producer None is are = tt
for_kept there producer (Some edits) is are = subst (λ (o : Option Production). IsSomeAnd o (λ last. AreEditsOf last.schemas last.previous edits)) is are

-- each type has a key, and each record one of its own
pub given_keyed : (schemas : List Schema) (asked : AskedChange) (found : Option Refusal) → ((why : Refusal) → found ≡ Some why → ⊥) → TellsGiven schemas asked found → AreAllKeyed schemas asked
given_keyed schemas asked None not told = told
given_keyed schemas asked (Some why) not told = absurd (not why refl)

pub put_keyed : (schemas : List Schema) (asked : AskedChange) (puts : List (ℕ × PlainTree)) (found : Option Refusal) → ((why : Refusal) → found ≡ Some why → ⊥) → TellsKeyed schemas asked puts found → HaveKeys schemas puts × HaveOwnKeys schemas puts
put_keyed schemas asked puts None not told = told
put_keyed schemas asked puts (Some why) not told = absurd (not why refl)

-- Want of memory is no fault of the store.
pub memory_cause : {T U : Type 0} (Made : U → Type 0) (Refuses : Refusal → Type 0) (end : CycleEnd) (before now : ℕ) → before ≤ now → TellsEnd {T = U} Made Refuses IsMemory (Err end) → HasEndCause {T = T} before now (Err end)
memory_cause Made Refuses (cycle_end.Refused why) before now later told = record { later = later; failed = λ is. absurd cc }
memory_cause {T = T} Made Refuses (cycle_end.Stopped why) before now later told =
    record { later = later; failed = λ is. absurd (let other : ◌≡◌ {A = Result T CycleEnd} (Err (cycle_end.Stopped stop.Memory)) (Err (cycle_end.Stopped stop.Store)) = ap (λ (s : OrderStop). Err (cycle_end.Stopped s)) (sym told) ∙ is in cc) }
