-- What holds of the tables that blobs of bytes are loaded as, and is kept by steps along such blobs, holds of the tables of a machine behind each line.
use Rattle.std.proofs.Common.{◌≡◌, ℕ, List, [], ◌∷◌, Bool, true, false, Option, None, Some, IfSome, inl, inr, refl, sym, subst}
use Rattle.std.specs.Prelude.{All, IsSomeAnd}
use Rattle.std.proofs.lemmas.List.Elements.{All-cons, All-nil, All-take}
use Rattle.serde_json.specs.Data.{Data}
use Rattle.hol_io.specs.declared.name.BlobName.{BlobName}
use Rattle.hol_io.specs.declared.name.BlobName.TheVariants.{Snapshot, Delta, Reverse, Announced}
use Rattle.hol_io.specs.Store.{HoldsBytes}
use Rattle.blob_grammar.specs.Decided.{AreBytes}
use Rattle.schema_model.specs.declared.model.path.Path.{Path}
use Rattle.schema_model.specs.declared.schema.name.Name.{Name}
use Rattle.schema_model.specs.declared.schema.Schema.{Schema}
use Rattle.schema_model.specs.Parts.{index_of_type}
use Rattle.row_model.specs.Table.{Table}
use Rattle.read_engine.specs.Indexes.{CountsKeyed, KeepsIndex, index_by}
use Rattle.read_engine.specs.Position.{Index, Position, rows_now}
use Rattle.read_engine.specs.Taking.{LoadsFrom, StepsBy}
use Rattle.hol_orders.specs.declared.order.Order.{Order}
use Rattle.hol_orders.specs.declared.order.Order.TheVariants as order
use Rattle.hol_orders.specs.Parts.{AskedChange, asked_change, asked_state}
use Rattle.hol_answers.specs.declared.refusal.Refusal.{Refusal}
use Rattle.hol_answers.specs.declared.reply.Reply.{Reply}
use Rattle.hol_answers.specs.declared.reply.Reply.TheVariants as reply
use Rattle.state_blobs.specs.Published.{Published, new_producer}
use Rattle.hollow_machine.specs.ChangeOrder.{ChangeStep, Misses}
use Rattle.hollow_machine.specs.CycleOrder.{CycleStep, SucceedsAfter}
use Rattle.hollow_machine.specs.GrowOrder.{GrowStep, GrowsOn, grown_producer}
use Rattle.hollow_machine.specs.HistoryOrders.{HistoryStep}
use Rattle.hollow_machine.specs.IndexOrder.{IndexStep}
use Rattle.hollow_machine.specs.KeyPaths.{AreKeyPaths, HasShape, IsObject}
use Rattle.hollow_machine.specs.LoadOrder.{LoadStep}
use Rattle.hollow_machine.specs.ModelOrder.{ModelStep}
use Rattle.hollow_machine.specs.PlanOrders.{Applies, Goes, GotoStep}
use Rattle.hollow_machine.specs.Records.{AskedCycle, asked_cycle, cycle_of_change}
use Rattle.hollow_machine.specs.RestoreOrder.{RestoreStep, producer_at}
use Rattle.hollow_machine.specs.Script.{LineStep}
use Rattle.hollow_machine.specs.State.{Machine, loaded_to, past_behind, stepped_to, with_bound, with_consumer, with_producer}
use Rattle.hollow_machine.specs.Step.{Step}
use Rattle.hollow_machine.specs.StepOrder.{StepStep}
use Rattle.hollow_machine.specs.WalkOrders.{WalkIndexStep, WalksAlong}
use Rattle.answer_laws.specs.Ranges.{HoldsOfStates, HoldsOfTables}
use Rattle.answer_laws.proofs.Keeping.{stored_bytes}

module _ (P : List Schema → Table → Type 0) (loads : (blob : List ℕ) (position : Position) → AreBytes blob → LoadsFrom blob position → P position.schemas (rows_now position))
    (steps : (blob : List ℕ) (from to : Position) → AreBytes blob → StepsBy blob from to → P from.schemas (rows_now from) → P from.schemas (rows_now to)) where
  -- the store is one of bytes, and it holds of the tables
  abbrev Known : Machine → Type 0
  Known machine = HoldsBytes machine.store × HoldsOfTables P machine

  same_known : (machine next : Machine) → Known machine → next ≡ machine → Known next
  same_known machine next known is = subst Known (sym is) known

  same_holds : (machine next : Machine) → HoldsOfTables P machine → next ≡ machine → HoldsOfTables P next
  same_holds machine next holds is = subst (HoldsOfTables P) (sym is) holds

  -- ---- the orders of a consumer

  load_known : (machine next : Machine) → Known machine → (version : ℕ) (answer : Reply) → LoadStep machine version answer next → Known next
  load_known machine next known version (reply.Load tag) (blob, position, at, from, tag_is, next_is) =
      let now = loads blob position (stored_bytes machine.store (Snapshot version) blob known.0 at) from in
      same_known (loaded_to machine version position) next
      (known.0, record { current = now; before = subst (P position.schemas) (sym from.3) now; older = All-nil (λ (pair : ℕ × Table). P position.schemas pair.1) }) next_is
  load_known machine next known version (reply.Refused refusal) is = same_known machine next known is.1
  load_known machine next known version _ is = absurd is

  -- what is kept of older states behind a step
  behind_holds : (bound : ℕ) (now : Position) (version : Option ℕ) (past : List (ℕ × Table)) → HoldsOfStates P now past → All (λ pair. P now.schemas pair.1) (past_behind bound (Some now) version past)
  behind_holds bound now None past holds = holds.older
  behind_holds bound now (Some version) past holds =
      All-take (λ (pair : ℕ × Table). P now.schemas pair.1) bound ((version, rows_now now) ∷ past) (All-cons (λ (pair : ℕ × Table). P now.schemas pair.1) (version, rows_now now) past holds.current holds.older)

  -- a step from where the consumer stands
  stepped_holds : (machine : Machine) (blob : List ℕ) (now to : Position) (number : ℕ) → AreBytes blob → StepsBy blob now to → HoldsOfStates P now machine.past
      → HoldsOfStates P to (past_behind machine.bound (Some now) machine.version machine.past)
  stepped_holds machine blob now to number are by holds = record {
    current = subst (λ (schemas : List Schema). P schemas (rows_now to)) (sym by.model) (steps blob now to are by holds.current);
    before = subst (λ (schemas : List Schema). P schemas to.before) (sym by.model) (subst (P now.schemas) (sym by.before) holds.current);
    older = subst (λ (schemas : List Schema). All (λ (pair : ℕ × Table). P schemas pair.1) (past_behind machine.bound (Some now) machine.version machine.past)) (sym by.model)
        (behind_holds machine.bound now machine.version machine.past holds);
  }

  module _ (machine next : Machine) (known : Known machine) where
    -- of where the consumer stands, what is known of it, and what it leads to
    of_consumer : (found : Option Position) → machine.consumer ≡ found → IfSome found (λ now. HoldsOfStates P now machine.past) → (Q : Position → Type 0) → IsSomeAnd found Q
        → ((now : Position) → machine.consumer ≡ Some now → HoldsOfStates P now machine.past → Q now → Known next) → Known next
    of_consumer None at holds Q is gives = absurd is
    of_consumer (Some now) at holds Q is gives = gives now at holds is

    step_known : (name : BlobName) (version : ℕ) (answer : Reply) → StepStep machine name version answer next → Known next
    step_known name version (reply.Step tag) is = of_consumer machine.consumer refl known.1 _ is (λ now at holds moved.
        (let are = stored_bytes machine.store name moved.0 known.0 moved.2 in
        let there = stepped_holds machine moved.0 now moved.1 version are moved.3 holds in
        let past = subst (λ (consumer : Option Position). HoldsOfStates P moved.1 (past_behind machine.bound consumer machine.version machine.past)) (sym at) there in
        same_known (stepped_to machine version moved.1) next (known.0, past) moved.5))
    step_known name version (reply.Refused refusal) is = same_known machine next known is.1
    step_known name version _ is = absurd is

    -- the consumer keeps the index of a type
    abbrev KeepsAt : List (List ℕ) → ℕ → Position → ℕ → Type 0
    KeepsAt texts keys now t =
        HasShape IsObject now.schemas t
        × ((paths : List Path) × AreKeyPaths now.schemas t texts paths × CountsKeyed now (index_by t paths) keys
        × ((after : List Index) × KeepsIndex now.indexes (index_by t paths) after × (next ≡ with_consumer machine (Some (record now { indexes = after })))))

    of_index : (found : Option ℕ) (Q : ℕ → Type 0) → IsSomeAnd found Q → ((t : ℕ) → Q t → Known next) → Known next
    of_index None Q is gives = absurd is
    of_index (Some t) Q is gives = gives t is

    kept_known : (texts : List (List ℕ)) (keys : ℕ) (now : Position) → HoldsOfStates P now machine.past → (t : ℕ) → KeepsAt texts keys now t → Known next
    kept_known texts keys now holds t (shape, (paths, are, counts, (after, keeps, next_is))) =
        same_known (with_consumer machine (Some (record now { indexes = after }))) next (known.0, record { current = holds.current; before = holds.before; older = holds.older }) next_is

    index_known : (name : Name) (texts : List (List ℕ)) (answer : Reply) → IndexStep machine name texts answer next → Known next
    index_known name texts (reply.Index keys) is = of_consumer machine.consumer refl known.1 _ is (λ now at holds of_type.
        of_index (index_of_type now.schemas name) (KeepsAt texts keys now) of_type (λ t kept. kept_known texts keys now holds t kept))
    index_known name texts (reply.Refused refusal) is = same_known machine next known is.1
    index_known name texts _ is = absurd is

    -- it keeps the walk index of a type
    walk_known : (text : List ℕ) (keys : ℕ) (now : Position) → HoldsOfStates P now machine.past → (t : ℕ) → WalksAlong machine text now t keys next → Known next
    walk_known text keys now holds t along =
        same_known (with_consumer machine (Some (record now { walks = along.after }))) next (known.0, record { current = holds.current; before = holds.before; older = holds.older }) along.is

    walkindex_known : (name : Name) (text : List ℕ) (answer : Reply) → WalkIndexStep machine name text answer next → Known next
    walkindex_known name text (reply.WalkIndex keys) is = of_consumer machine.consumer refl known.1 _ is (λ now at holds of_type.
        of_index (index_of_type now.schemas name) (λ t. WalksAlong machine text now t keys next) of_type (λ t along. walk_known text keys now holds t along))
    walkindex_known name text (reply.Refused refusal) is = same_known machine next known is.1
    walkindex_known name text _ is = absurd is

    applied_known : (name : BlobName) (answer : Reply) → Applies machine name answer next → Known next
    applied_known (Snapshot version) answer is = load_known machine next known version answer is
    applied_known (Delta from to) answer is = step_known (Delta from to) to answer is
    applied_known (Reverse from to) answer is = step_known (Reverse from to) to answer is
    applied_known Announced answer is = absurd is

  -- no older states are kept of a machine that is told how many it is to keep
  bounded_holds : (consumer : Option Position) (past : List (ℕ × Table)) → IfSome consumer (λ now. HoldsOfStates P now past) → IfSome consumer (λ now. HoldsOfStates P now [])
  bounded_holds None past holds = tt
  bounded_holds (Some now) past holds = record { current = holds.current; before = holds.before; older = All-nil (λ (pair : ℕ × Table). P now.schemas pair.1) }

  history_known : (machine next : Machine) → Known machine → (bound : ℕ) (answer : Reply) → HistoryStep machine bound answer next → Known next
  history_known machine next known bound (reply.History kept) is = same_known (with_bound machine bound) next (known.0, bounded_holds machine.consumer machine.past known.1) is.1
  history_known machine next known bound _ is = absurd is

  gone_known : (names : List BlobName) (machine next : Machine) → Known machine → (applied : ℕ) (refused : Option Refusal) → Goes machine names applied refused next → Known next
  gone_known [] machine next known applied refused is = same_known machine next known is.2
  gone_known (name ∷ names) machine next known applied refused (inl (refusal, applies, none, why)) = applied_known machine next known name (reply.Refused refusal) applies
  gone_known (name ∷ names) machine next known applied refused (inr (answer, between, behind, applies, taken, count, goes)) =
      gone_known names between next (applied_known machine between known name answer applies) behind refused goes

  goto_known : (machine next : Machine) → Known machine → (wanted : ℕ) (answer : Reply) → GotoStep machine wanted answer next → Known next
  goto_known machine next known wanted (reply.Goto progress) (plan, is_plan, count, goes, tag) = gone_known plan machine next known progress.applied progress.refused goes
  goto_known machine next known wanted (reply.Refused refusal) is = same_known machine next known is.1
  goto_known machine next known wanted _ is = absurd is

  -- ---- the orders of a producer

  model_holds : (machine next : Machine) → HoldsOfTables P machine → (value : Data) (answer : Reply) → ModelStep machine value answer next → HoldsOfTables P next
  model_holds machine next holds value (reply.Model types) (schemas, none, stands, is, count, next_is) = same_holds (with_producer machine (Some (new_producer schemas))) next holds next_is
  model_holds machine next holds value (reply.Refused refusal) is = same_holds machine next holds is.1
  model_holds machine next holds value _ is = absurd is

  grown_holds : (machine next : Machine) → HoldsOfTables P machine → (value : Data) (types : ℕ) (found : Option Published) → IsSomeAnd found (GrowsOn machine value types next) → HoldsOfTables P next
  grown_holds machine next holds value types None is = absurd is
  grown_holds machine next holds value types (Some last) (schemas, stands, model, grows, count, next_is) = same_holds (with_producer machine (Some (grown_producer schemas last))) next holds next_is

  grow_holds : (machine next : Machine) → HoldsOfTables P machine → (value : Data) (answer : Reply) → GrowStep machine value answer next → HoldsOfTables P next
  grow_holds machine next holds value (reply.Grow types) is = grown_holds machine next holds value types machine.producer is
  grow_holds machine next holds value (reply.Refused refusal) is = same_holds machine next holds is.1
  grow_holds machine next holds value _ is = absurd is

  restore_holds : (machine next : Machine) → HoldsOfTables P machine → (version : ℕ) (answer : Reply) → RestoreStep machine version answer next → HoldsOfTables P next
  restore_holds machine next holds version (reply.Restore tag restored) (same, last, (position, stored, once, tag_is, next_is)) =
      same_holds (with_producer machine (Some (producer_at position version))) next holds next_is
  restore_holds machine next holds version (reply.Refused refusal) is = same_holds machine next holds is.1
  restore_holds machine next holds version _ is = absurd is

  succeeds_holds : (machine next : Machine) → HoldsOfTables P machine → (last : Published) (asked : AskedCycle) (names : List (List ℕ)) (published : Bool) → SucceedsAfter machine last asked names published next
      → HoldsOfTables P next
  succeeds_holds machine next holds last asked names false (follows, (trees, gives, (rows, changed, makes, named, leaves))) = same_holds machine next holds leaves.2
  succeeds_holds machine next holds last asked names true (follows, (trees, gives, (rows, changed, makes, named, leaves))) = subst (HoldsOfTables P) (sym leaves.2.3) holds

  of_producer : (machine next : Machine) → HoldsOfTables P machine → (found : Option Published) (asked : AskedCycle) (names : List (List ℕ)) (published : Bool)
      → IsSomeAnd found (λ last. SucceedsAfter machine last asked names published next) → HoldsOfTables P next
  of_producer machine next holds None asked names published is = absurd is
  of_producer machine next holds (Some last) asked names published is = succeeds_holds machine next holds last asked names published is

  cycle_holds : (machine next : Machine) → HoldsOfTables P machine → (asked : AskedCycle) (answer : Reply) → CycleStep machine asked answer next → HoldsOfTables P next
  cycle_holds machine next holds asked (reply.Cycle names published version) is = of_producer machine next holds machine.producer asked names published is.1
  cycle_holds machine next holds asked (reply.Refused refusal) is = same_holds machine next holds is.1
  cycle_holds machine next holds asked _ is = absurd is

  change_holds : (machine next : Machine) → HoldsOfTables P machine → (asked : AskedChange) (answer : Reply) → ChangeStep machine asked answer next → HoldsOfTables P next
  change_holds machine next holds asked (reply.Change change) is = of_last machine.producer is.1
    where
      of_last : (found : Option Published) → IsSomeAnd found (λ last. Misses last asked.remove change.missing × SucceedsAfter machine last (cycle_of_change asked) change.changed change.published next) → HoldsOfTables P next
      of_last None is = absurd is
      of_last (Some last) is = succeeds_holds machine next holds last (cycle_of_change asked) change.changed change.published is.1
  change_holds machine next holds asked (reply.Refused refusal) is = same_holds machine next holds is.1
  change_holds machine next holds asked _ is = absurd is

  -- ---- lines

  order_holds : (asked : Order) (machine next : Machine) → Known machine → (answer : Reply) → Step machine asked answer next → HoldsOfTables P next
  order_holds (order.Cycle next_state) machine next known answer is = cycle_holds machine next known.1 (asked_cycle (asked_state next_state)) answer is
  order_holds (order.Change change) machine next known answer is = change_holds machine next known.1 (asked_change change) answer is
  order_holds (order.Model schemas) machine next known answer is = model_holds machine next known.1 _ answer is
  order_holds (order.Grow schemas) machine next known answer is = grow_holds machine next known.1 _ answer is
  order_holds (order.Restore version) machine next known answer is = restore_holds machine next known.1 version answer is
  order_holds (order.Load version) machine next known answer is = (load_known machine next known version answer is).1
  order_holds (order.Step from to) machine next known answer is = (step_known machine next known _ to answer is).1
  order_holds (order.Index name paths) machine next known answer is = (index_known machine next known name _ answer is).1
  order_holds (order.WalkIndex name path) machine next known answer is = (walkindex_known machine next known name path answer is).1
  order_holds (order.Goto version) machine next known answer is = (goto_known machine next known version answer is).1
  order_holds (order.History bound) machine next known answer is = (history_known machine next known bound answer is).1
  order_holds _ machine next known answer is = same_holds machine next known.1 is.1

  pub line_holds : (machine next : Machine) (line : List ℕ) (answer : Reply) → HoldsBytes machine.store → HoldsOfTables P machine → LineStep machine line answer next → HoldsOfTables P next
  line_holds machine next line answer bytes holds (inl long) = same_holds machine next holds long.1.1
  line_holds machine next line answer bytes holds (inr (short, inl none)) = same_holds machine next holds none.1.1
  line_holds machine next line answer bytes holds (inr (short, inr (asked, orders, step))) = order_holds asked machine next (bytes, holds) answer step
