-- What is known of a machine that is asked is known of the machine behind each line.
use Rattle.std.proofs.Common.{◌≡◌, ◌∙◌, ℕ, List, [], ◌∷◌, length, Bool, true, false, Option, None, Some, IfSome, inl, inr, sym, subst}
use Rattle.std.specs.Prelude.{IsSomeAnd}
use Rattle.std.specs.FinMap.{empty}
use Rattle.std.specs.Ordering.{nat_cmp}
use Rattle.std.proofs.lemmas.List.{length-map, length-replicate}
use Rattle.serde_json.specs.View.{view}
use Rattle.serde_json.specs.declared.value.Value.{Value}
use Rattle.hol_io.specs.declared.name.BlobName.{BlobName}
use Rattle.hol_io.specs.declared.name.BlobName.TheVariants.{Snapshot, Delta, Reverse, Announced}
use Rattle.hol_io.specs.Store.{HoldsBytes, Store, told}
use Rattle.blob_grammar.specs.Decided.{AreBytes}
use Rattle.schema_model.specs.declared.schema.name.Name.{Name}
use Rattle.schema_model.specs.declared.schema.Schema.{Schema}
use Rattle.schema_model.specs.Parts.{index_of_type}
use Rattle.row_model.specs.Table.{RowMap}
use Rattle.type_state.specs.State.{Half}
use Rattle.read_engine.specs.Indexes.{CountsKeyed, KeepsIndex, index_by}
use Rattle.read_engine.specs.Position.{Index, Position}
use Rattle.step_laws.specs.Typed.{HasTypes}
use Rattle.step_laws.proofs.Typing.{load_typed, step_typed}
use Rattle.schema_model.specs.declared.model.path.Path.{Path}
use Rattle.hol_orders.specs.declared.order.Order.{Order}
use Rattle.hol_orders.specs.declared.order.Order.TheVariants as order
use Rattle.hol_orders.specs.Parts.{AskedChange, asked_change, asked_state}
use Rattle.hol_answers.specs.declared.refusal.Refusal.{Refusal}
use Rattle.hol_answers.specs.declared.reply.Reply.{Reply}
use Rattle.hol_answers.specs.declared.reply.Reply.TheVariants as reply
use Rattle.state_blobs.specs.Published.{Published, new_producer}
use Rattle.byte_laws.specs.Bytes.{IsByteProducer}
use Rattle.byte_laws.proofs.LoadedRows.{loaded_bytes}
use Rattle.byte_laws.proofs.NextRows.{none_bytes}
use Rattle.byte_laws.proofs.ReadTexts.{loaded_texts}
use Rattle.byte_laws.proofs.Schemas.{model_are}
use Rattle.byte_laws.proofs.SeenRows.{view_bytes}
use Rattle.byte_laws.proofs.ValueTexts.{named_texts}
use Rattle.hollow_machine.specs.ChangeOrder.{ChangeStep, Misses}
use Rattle.hollow_machine.specs.CycleOrder.{CycleStep, SucceedsAfter}
use Rattle.hollow_machine.specs.GrowOrder.{GrowStep, GrowsOn, grown_producer}
use Rattle.hollow_machine.specs.HistoryOrders.{HistoryStep}
use Rattle.hollow_machine.specs.IndexOrder.{IndexStep}
use Rattle.hollow_machine.specs.KeyPaths.{AreKeyPaths, HasShape, IsObject}
use Rattle.hollow_machine.specs.LoadOrder.{LoadStep}
use Rattle.hollow_machine.specs.ModelOrder.{ModelStep}
use Rattle.hollow_machine.specs.PlanOrders.{Applies, Goes, GotoStep}
use Rattle.hollow_machine.specs.Records.{AskedCycle, asked_cycle, cycle_of_change}
use Rattle.hollow_machine.specs.RestoreOrder.{RestoreStep, producer_at}
use Rattle.hollow_machine.specs.Script.{LineStep}
use Rattle.hollow_machine.specs.State.{Machine, loaded_to, stepped_to, with_bound, with_consumer, with_producer}
use Rattle.hollow_machine.specs.Step.{Step}
use Rattle.hollow_machine.specs.StepOrder.{StepStep}
use Rattle.hollow_machine.specs.WalkOrders.{WalkIndexStep, WalksAlong}
use Rattle.answer_laws.specs.Answered.{HasRows, IsSound}
use Rattle.answer_laws.proofs.Storing.{line_bytes}
use Rattle.answer_laws.proofs.Cycling.{cycle_rows}
use Rattle.answer_laws.proofs.Growing.{grown_rows}
use Rattle.answer_laws.proofs.Putting.{IsByteAdding, line_puts_bytes, made_bytes}

-- Producer and consumer have what is known of them.
abbrev AreTyped : Machine → Type 0
AreTyped machine = IfSome machine.producer HasRows × IfSome machine.consumer HasTypes × IfSome machine.producer IsByteProducer

-- so it is of a machine that is another one
same_typed : (machine next : Machine) → AreTyped machine → next ≡ machine → AreTyped next
same_typed machine next typed is = subst AreTyped (sym is) typed

-- what a name holds are bytes
pub stored_bytes : (store : Store) (name : BlobName) (blob : List ℕ) → HoldsBytes store → told (Some store) name ≡ Some blob → AreBytes blob
stored_bytes store name blob held there = subst (λ (content : Option (List ℕ)). IfSome content AreBytes) there (held name)

-- ---- the orders

new_rows : (schemas : List Schema) → HasRows (new_producer schemas)
new_rows schemas = length-replicate {A = RowMap} (length schemas) (empty {R = nat_cmp})

model_typed : (machine next : Machine) → AreTyped machine → (value : Value) (answer : Reply) → ModelStep machine (view value) answer next → AreTyped next
model_typed machine next typed value (reply.Model types) (schemas, none, stands, is, count, next_is) =
    same_typed (with_producer machine (Some (new_producer schemas))) next (new_rows schemas, typed.1, record { model = model_are schemas is (named_texts value schemas stands); rows = none_bytes (length schemas) }) next_is
model_typed machine next typed value (reply.Refused refusal) is = same_typed machine next typed is.1
model_typed machine next typed value _ is = absurd is

grown_typed : (machine next : Machine) → AreTyped machine → (value : Value) (types : ℕ) (found : Option Published) → IfSome found IsByteProducer → IsSomeAnd found (GrowsOn machine (view value) types next) → AreTyped next
grown_typed machine next typed value types None bytes is = absurd is
grown_typed machine next typed value types (Some last) bytes (schemas, stands, model, grows, count, next_is) =
    same_typed (with_producer machine (Some (grown_producer schemas last))) next
    (grown_rows schemas last, typed.1, record { model = model_are schemas model (named_texts value schemas stands); rows = view_bytes last.model last.rows bytes.rows schemas }) next_is

grow_typed : (machine next : Machine) → AreTyped machine → (value : Value) (answer : Reply) → GrowStep machine (view value) answer next → AreTyped next
grow_typed machine next typed value (reply.Grow types) is = grown_typed machine next typed value types machine.producer typed.2 is
grow_typed machine next typed value (reply.Refused refusal) is = same_typed machine next typed is.1
grow_typed machine next typed value _ is = absurd is

restored_rows : (position : Position) (version : ℕ) → HasTypes position → HasRows (producer_at position version)
restored_rows position version typed = length-map position.halves (λ (h : Half). h.rows) ∙ typed.types

restore_typed : (machine next : Machine) → HoldsBytes machine.store → AreTyped machine → (version : ℕ) (answer : Reply) → RestoreStep machine version answer next → AreTyped next
restore_typed machine next held typed version (reply.Restore tag restored) (same, last, (position, (blob, there, loads), once, tag_is, next_is)) =
    let known = load_typed blob position loads in
    let are = stored_bytes machine.store (Snapshot version) blob held there in
    same_typed (with_producer machine (Some (producer_at position version))) next (
      restored_rows position version known,
      typed.1,
      record {
        model = model_are position.schemas known.model (loaded_texts blob loads.0 position.schemas position.halves loads.1);
        rows = loaded_bytes blob loads.0 position.schemas position.halves are loads.1;
      },
    ) next_is
restore_typed machine next held typed version (reply.Refused refusal) is = same_typed machine next typed is.1
restore_typed machine next held typed version _ is = absurd is

load_leaves_typed : (machine next : Machine) → AreTyped machine → (version : ℕ) (answer : Reply) → LoadStep machine version answer next → AreTyped next
load_leaves_typed machine next typed version (reply.Load tag) (blob, position, at, loads, tag_is, next_is) =
    same_typed (loaded_to machine version position) next (typed.0, load_typed blob position loads, typed.2) next_is
load_leaves_typed machine next typed version (reply.Refused refusal) is = same_typed machine next typed is.1
load_leaves_typed machine next typed version _ is = absurd is

module _ (machine next : Machine) (typed : AreTyped machine) where
  -- of what stands in the machine, what is known of it, and what it leads to
  of_consumer : (found : Option Position) → IfSome found HasTypes → (P : Position → Type 0) → IsSomeAnd found P → ((now : Position) → HasTypes now → P now → AreTyped next) → AreTyped next
  of_consumer None known P is gives = absurd is
  of_consumer (Some now) known P is gives = gives now known is

  step_leaves_typed : (name : BlobName) (version : ℕ) (answer : Reply) → StepStep machine name version answer next → AreTyped next
  step_leaves_typed name version (reply.Step tag) is = of_consumer machine.consumer typed.1 _ is (λ now known moved.
      same_typed (stepped_to machine version moved.1) next (typed.0, step_typed moved.0 now moved.1 known moved.3, typed.2) moved.5)
  step_leaves_typed name version (reply.Refused refusal) is = same_typed machine next typed is.1
  step_leaves_typed name version _ is = absurd is

  -- the consumer keeps the index of a type
  abbrev KeepsAt : List (List ℕ) → ℕ → Position → ℕ → Type 0
  KeepsAt texts keys now t =
      HasShape IsObject now.schemas t
      × ((paths : List Path) × AreKeyPaths now.schemas t texts paths × CountsKeyed now (index_by t paths) keys
      × ((after : List Index) × KeepsIndex now.indexes (index_by t paths) after × (next ≡ with_consumer machine (Some (record now { indexes = after })))))

  kept_typed : (texts : List (List ℕ)) (keys : ℕ) (now : Position) → HasTypes now → (t : ℕ) → KeepsAt texts keys now t → AreTyped next
  kept_typed texts keys now known t (shape, (paths, are, counts, (after, keeps, next_is))) =
      same_typed (with_consumer machine (Some (record now { indexes = after }))) next (typed.0, record { model = known.model; types = known.types }, typed.2) next_is

  of_index : (found : Option ℕ) (P : ℕ → Type 0) → IsSomeAnd found P → ((t : ℕ) → P t → AreTyped next) → AreTyped next
  of_index None P is gives = absurd is
  of_index (Some t) P is gives = gives t is

  index_typed : (name : Name) (texts : List (List ℕ)) (answer : Reply) → IndexStep machine name texts answer next → AreTyped next
  index_typed name texts (reply.Index keys) is = of_consumer machine.consumer typed.1 _ is (λ now known of_type.
      of_index (index_of_type now.schemas name) (KeepsAt texts keys now) of_type (λ t kept. kept_typed texts keys now known t kept))
  index_typed name texts (reply.Refused refusal) is = same_typed machine next typed is.1
  index_typed name texts _ is = absurd is

  walk_typed : (text : List ℕ) (keys : ℕ) (now : Position) → HasTypes now → (t : ℕ) → WalksAlong machine text now t keys next → AreTyped next
  walk_typed text keys now known t along = same_typed (with_consumer machine (Some (record now { walks = along.after }))) next (typed.0, record { model = known.model; types = known.types }, typed.2) along.is

  walkindex_typed : (name : Name) (text : List ℕ) (answer : Reply) → WalkIndexStep machine name text answer next → AreTyped next
  walkindex_typed name text (reply.WalkIndex keys) is = of_consumer machine.consumer typed.1 _ is (λ now known of_type.
      of_index (index_of_type now.schemas name) (λ t. WalksAlong machine text now t keys next) of_type (λ t along. walk_typed text keys now known t along))
  walkindex_typed name text (reply.Refused refusal) is = same_typed machine next typed is.1
  walkindex_typed name text _ is = absurd is

  applied_typed : (name : BlobName) (answer : Reply) → Applies machine name answer next → AreTyped next
  applied_typed (Snapshot version) answer is = load_leaves_typed machine next typed version answer is
  applied_typed (Delta from to) answer is = step_leaves_typed (Delta from to) to answer is
  applied_typed (Reverse from to) answer is = step_leaves_typed (Reverse from to) to answer is
  applied_typed Announced answer is = absurd is

  history_typed : (bound : ℕ) (answer : Reply) → HistoryStep machine bound answer next → AreTyped next
  history_typed bound (reply.History kept) is = same_typed (with_bound machine bound) next typed is.1
  history_typed bound _ is = absurd is

gone_typed : (names : List BlobName) (machine next : Machine) → AreTyped machine → (applied : ℕ) (refused : Option Refusal) → Goes machine names applied refused next → AreTyped next
gone_typed [] machine next typed applied refused is = same_typed machine next typed is.2
gone_typed (name ∷ names) machine next typed applied refused (inl (refusal, applies, none, why)) = applied_typed machine next typed name (reply.Refused refusal) applies
gone_typed (name ∷ names) machine next typed applied refused (inr (answer, between, behind, applies, taken, count, goes)) =
    gone_typed names between next (applied_typed machine between typed name answer applies) behind refused goes

goto_typed : (machine next : Machine) → AreTyped machine → (wanted : ℕ) (answer : Reply) → GotoStep machine wanted answer next → AreTyped next
goto_typed machine next typed wanted (reply.Goto progress) (plan, is_plan, count, goes, tag) = gone_typed plan machine next typed progress.applied progress.refused goes
goto_typed machine next typed wanted (reply.Refused refusal) is = same_typed machine next typed is.1
goto_typed machine next typed wanted _ is = absurd is

-- ---- a cycle

succeeds_typed : (machine next : Machine) → AreTyped machine → (last : Published) → IsByteProducer last → (asked : AskedCycle) → IsByteAdding asked.add → (names : List (List ℕ)) (published : Bool) → SucceedsAfter machine last asked names published next → AreTyped next
succeeds_typed machine next typed last bytes asked adding names false (follows, (trees, gives, (rows, changed, makes, named, leaves))) = same_typed machine next typed leaves.2
succeeds_typed machine next typed last bytes asked adding names true (follows, (trees, gives, (rows, changed, makes, named, leaves))) =
    subst AreTyped (sym leaves.2.3) (cycle_rows last trees rows changed makes, typed.1, record { model = bytes.model; rows = made_bytes last bytes asked adding trees gives rows changed makes })

of_producer : (machine next : Machine) → AreTyped machine → (found : Option Published) → IfSome found IsByteProducer → (asked : AskedCycle) → IsByteAdding asked.add → (names : List (List ℕ)) (published : Bool)
    → IsSomeAnd found (λ last. SucceedsAfter machine last asked names published next) → AreTyped next
of_producer machine next typed None bytes asked adding names published is = absurd is
of_producer machine next typed (Some last) bytes asked adding names published is = succeeds_typed machine next typed last bytes asked adding names published is

cycle_typed : (machine next : Machine) → AreTyped machine → (asked : AskedCycle) → IsByteAdding asked.add → (answer : Reply) → CycleStep machine asked answer next → AreTyped next
cycle_typed machine next typed asked adding (reply.Cycle names published version) is = of_producer machine next typed machine.producer typed.2 asked adding names published is.1
cycle_typed machine next typed asked adding (reply.Refused refusal) is = same_typed machine next typed is.1
cycle_typed machine next typed asked adding _ is = absurd is

-- ---- a change

change_typed : (machine next : Machine) → AreTyped machine → (asked : AskedChange) → (answer : Reply) → ChangeStep machine asked answer next → AreTyped next
change_typed machine next typed asked (reply.Change change) is = of_last machine.producer typed.2 is.1
  where
    of_last : (found : Option Published) → IfSome found IsByteProducer
        → IsSomeAnd found (λ last. Misses last asked.remove change.missing × SucceedsAfter machine last (cycle_of_change asked) change.changed change.published next) → AreTyped next
    of_last None bytes is = absurd is
    of_last (Some last) bytes is = succeeds_typed machine next typed last bytes (cycle_of_change asked) tt change.changed change.published is.1
change_typed machine next typed asked (reply.Refused refusal) is = same_typed machine next typed is.1
change_typed machine next typed asked _ is = absurd is

-- ---- lines

order_typed : (asked : Order) (machine next : Machine) → HoldsBytes machine.store → AreTyped machine → (answer : Reply) → Step machine asked answer next → AreTyped next
order_typed (order.Cycle next_state) machine next held typed answer is = cycle_typed machine next typed (asked_cycle (asked_state next_state)) tt answer is
order_typed (order.Change change) machine next held typed answer is = change_typed machine next typed (asked_change change) answer is
order_typed (order.Model schemas) machine next held typed answer is = model_typed machine next typed schemas answer is
order_typed (order.Grow schemas) machine next held typed answer is = grow_typed machine next typed schemas answer is
order_typed (order.Restore version) machine next held typed answer is = restore_typed machine next held typed version answer is
order_typed (order.Load version) machine next held typed answer is = load_leaves_typed machine next typed version answer is
order_typed (order.Step from to) machine next held typed answer is = step_leaves_typed machine next typed _ to answer is
order_typed (order.Index name paths) machine next held typed answer is = index_typed machine next typed name _ answer is
order_typed (order.WalkIndex name path) machine next held typed answer is = walkindex_typed machine next typed name path answer is
order_typed (order.Goto version) machine next held typed answer is = goto_typed machine next typed version answer is
order_typed (order.History bound) machine next held typed answer is = history_typed machine next typed bound answer is
order_typed _ machine next held typed answer is = same_typed machine next typed is.1

line_typed : (machine next : Machine) → HoldsBytes machine.store → AreTyped machine → (line : List ℕ) (answer : Reply) → LineStep machine line answer next → AreTyped next
line_typed machine next held typed line answer (inl long) = same_typed machine next typed long.1.1
line_typed machine next held typed line answer (inr (short, inl none)) = same_typed machine next typed none.1.1
line_typed machine next held typed line answer (inr (short, inr (asked, orders, step))) = order_typed asked machine next held typed answer step

-- the machine behind a line is sound
pub line_keeps : (machine next : Machine) (line : List ℕ) (answer : Reply) → IsSound machine → LineStep machine line answer next → IsSound next
line_keeps machine next line answer sound step =
    let typed = line_typed machine next sound.bytes (sound.producer, sound.consumer, sound.spelled) line answer step in
    record { bytes = line_bytes machine next line answer sound.bytes (line_puts_bytes machine line sound.spelled) step; producer = typed.0; spelled = typed.2; consumer = typed.1 }
