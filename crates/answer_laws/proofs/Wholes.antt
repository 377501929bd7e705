-- The tables of a machine are closed tables of the consumer's model behind each line.
use Rattle.std.proofs.Common.{◌≡◌, ℕ, ℤ, List, [], ◌∷◌, true, false, Bool, Option, None, Some, IfSome, inl, inr, refl, sym, subst, lit≤}
use Rattle.std.specs.Prelude.{All, IsSomeAnd}
use Rattle.std.proofs.lemmas.List.Elements.{All-cons, All-nil, All-take}
use Rattle.serde_json.specs.Data.{Data}
use Rattle.hol_io.specs.declared.name.BlobName.{BlobName}
use Rattle.hol_io.specs.declared.name.BlobName.TheVariants.{Snapshot, Delta, Reverse, Announced}
use Rattle.hol_io.specs.Store.{told}
use Rattle.schema_model.specs.declared.model.path.Path.{Path}
use Rattle.schema_model.specs.declared.schema.name.Name.{Name}
use Rattle.schema_model.specs.declared.schema.Schema.{Schema}
use Rattle.schema_model.specs.Parts.{index_of_type}
use Rattle.row_model.specs.Table.{Table}
use Rattle.read_engine.specs.Indexes.{CountsKeyed, KeepsIndex, index_by}
use Rattle.read_engine.specs.Position.{Index, IsIndexOf, IsPosition, IsWalkOf, Position, rows_now}
use Rattle.read_engine.specs.Taking.{StepsBy}
use Rattle.step_laws.proofs.Positions.{load_position, step_position}
use Rattle.hol_orders.specs.declared.order.Order.{Order}
use Rattle.hol_orders.specs.declared.order.Order.TheVariants as order
use Rattle.hol_orders.specs.Parts.{AskedChange, asked_change, asked_state}
use Rattle.hol_answers.specs.declared.refusal.Refusal.{Refusal}
use Rattle.hol_answers.specs.declared.reply.Reply.{Reply}
use Rattle.hol_answers.specs.declared.reply.Reply.TheVariants as reply
use Rattle.state_blobs.specs.Published.{Published, new_producer}
use Rattle.hollow_machine.specs.ChangeOrder.{ChangeStep, Misses}
use Rattle.hollow_machine.specs.CycleOrder.{CycleStep, SucceedsAfter}
use Rattle.hollow_machine.specs.GrowOrder.{GrowStep, GrowsOn, grown_producer}
use Rattle.hollow_machine.specs.HistoryOrders.{HistoryStep}
use Rattle.hollow_machine.specs.IndexOrder.{IndexStep}
use Rattle.hollow_machine.specs.KeyPaths.{AreKeyPaths, HasShape, IsObject}
use Rattle.hollow_machine.specs.LoadOrder.{LoadStep}
use Rattle.hollow_machine.specs.ModelOrder.{ModelStep}
use Rattle.hollow_machine.specs.PlanOrders.{Applies, Goes, GotoStep}
use Rattle.hollow_machine.specs.Records.{AskedCycle, asked_cycle, cycle_of_change}
use Rattle.hollow_machine.specs.RestoreOrder.{RestoreStep, producer_at}
use Rattle.hollow_machine.specs.Script.{LineStep}
use Rattle.hollow_machine.specs.State.{Machine, loaded_to, past_behind, stepped_to, with_bound, with_consumer, with_producer}
use Rattle.hollow_machine.specs.Step.{Step}
use Rattle.hollow_machine.specs.StepOrder.{StepStep}
use Rattle.hollow_machine.specs.WalkOrders.{WalkIndexStep, WalksAlong}
use Rattle.answer_laws.specs.Shown.{HasTables, HasWhole, IsWhole}

-- ---- the orders

same_whole : (machine next : Machine) → HasWhole machine → next ≡ machine → HasWhole next
same_whole machine next whole is = subst HasWhole (sym is) whole

-- whatever indexes and walk indexes there are
bare : (now : Position) → IsPosition now → HasTables now
bare now position = record {
  model = position.model;
  rows = position.rows;
  closed = position.closed;
  rows_before = position.rows_before;
  closed_before = position.closed_before;
  indexes = All-nil (IsIndexOf now.schemas);
  few = lit≤ tt;
  walks = All-nil (IsWalkOf now.schemas);
  few_walks = lit≤ tt;
}

step_tables : (blob : List ℕ) (from to : Position) → HasTables from → StepsBy blob from to → HasTables to
step_tables blob from to tables steps = step_position blob (record from { indexes = []; walks = [] }) (record to { indexes = []; walks = [] }) tables (record {
  patch = steps.patch;
  is = steps.is;
  fits = steps.fits;
  moved = steps.moved;
  within = steps.within;
  items = steps.items;
  short = steps.short;
  model = steps.model;
  types = steps.types;
  layouts = steps.layouts;
  others = steps.others;
  before = steps.before;
  indexes = refl;
  walks = refl;
})

none_whole : (schemas : List Schema) → All (λ (pair : ℕ × Table). IsWhole schemas pair.1) []
none_whole schemas = All-nil (λ (pair : ℕ × Table). IsWhole schemas pair.1)

model_whole : (machine next : Machine) → HasWhole machine → (value : Data) (answer : Reply) → ModelStep machine value answer next → HasWhole next
model_whole machine next whole value (reply.Model types) (schemas, none, stands, is, count, next_is) = same_whole (with_producer machine (Some (new_producer schemas))) next whole next_is
model_whole machine next whole value (reply.Refused refusal) is = same_whole machine next whole is.1
model_whole machine next whole value _ is = absurd is

grown_whole : (machine next : Machine) → HasWhole machine → (value : Data) (types : ℕ) (found : Option Published) → IsSomeAnd found (GrowsOn machine value types next) → HasWhole next
grown_whole machine next whole value types None is = absurd is
grown_whole machine next whole value types (Some last) (schemas, stands, model, grows, count, next_is) = same_whole (with_producer machine (Some (grown_producer schemas last))) next whole next_is

grow_whole : (machine next : Machine) → HasWhole machine → (value : Data) (answer : Reply) → GrowStep machine value answer next → HasWhole next
grow_whole machine next whole value (reply.Grow types) is = grown_whole machine next whole value types machine.producer is
grow_whole machine next whole value (reply.Refused refusal) is = same_whole machine next whole is.1
grow_whole machine next whole value _ is = absurd is

restore_whole : (machine next : Machine) → HasWhole machine → (version : ℕ) (answer : Reply) → RestoreStep machine version answer next → HasWhole next
restore_whole machine next whole version (reply.Restore tag restored) (same, last, (position, stored, once, tag_is, next_is)) = same_whole (with_producer machine (Some (producer_at position version))) next whole next_is
restore_whole machine next whole version (reply.Refused refusal) is = same_whole machine next whole is.1
restore_whole machine next whole version _ is = absurd is

load_whole : (machine next : Machine) → HasWhole machine → (version : ℕ) (answer : Reply) → LoadStep machine version answer next → HasWhole next
load_whole machine next whole version (reply.Load tag) (blob, position, at, loads, tag_is, next_is) =
    same_whole (loaded_to machine version position) next (bare position (load_position blob position loads), none_whole position.schemas) next_is
load_whole machine next whole version (reply.Refused refusal) is = same_whole machine next whole is.1
load_whole machine next whole version _ is = absurd is

-- a step's state, and what is kept of older ones behind it
behind_whole : (bound : ℕ) (now : Position) (version : Option ℕ) (past : List (ℕ × Table)) → HasTables now → All (λ pair. IsWhole now.schemas pair.1) past
    → All (λ pair. IsWhole now.schemas pair.1) (past_behind bound (Some now) version past)
behind_whole bound now None past tables all = all
behind_whole bound now (Some version) past tables all =
    All-take (λ (pair : ℕ × Table). IsWhole now.schemas pair.1) bound ((version, rows_now now) ∷ past)
    (All-cons (λ (pair : ℕ × Table). IsWhole now.schemas pair.1) (version, rows_now now) past (tables.rows, tables.closed) all)

-- The consumer's step along what a name holds, and the machine behind it.
abbrev StepsOn : Machine → BlobName → ℕ → ℤ → Machine → Position → Type 0
StepsOn machine name version tag next now =
    (blob : List ℕ) × (to : Position) × (told (Some machine.store) name ≡ Some blob) × StepsBy blob now to × (tag ≡ to.tag) × (next ≡ stepped_to machine version to)

stepped_whole : (machine next : Machine) (name : BlobName) (number : ℕ) (tag : ℤ) (consumer : Option Position) → machine.consumer ≡ consumer
    → IfSome consumer (λ now. HasTables now × All (λ pair. IsWhole now.schemas pair.1) machine.past) → IsSomeAnd consumer (StepsOn machine name number tag next) → HasWhole next
stepped_whole machine next name number tag None is whole steps = absurd steps
stepped_whole machine next name number tag (Some now) is (tables, all) (blob, to, at, by, tag_is, next_is) =
    let behind = subst (λ (c : Option Position). All (λ (pair : ℕ × Table). IsWhole now.schemas pair.1) (past_behind machine.bound c machine.version machine.past)) (sym is) (behind_whole machine.bound now machine.version machine.past tables all) in
    same_whole (stepped_to machine number to) next
    (step_tables blob now to tables by, subst (λ (schemas : List Schema). All (λ (pair : ℕ × Table). IsWhole schemas pair.1) (past_behind machine.bound machine.consumer machine.version machine.past)) (sym by.model) behind)
    next_is

step_whole : (machine next : Machine) → HasWhole machine → (name : BlobName) (version : ℕ) (answer : Reply) → StepStep machine name version answer next → HasWhole next
step_whole machine next whole name version (reply.Step tag) is = stepped_whole machine next name version tag machine.consumer refl whole is
step_whole machine next whole name version (reply.Refused refusal) is = same_whole machine next whole is.1
step_whole machine next whole name version _ is = absurd is

module _ (machine next : Machine) (whole : HasWhole machine) where
  -- the consumer keeps the index of a type
  abbrev KeepsAt : List (List ℕ) → ℕ → Position → ℕ → Type 0
  KeepsAt texts keys now t =
      HasShape IsObject now.schemas t
      × ((paths : List Path) × AreKeyPaths now.schemas t texts paths × CountsKeyed now (index_by t paths) keys
      × ((after : List Index) × KeepsIndex now.indexes (index_by t paths) after × (next ≡ with_consumer machine (Some (record now { indexes = after })))))

  of_index : (found : Option ℕ) (P : ℕ → Type 0) → IsSomeAnd found P → ((t : ℕ) → P t → HasWhole next) → HasWhole next
  of_index None P is gives = absurd is
  of_index (Some t) P is gives = gives t is

  kept_whole : (texts : List (List ℕ)) (keys : ℕ) (now : Position) → HasTables now × All (λ pair. IsWhole now.schemas pair.1) machine.past → (t : ℕ) → KeepsAt texts keys now t → HasWhole next
  kept_whole texts keys now known t (shape, (paths, are, counts, (after, keeps, next_is))) = same_whole (with_consumer machine (Some (record now { indexes = after }))) next known next_is

  indexed_whole : (name : Name) (texts : List (List ℕ)) (keys : ℕ) (consumer : Option Position) → IfSome consumer (λ now. HasTables now × All (λ pair. IsWhole now.schemas pair.1) machine.past)
      → IsSomeAnd consumer (λ now. IsSomeAnd (index_of_type now.schemas name) (KeepsAt texts keys now)) → HasWhole next
  indexed_whole name texts keys None known is = absurd is
  indexed_whole name texts keys (Some now) known is = of_index (index_of_type now.schemas name) (KeepsAt texts keys now) is (λ t kept. kept_whole texts keys now known t kept)

  index_whole : (name : Name) (texts : List (List ℕ)) (answer : Reply) → IndexStep machine name texts answer next → HasWhole next
  index_whole name texts (reply.Index keys) is = indexed_whole name texts keys machine.consumer whole is
  index_whole name texts (reply.Refused refusal) is = same_whole machine next whole is.1
  index_whole name texts _ is = absurd is

  walk_whole : (text : List ℕ) (keys : ℕ) (now : Position) → HasTables now × All (λ pair. IsWhole now.schemas pair.1) machine.past → (t : ℕ) → WalksAlong machine text now t keys next → HasWhole next
  walk_whole text keys now known t along = same_whole (with_consumer machine (Some (record now { walks = along.after }))) next known along.is

  walked_whole : (name : Name) (text : List ℕ) (keys : ℕ) (consumer : Option Position) → IfSome consumer (λ now. HasTables now × All (λ pair. IsWhole now.schemas pair.1) machine.past)
      → IsSomeAnd consumer (λ now. IsSomeAnd (index_of_type now.schemas name) (λ t. WalksAlong machine text now t keys next)) → HasWhole next
  walked_whole name text keys None known is = absurd is
  walked_whole name text keys (Some now) known is = of_index (index_of_type now.schemas name) (λ t. WalksAlong machine text now t keys next) is (λ t along. walk_whole text keys now known t along)

  walkindex_whole : (name : Name) (text : List ℕ) (answer : Reply) → WalkIndexStep machine name text answer next → HasWhole next
  walkindex_whole name text (reply.WalkIndex keys) is = walked_whole name text keys machine.consumer whole is
  walkindex_whole name text (reply.Refused refusal) is = same_whole machine next whole is.1
  walkindex_whole name text _ is = absurd is

  applied_whole : (name : BlobName) (answer : Reply) → Applies machine name answer next → HasWhole next
  applied_whole (Snapshot version) answer is = load_whole machine next whole version answer is
  applied_whole (Delta from to) answer is = step_whole machine next whole (Delta from to) to answer is
  applied_whole (Reverse from to) answer is = step_whole machine next whole (Reverse from to) to answer is
  applied_whole Announced answer is = absurd is

-- no older states are kept of a machine that is told how many it is to keep
bounded_whole : (consumer : Option Position) (past : List (ℕ × Table)) → IfSome consumer (λ now. HasTables now × All (λ pair. IsWhole now.schemas pair.1) past)
    → IfSome consumer (λ now. HasTables now × All (λ (pair : ℕ × Table). IsWhole now.schemas pair.1) [])
bounded_whole None past whole = tt
bounded_whole (Some now) past whole = (whole.0, none_whole now.schemas)

history_whole : (machine next : Machine) → HasWhole machine → (bound : ℕ) (answer : Reply) → HistoryStep machine bound answer next → HasWhole next
history_whole machine next whole bound (reply.History kept) is = same_whole (with_bound machine bound) next (bounded_whole machine.consumer machine.past whole) is.1
history_whole machine next whole bound _ is = absurd is

gone_whole : (names : List BlobName) (machine next : Machine) → HasWhole machine → (applied : ℕ) (refused : Option Refusal) → Goes machine names applied refused next → HasWhole next
gone_whole [] machine next whole applied refused is = same_whole machine next whole is.2
gone_whole (name ∷ names) machine next whole applied refused (inl (refusal, applies, none, why)) = applied_whole machine next whole name (reply.Refused refusal) applies
gone_whole (name ∷ names) machine next whole applied refused (inr (answer, between, behind, applies, taken, count, goes)) =
    gone_whole names between next (applied_whole machine between whole name answer applies) behind refused goes

goto_whole : (machine next : Machine) → HasWhole machine → (wanted : ℕ) (answer : Reply) → GotoStep machine wanted answer next → HasWhole next
goto_whole machine next whole wanted (reply.Goto progress) (plan, is_plan, count, goes, tag) = gone_whole plan machine next whole progress.applied progress.refused goes
goto_whole machine next whole wanted (reply.Refused refusal) is = same_whole machine next whole is.1
goto_whole machine next whole wanted _ is = absurd is

succeeds_whole : (machine next : Machine) → HasWhole machine → (last : Published) (asked : AskedCycle) (names : List (List ℕ)) (published : Bool) → SucceedsAfter machine last asked names published next → HasWhole next
succeeds_whole machine next whole last asked names false (follows, (trees, gives, (rows, changed, makes, named, leaves))) = same_whole machine next whole leaves.2
succeeds_whole machine next whole last asked names true (follows, (trees, gives, (rows, changed, makes, named, leaves))) = subst HasWhole (sym leaves.2.3) whole

of_producer : (machine next : Machine) → HasWhole machine → (found : Option Published) (asked : AskedCycle) (names : List (List ℕ)) (published : Bool)
    → IsSomeAnd found (λ last. SucceedsAfter machine last asked names published next) → HasWhole next
of_producer machine next whole None asked names published is = absurd is
of_producer machine next whole (Some last) asked names published is = succeeds_whole machine next whole last asked names published is

cycle_whole : (machine next : Machine) → HasWhole machine → (asked : AskedCycle) (answer : Reply) → CycleStep machine asked answer next → HasWhole next
cycle_whole machine next whole asked (reply.Cycle names published version) is = of_producer machine next whole machine.producer asked names published is.1
cycle_whole machine next whole asked (reply.Refused refusal) is = same_whole machine next whole is.1
cycle_whole machine next whole asked _ is = absurd is

change_whole : (machine next : Machine) → HasWhole machine → (asked : AskedChange) (answer : Reply) → ChangeStep machine asked answer next → HasWhole next
change_whole machine next whole asked (reply.Change change) is = of_last machine.producer is.1
  where
    of_last : (found : Option Published) → IsSomeAnd found (λ last. Misses last asked.remove change.missing × SucceedsAfter machine last (cycle_of_change asked) change.changed change.published next) → HasWhole next
    of_last None is = absurd is
    of_last (Some last) is = succeeds_whole machine next whole last (cycle_of_change asked) change.changed change.published is.1
change_whole machine next whole asked (reply.Refused refusal) is = same_whole machine next whole is.1
change_whole machine next whole asked _ is = absurd is

-- ---- lines

order_whole : (asked : Order) (machine next : Machine) → HasWhole machine → (answer : Reply) → Step machine asked answer next → HasWhole next
order_whole (order.Cycle next_state) machine next whole answer is = cycle_whole machine next whole (asked_cycle (asked_state next_state)) answer is
order_whole (order.Change change) machine next whole answer is = change_whole machine next whole (asked_change change) answer is
order_whole (order.Model schemas) machine next whole answer is = model_whole machine next whole _ answer is
order_whole (order.Grow schemas) machine next whole answer is = grow_whole machine next whole _ answer is
order_whole (order.Restore version) machine next whole answer is = restore_whole machine next whole version answer is
order_whole (order.Load version) machine next whole answer is = load_whole machine next whole version answer is
order_whole (order.Step from to) machine next whole answer is = step_whole machine next whole _ to answer is
order_whole (order.Index name paths) machine next whole answer is = index_whole machine next whole name _ answer is
order_whole (order.WalkIndex name path) machine next whole answer is = walkindex_whole machine next whole name path answer is
order_whole (order.Goto version) machine next whole answer is = goto_whole machine next whole version answer is
order_whole (order.History bound) machine next whole answer is = history_whole machine next whole bound answer is
order_whole _ machine next whole answer is = same_whole machine next whole is.1

-- the tables of the machine behind a line are closed ones of the consumer's model
pub line_whole : (machine next : Machine) (line : List ℕ) (answer : Reply) → HasWhole machine → LineStep machine line answer next → HasWhole next
line_whole machine next line answer whole (inl long) = same_whole machine next whole long.1.1
line_whole machine next line answer whole (inr (short, inl none)) = same_whole machine next whole none.1.1
line_whole machine next line answer whole (inr (short, inr (asked, orders, step))) = order_whole asked machine next whole answer step
