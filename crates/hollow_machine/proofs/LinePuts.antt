-- What a line leaves of the store that is answered: the store as it was, or with all of its puts.
use Rattle.std.proofs.Common.{◌≡◌, inl, inr, ℕ, List, [], ◌∷◌, true, false, Option, Some, None, length, length-append, refl, sym, ap, ◌∙◌, arith, subst}
use Rattle.std.specs.Prelude.{Bool, IsSomeAnd}
use Rattle.std.specs.Fmt.{decimal}
use Rattle.std.proofs.lemmas.List.{take_all}
use Rattle.serde_json.specs.Data.{Data}
use Rattle.hol_io.specs.Store.{Store}
use Rattle.hol_io.specs.declared.name.BlobName.{BlobName}
use Rattle.hol_io.specs.declared.name.BlobName.TheVariants.{Announced, Delta, Reverse, Snapshot}
use Rattle.schema_model.specs.declared.model.path.Path.{Path}
use Rattle.schema_model.specs.declared.schema.name.Name.{Name}
use Rattle.schema_model.specs.Parts.{index_of_type}
use Rattle.read_engine.specs.Indexes.{CountsKeyed, KeepsIndex, index_by}
use Rattle.read_engine.specs.Position.{Index, Position}
use Rattle.state_blobs.specs.Published.{Published}
use Rattle.state_blobs.specs.Puts.{Put, put_all, puts_of}
use Rattle.hol_orders.specs.declared.order.Order.{Order}
use Rattle.hol_orders.specs.declared.order.Order.TheVariants as order
use Rattle.hol_orders.specs.Parts.{AskedChange, asked_change, asked_state}
use Rattle.hol_answers.specs.declared.refusal.Refusal.{Refusal}
use Rattle.hol_answers.specs.declared.reply.Reply.{Reply}
use Rattle.hol_answers.specs.declared.reply.Reply.TheVariants as reply
use Rattle.hollow_machine.specs.ChangeOrder.{ChangeStep, Misses}
use Rattle.hollow_machine.specs.CycleOrder.{CycleStep, SucceedsAfter}
use Rattle.hollow_machine.specs.GrowOrder.{GrowStep, GrowsOn}
use Rattle.hollow_machine.specs.HistoryOrders.{HistoryStep}
use Rattle.hollow_machine.specs.IndexOrder.{IndexStep}
use Rattle.hollow_machine.specs.KeyPaths.{AreKeyPaths, HasShape, IsObject}
use Rattle.hollow_machine.specs.LoadOrder.{LoadStep}
use Rattle.hollow_machine.specs.ModelOrder.{ModelStep}
use Rattle.hollow_machine.specs.PlanOrders.{Applies, Goes, GotoStep}
use Rattle.hollow_machine.specs.Records.{AskedCycle, asked_cycle, cycle_of_change}
use Rattle.hollow_machine.specs.RestoreOrder.{RestoreStep}
use Rattle.hollow_machine.specs.Script.{LineStep}
use Rattle.hollow_machine.specs.State.{Machine, with_consumer}
use Rattle.hollow_machine.specs.Step.{Step}
use Rattle.hollow_machine.specs.StepOrder.{StepStep}
use Rattle.hollow_machine.specs.WalkOrders.{WalkIndexStep, WalksAlong}
use Rattle.hollow_machine.specs.Left.{HasAll, HasFirst}
use Rattle.hollow_machine.specs.Puts.{CyclePuts, LinePuts, OrderPuts, PutsAfter}

-- what holds of what is there
of_some : {A R : Type 0} (found : Option A) (P : A → Type 0) → IsSomeAnd found P → ((x : A) → P x → R) → R
of_some None P is gives = absurd is
of_some (Some x) P is gives = gives x is

-- a machine that is as it was but for its producer or its consumer has its store
same_store : (machine next other : Machine) → next ≡ other → other.store ≡ machine.store → next.store ≡ machine.store
same_store machine next other is same = ap (λ (m : Machine). m.store) is ∙ same

-- ---- the orders that put nothing

model_stays : (machine next : Machine) (value : Data) (answer : Reply) → ModelStep machine value answer next → next.store ≡ machine.store
model_stays machine next value (reply.Model types) (schemas, none, stands, is, count, next_is) = same_store machine next _ next_is refl
model_stays machine next value (reply.Refused refusal) is = same_store machine next machine is.1 refl
model_stays machine next value _ is = absurd is

grow_stays : (machine next : Machine) (value : Data) (answer : Reply) → GrowStep machine value answer next → next.store ≡ machine.store
grow_stays machine next value (reply.Grow types) is =
    of_some machine.producer (GrowsOn machine value types next) is (λ last grows. let (schemas, stands, model, on, count, next_is) = grows in same_store machine next _ next_is refl)
grow_stays machine next value (reply.Refused refusal) is = same_store machine next machine is.1 refl
grow_stays machine next value _ is = absurd is

restore_stays : (machine next : Machine) (version : ℕ) (answer : Reply) → RestoreStep machine version answer next → next.store ≡ machine.store
restore_stays machine next version (reply.Restore tag restored) (same, last, (position, stored, once, tag_is, next_is)) = same_store machine next _ next_is refl
restore_stays machine next version (reply.Refused refusal) is = same_store machine next machine is.1 refl
restore_stays machine next version _ is = absurd is

load_stays : (machine next : Machine) (version : ℕ) (answer : Reply) → LoadStep machine version answer next → next.store ≡ machine.store
load_stays machine next version (reply.Load tag) (blob, position, at, loads, tag_is, next_is) = same_store machine next _ next_is refl
load_stays machine next version (reply.Refused refusal) is = same_store machine next machine is.1 refl
load_stays machine next version _ is = absurd is

step_stays : (machine next : Machine) (name : BlobName) (version : ℕ) (answer : Reply) → StepStep machine name version answer next → next.store ≡ machine.store
step_stays machine next name version (reply.Step tag) is = of_some machine.consumer _ is (λ now moved. same_store machine next _ moved.5 refl)
step_stays machine next name version (reply.Refused refusal) is = same_store machine next machine is.1 refl
step_stays machine next name version _ is = absurd is

-- the consumer keeps the index of a type
abbrev KeepsAt : Machine → List (List ℕ) → ℕ → Machine → Position → ℕ → Type 0
KeepsAt machine texts keys next now t =
    HasShape IsObject now.schemas t
    × ((paths : List Path) × AreKeyPaths now.schemas t texts paths × CountsKeyed now (index_by t paths) keys
    × ((after : List Index) × KeepsIndex now.indexes (index_by t paths) after × (next ≡ with_consumer machine (Some (record now { indexes = after })))))

kept_stays : (machine next : Machine) (texts : List (List ℕ)) (keys : ℕ) (now : Position) (t : ℕ) → KeepsAt machine texts keys next now t → next.store ≡ machine.store
kept_stays machine next texts keys now t (shape, (paths, are, counts, (after, keeps, next_is))) = same_store machine next _ next_is refl

index_stays : (machine next : Machine) (name : Name) (texts : List (List ℕ)) (answer : Reply) → IndexStep machine name texts answer next → next.store ≡ machine.store
index_stays machine next name texts (reply.Index keys) is =
    of_some machine.consumer _ is (λ now of_type. of_some (index_of_type now.schemas name) (KeepsAt machine texts keys next now) of_type (λ t kept. kept_stays machine next texts keys now t kept))
index_stays machine next name texts (reply.Refused refusal) is = same_store machine next machine is.1 refl
index_stays machine next name texts _ is = absurd is

walkindex_stays : (machine next : Machine) (name : Name) (text : List ℕ) (answer : Reply) → WalkIndexStep machine name text answer next → next.store ≡ machine.store
walkindex_stays machine next name text (reply.WalkIndex keys) is =
    of_some machine.consumer _ is (λ now of_type. of_some (index_of_type now.schemas name) (λ t. WalksAlong machine text now t keys next) of_type (λ t walks. same_store machine next _ walks.is refl))
walkindex_stays machine next name text (reply.Refused refusal) is = same_store machine next machine is.1 refl
walkindex_stays machine next name text _ is = absurd is

applied_stays : (machine next : Machine) (name : BlobName) (answer : Reply) → Applies machine name answer next → next.store ≡ machine.store
applied_stays machine next (Snapshot version) answer is = load_stays machine next version answer is
applied_stays machine next (Delta from to) answer is = step_stays machine next (Delta from to) to answer is
applied_stays machine next (Reverse from to) answer is = step_stays machine next (Reverse from to) to answer is
applied_stays machine next Announced answer is = absurd is

gone_stays : (names : List BlobName) (machine next : Machine) (applied : ℕ) (refused : Option Refusal) → Goes machine names applied refused next → next.store ≡ machine.store
gone_stays [] machine next applied refused is = same_store machine next machine is.2 refl
gone_stays (name ∷ names) machine next applied refused (inl (refusal, applies, none, why)) = applied_stays machine next name (reply.Refused refusal) applies
gone_stays (name ∷ names) machine next applied refused (inr (answer, between, behind, applies, taken, count, goes)) =
    gone_stays names between next behind refused goes ∙ applied_stays machine between name answer applies

goto_stays : (machine next : Machine) (wanted : ℕ) (answer : Reply) → GotoStep machine wanted answer next → next.store ≡ machine.store
goto_stays machine next wanted (reply.Goto progress) (plan, is_plan, count, goes, tag) = gone_stays plan machine next progress.applied progress.refused goes
goto_stays machine next wanted (reply.Refused refusal) is = same_store machine next machine is.1 refl
goto_stays machine next wanted _ is = absurd is

history_stays : (machine next : Machine) (bound : ℕ) (answer : Reply) → HistoryStep machine bound answer next → next.store ≡ machine.store
history_stays machine next bound (reply.History kept) is = same_store machine next _ is.1 refl
history_stays machine next bound _ is = absurd is

-- ---- a cycle

-- all of some puts
abbrev IsWhole : List Put → Store → Store → Type 0
IsWhole puts store now = (first : HasFirst puts store now) × (first.count ≡ length puts)

-- the puts of a state are some
all_first : (blobs : List Put) (version : ℕ) (store now : Store) → now ≡ put_all store (puts_of blobs version) → IsWhole (puts_of blobs version) store now
all_first blobs version store now is =
    let announced : Put = (Announced, decimal version) in
    let puts = puts_of blobs version in (
      record {
        count = length puts;
        some = omega (arith, length-append blobs (announced ∷ []));
        within = omega arith;
        put = is ∙ ap (put_all store) (sym (take_all (length puts) puts (omega arith)));
      },
      refl,
    )

succeeds_puts : (machine next : Machine) (last : Published) (asked : AskedCycle) (names : List (List ℕ)) (published : Bool) → machine.producer ≡ Some last
    → SucceedsAfter machine last asked names published next → HasAll (CyclePuts asked machine) machine.store next.store
succeeds_puts machine next last asked names false is (may, (trees, gives, (rows, changed, makes, named, leaves))) = inl (same_store machine next machine leaves.2 refl)
succeeds_puts machine next last asked names true is (may, (trees, gives, (rows, changed, makes, named, (publishes, limits, (blobs, are, short, next_is))))) =
    let whole = all_first blobs asked.version machine.store next.store (ap (λ (m : Machine). m.store) next_is) in
    inr (
      puts_of blobs asked.version,
      subst (λ (producer : Option Published). IsSomeAnd producer (λ l. PutsAfter machine.store l asked (puts_of blobs asked.version))) (sym is)
          (may, (trees, rows, changed, gives, makes, publishes, (limits, (blobs, are, short, refl)))),
      whole.0,
      whole.1,
    )

found_producer : (machine next : Machine) (asked : AskedCycle) (names : List (List ℕ)) (published : Bool) (producer : Option Published) → machine.producer ≡ producer
    → IsSomeAnd producer (λ last. SucceedsAfter machine last asked names published next) → HasAll (CyclePuts asked machine) machine.store next.store
found_producer machine next asked names published None is succeeds = absurd succeeds
found_producer machine next asked names published (Some last) is succeeds = succeeds_puts machine next last asked names published is succeeds

pub cycle_puts : (machine next : Machine) (asked : AskedCycle) (answer : Reply) → CycleStep machine asked answer next → HasAll (CyclePuts asked machine) machine.store next.store
cycle_puts machine next asked (reply.Cycle names published version) is = found_producer machine next asked names published machine.producer refl is.1
cycle_puts machine next asked (reply.Refused refusal) is = inl (same_store machine next machine is.1 refl)
cycle_puts machine next asked _ is = absurd is

found_change : (machine next : Machine) (asked : AskedChange) (names : List (List ℕ)) (published : Bool) (missing : ℕ) (producer : Option Published) → machine.producer ≡ producer
    → IsSomeAnd producer (λ last. Misses last asked.remove missing × SucceedsAfter machine last (cycle_of_change asked) names published next)
    → HasAll (CyclePuts (cycle_of_change asked) machine) machine.store next.store
found_change machine next asked names published missing None is succeeds = absurd succeeds
found_change machine next asked names published missing (Some last) is succeeds = succeeds_puts machine next last (cycle_of_change asked) names published is succeeds.1

pub change_puts : (machine next : Machine) (asked : AskedChange) (answer : Reply) → ChangeStep machine asked answer next → HasAll (CyclePuts (cycle_of_change asked) machine) machine.store next.store
change_puts machine next asked (reply.Change change) is = found_change machine next asked change.changed change.published change.missing machine.producer refl is.1
change_puts machine next asked (reply.Refused refusal) is = inl (same_store machine next machine is.1 refl)
change_puts machine next asked _ is = absurd is

-- ---- lines

order_puts : (asked : Order) (machine next : Machine) (answer : Reply) → Step machine asked answer next → HasAll (OrderPuts asked machine) machine.store next.store
order_puts (order.Cycle next_state) machine next answer is = cycle_puts machine next (asked_cycle (asked_state next_state)) answer is
order_puts (order.Change change) machine next answer is = change_puts machine next (asked_change change) answer is
order_puts (order.Model schemas) machine next answer is = inl (model_stays machine next _ answer is)
order_puts (order.Grow schemas) machine next answer is = inl (grow_stays machine next _ answer is)
order_puts (order.Restore version) machine next answer is = inl (restore_stays machine next version answer is)
order_puts (order.Load version) machine next answer is = inl (load_stays machine next version answer is)
order_puts (order.Step from to) machine next answer is = inl (step_stays machine next _ to answer is)
order_puts (order.Index name paths) machine next answer is = inl (index_stays machine next name _ answer is)
order_puts (order.WalkIndex name path) machine next answer is = inl (walkindex_stays machine next name path answer is)
order_puts (order.Goto version) machine next answer is = inl (goto_stays machine next version answer is)
order_puts (order.History bound) machine next answer is = inl (history_stays machine next bound answer is)
order_puts _ machine next answer is = inl (same_store machine next machine is.1 refl)

pub line_puts : (machine next : Machine) (line : List ℕ) (answer : Reply) → LineStep machine line answer next → HasAll (LinePuts line machine) machine.store next.store
line_puts machine next line answer (inl long) = inl (same_store machine next machine long.1.1 refl)
line_puts machine next line answer (inr (short, inl none)) = inl (same_store machine next machine none.1.1 refl)
line_puts machine next line answer (inr (short, inr (asked, orders, step))) = of_order (order_puts asked machine next answer step)
  where
    of_order : HasAll (OrderPuts asked machine) machine.store next.store → HasAll (LinePuts line machine) machine.store next.store
    of_order (inl same) = inl same
    of_order (inr (puts, are, first, all)) = inr (puts, (short, (asked, orders, are)), first, all)
