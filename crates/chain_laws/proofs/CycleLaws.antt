-- The laws of the order `cycle`.
use Rattle.std.proofs.Common.{◌≡◌, ℕ, ℤ, pos, List, [], ◌∷◌, Bool, true, false, Some, None, inl, inr, refl, sym, subst, arith, Option, ap}
use Rattle.std.specs.Prelude.{All, FitsSigned, IsSomeAnd, Option, IfSome}
use Rattle.std.specs.Int.{w64}
use Rattle.std.specs.FinMap.{insert}
use Rattle.std.proofs.lemmas.List.Elements.{All-head, All-tail}
use Rattle.serde_json.specs.Data.{null}
use Rattle.hol_io.specs.Name.{IsVersion}
use Rattle.row_model.specs.PlainTree.{PlainTree}
use Rattle.row_model.specs.Table.{Table}
use Rattle.hol_orders.specs.declared.order.NextState.{NextState}
use Rattle.hol_orders.specs.declared.order.Order.TheVariants as order
use Rattle.hol_answers.specs.declared.reply.Reply.{Reply}
use Rattle.hol_answers.specs.declared.reply.Reply.TheVariants as reply
use Rattle.hol_orders.specs.Kind.{shape}
use Rattle.hol_orders.specs.Order.{Asking, Orders}
use Rattle.hol_orders.specs.Parts.{AskedState, asked_state}
use Rattle.hollow_machine.specs.Records.{AskedCycle, asked_cycle}
use Rattle.write_engine.specs.CycleLimit.{TellsTypes}
use Rattle.hollow_machine.specs.CycleOrder.{CycleStep, Makes, SucceedsAfter, cycle_form}
use Rattle.hollow_machine.specs.Follow.{MayFollow}
use Rattle.state_blobs.specs.Puts.{Put, AreBlobs, IsShort, puts_of, put_all}
use Rattle.hollow_machine.specs.State.{Machine}
use Rattle.state_blobs.specs.Published.{Published}
use Rattle.hol_io.specs.declared.name.BlobName.TheVariants.{Announced, Delta, Reverse}
use Rattle.written_laws.specs.Chain.{Chain}
use Rattle.written_laws.specs.States.{IsWritableModel}
use Rattle.chain_laws.specs.Growth.{AddsAsked, GrowsByCycle}
use Rattle.chain_laws.specs.Producers.{IsOver, IsProducerOf, KeepsChain, state_behind}
use Rattle.chain_laws.proofs.PublishedState.{first_kept, later_kept, over_longer, versions_stay}
use Rattle.chain_laws.proofs.StoreNames.{found_with}
use Rattle.written_laws.specs.HoldsChain.{HoldsChain}
use Rattle.read_engine.specs.Position.{Position}
use Rattle.chain_laws.specs.Consumers.{IsReaderAt, IsReaderOf}
use Rattle.write_engine.proofs.ClosedStates.{next_closed}
use Rattle.write_engine.proofs.NextStates.{next_once}
use Rattle.chain_laws.proofs.OneCycle.{IsOnce, one_cycle}
use Rattle.chain_laws.proofs.Lawful.{Extends, IsLawful, IsSoundMachine, Keeps, KeepsOf, stays_sound, same_of, says_both}
use Rattle.hol_orders.specs.declared.kind.Kind.{Kind}

-- The cycle leaves this machine, and the chain grew by what it published.
abbrev pub KeepsCycle : Machine → AskedCycle → Reply → Chain → Machine → Type 0
KeepsCycle machine asked answer chain next =
    (after : Chain) × GrowsByCycle machine asked answer chain after × KeepsChain next.store after × IsProducerOf after next.producer × Extends chain after

module _ (machine : Machine) (chain : Chain) (kept : KeepsChain machine.store chain) (over : IsProducerOf chain machine.producer) where
  stays_kept : (answer : Reply) (next : Machine) (asked : AskedCycle) → GrowsByCycle machine asked answer chain chain → next ≡ machine → KeepsCycle machine asked answer chain next
  stays_kept answer next asked grows same =
      let both = subst (λ (m : Machine). KeepsChain m.store chain × IsProducerOf chain m.producer) (sym same) (kept, over) in
      (chain, grows, both.0, both.1, (λ v s there. there))

  -- the model of the last state can be written
  pub writable : (last : Published) → IsOver chain last → IsWritableModel last.model
  writable last is_over = record { model = is_over.model; texts = is_over.texts }

  pub puts_keep : (last : Published) (version : ℕ) (tag : ℤ) (with_snapshot : Bool) (trees : List (ℕ × PlainTree)) (rows : Table) (changed : List ℕ) (blobs : List Put) → IsOver chain last
      → IsVersion version → FitsSigned w64 tag → MayFollow machine.store last.version version tag → Makes last trees rows changed → TellsTypes last.model last.rows rows None
      → AreBlobs last rows version tag with_snapshot blobs → All IsShort blobs → IsWritableModel last.model
      → KeepsChain (put_all machine.store (puts_of blobs version)) (insert chain version (state_behind last tag rows))
  puts_keep last version tag with_snapshot trees rows changed blobs is_over is_version fits may makes limits (inl (zero_before, (snapshot, written, is))) short can =
      let all = subst (All IsShort) is short in
      subst (λ (bs : List Put). KeepsChain (put_all machine.store (puts_of bs version)) (insert chain version (state_behind last tag rows))) (sym is)
      (first_kept machine.store chain last version tag trees rows kept is_over can may is_version fits makes.state limits true snapshot zero_before written (all 0 (Announced, []) (omega arith)) refl)
  puts_keep last version tag with_snapshot trees rows changed blobs is_over is_version fits may makes limits (inr (nonzero, (delta, reverse, whole, forward, back, written, is))) short can =
      let all = subst (All IsShort) is short in
      let behind = All-tail IsShort (Delta last.version version, delta) ((Reverse version last.version, reverse) ∷ whole) all in
      subst (λ (bs : List Put). KeepsChain (put_all machine.store (puts_of bs version)) (insert chain version (state_behind last tag rows))) (sym is)
      (later_kept machine.store chain last version tag trees rows kept is_over can may is_version fits makes.state limits true with_snapshot delta reverse whole nonzero forward back written
      (All-head IsShort (Delta last.version version, delta) ((Reverse version last.version, reverse) ∷ whole) all)
      (All-head IsShort (Reverse version last.version, reverse) whole behind) (All-tail IsShort (Reverse version last.version, reverse) whole behind) refl)

  -- a cycle's numbers are a version and a tag
  cycle_done : (producer : Option Published) → machine.producer ≡ producer → (asked : AskedCycle) (names : List (List ℕ)) (published : Bool) (next : Machine)
      → IsVersion asked.version → FitsSigned w64 asked.tag → IsProducerOf chain producer
      → IsSomeAnd producer (λ last. SucceedsAfter machine last asked names published next) → KeepsCycle machine asked (reply.Cycle names published asked.version) chain next
  cycle_done None is asked names published next is_version fits is_over succeeds = absurd succeeds
  cycle_done (Some last) is asked names false next is_version fits is_over (may, (trees, gives, (rows, changed, makes, named, leaves))) =
      stays_kept (reply.Cycle names false asked.version) next asked refl leaves.2
  cycle_done (Some last) is asked names true next is_version fits is_over (may, (trees, gives, (rows, changed, makes, named, (publishes, limits, (blobs, are, short, next_is))))) =
      let version = asked.version in
      let tag = asked.tag in
      let longer = insert chain version (state_behind last tag rows) in
      let can = writable last is_over in
      let held = puts_keep last version tag asked.snapshot trees rows changed blobs is_over is_version fits may makes limits are short can in
      let moved = over_longer machine.store chain last version tag trees rows kept is_over can may is_version fits makes.state limits true refl in
      let grows : AddsAsked chain last asked longer = (trees, gives, (rows, makes.state, refl)) in
      let both = subst (λ (m : Machine). KeepsChain m.store longer × IsProducerOf longer m.producer) (sym next_is) (held, moved) in (
        longer,
        subst (λ (p : Option Published). IsSomeAnd p (λ l. AddsAsked chain l asked longer)) (sym is) grows,
        both.0,
        both.1,
        versions_stay machine.store chain last version tag trees rows kept is_over can may is_version fits makes.state limits true,
      )

  pub cycle_keeps : (asked : AskedCycle) (answer : Reply) (next : Machine) → IsVersion asked.version → FitsSigned w64 asked.tag → CycleStep machine asked answer next
      → KeepsCycle machine asked answer chain next
  cycle_keeps asked (reply.Cycle names published version) next is_version fits step =
      subst (λ (v : ℕ). KeepsCycle machine asked (reply.Cycle names published v) chain next) (sym step.0)
      (cycle_done machine.producer refl asked names published next is_version fits over step.1)
  cycle_keeps asked (reply.Refused refusal) next is_version fits step = stays_kept (reply.Refused refusal) next asked refl step.1
  cycle_keeps asked _ next is_version fits step = absurd step

-- as a cycle keeps the chain, so does the line that asks for it
line_keeps : (machine : Machine) (line : List ℕ) (chain : Chain) (next_state : NextState) (answer : Reply) (next : Machine) → Orders line (order.Cycle next_state)
    → CycleStep machine (asked_cycle (asked_state next_state)) answer next → KeepsCycle machine (asked_cycle (asked_state next_state)) answer chain next → Keeps machine line answer chain next
line_keeps machine line chain next_state (reply.Cycle names true version) next orders step (after, grows, kept, over, longer) =
    (after, (order.Cycle next_state, asked_cycle (asked_state next_state), orders, refl, sym step.0, grows), kept, over, longer)
line_keeps machine line chain next_state (reply.Change change) next orders step keeps = absurd step
line_keeps machine line chain next_state _ next orders step keeps = keeps

module _ (machine : Machine) (sound : IsSoundMachine machine) where
  succeeds_sound : (last : Published) (asked : AskedCycle) (names : List (List ℕ)) (published : Bool) (next : Machine) → IsOnce last
      → SucceedsAfter machine last asked names published next → IsSoundMachine next
  succeeds_sound last asked names false next once (may, (trees, gives, (rows, changed, makes, named, leaves))) = stays_sound machine sound next leaves.2
  succeeds_sound last asked names true next once (may, (trees, gives, (rows, changed, makes, named, (publishes, limits, (blobs, are, short, next_is))))) =
      let new : IsOnce (record { model = last.model; rows = rows; tag = asked.tag; version = asked.version }) =
      record {
        model = once.model;
        rows = (next_closed last.model last.rows rows trees makes.state).fits;
        once = next_once last.model last.rows rows trees once.once makes.state;
      } in
      subst IsSoundMachine (sym next_is) (new, sound.1)

  pub cycle_sound : (asked : AskedCycle) (answer : Reply) (next : Machine) → CycleStep machine asked answer next → IsSoundMachine next
  cycle_sound asked (reply.Cycle names published version) next step =
      let (last, is, succeeds) = found_with machine.producer _ step.1 in
      succeeds_sound last asked names published next (subst (λ (producer : Option Published). IfSome producer IsOnce) is sound.0) succeeds
  cycle_sound asked (reply.Refused refusal) next step = stays_sound machine sound next step.1
  cycle_sound asked _ next step = absurd step

module _ (machine : Machine) (chain : Chain) (holds : HoldsChain machine.store chain) (of : IsReaderOf chain machine) where
  succeeds_moves : (last : Published) (asked : AskedCycle) (names : List (List ℕ)) (published : Bool) (next : Machine) → SucceedsAfter machine last asked names published next
      → IsReaderOf chain next
  succeeds_moves last asked names false next (may, (trees, gives, (rows, changed, makes, named, leaves))) = same_of machine chain of next leaves.2
  succeeds_moves last asked names true next (may, (trees, gives, (rows, changed, makes, named, (publishes, limits, (blobs, are, short, next_is))))) =
      subst (IsReaderOf chain) (sym next_is) of

  pub cycle_moves : (asked : AskedCycle) (answer : Reply) (next : Machine) → CycleStep machine asked answer next → IsReaderOf chain next
  cycle_moves asked (reply.Cycle names published version) next step =
      let (last, is, succeeds) = found_with machine.producer _ step.1 in succeeds_moves last asked names published next succeeds
  cycle_moves asked (reply.Refused refusal) next step = same_of machine chain of next step.1
  cycle_moves asked _ next step = absurd step

-- a machine whose consumer is at no version stays so
abbrev pub IsNowhere : Machine → Type 0
IsNowhere machine = (machine.consumer ≡ None) × (machine.version ≡ None)

module _ (machine : Machine) (nowhere : IsNowhere machine) where
  succeeds_nowhere : (last : Published) (asked : AskedCycle) (names : List (List ℕ)) (published : Bool) (next : Machine) → SucceedsAfter machine last asked names published next → IsNowhere next
  succeeds_nowhere last asked names false next (may, (trees, gives, (rows, changed, makes, named, leaves))) = subst IsNowhere (sym leaves.2) nowhere
  succeeds_nowhere last asked names true next (may, (trees, gives, (rows, changed, makes, named, (publishes, limits, (blobs, are, short, next_is))))) = subst IsNowhere (sym next_is) nowhere

  pub cycle_nowhere : (asked : AskedCycle) (answer : Reply) (next : Machine) → CycleStep machine asked answer next → IsNowhere next
  cycle_nowhere asked (reply.Cycle names published version) next step =
      let (last, is, succeeds) = found_with machine.producer _ step.1 in succeeds_nowhere last asked names published next succeeds
  cycle_nowhere asked (reply.Refused refusal) next step = subst IsNowhere (sym step.1) nowhere
  cycle_nowhere asked _ next step = absurd step

-- and is so over each chain
pub nowhere_of : (chain : Chain) (machine : Machine) → IsNowhere machine → IsReaderOf chain machine
nowhere_of chain machine nowhere = subst (λ (consumer : Option Position). IsReaderAt chain consumer machine.version machine.past) (sym nowhere.0) nowhere.1

-- what an order of this kind asks for
abbrev state_in : (kind : Kind) → (shape kind).Asked → AskedState
state_in Kind.Cycle asked = asked
state_in _ asked = record { version = 0; tag = pos 0; add = null; snapshot = None }

cycle_order_keeps : KeepsOf Kind.Cycle cycle_form
cycle_order_keeps machine chain kept over line (order.Cycle next_state) orders asked asks_it answer next step =
    let stepped = subst (λ (state : AskedState). CycleStep machine (asked_cycle state) answer next) (sym (ap (λ (asking : Asking). state_in asking.kind asking.asked) asks_it)) step in
    line_keeps machine line chain next_state answer next orders stepped
    (cycle_keeps machine chain kept over (asked_cycle (asked_state next_state)) answer next orders.0.0 orders.0.1 stepped)
cycle_order_keeps machine chain kept over line _ orders asked asks_it answer next step = let kinds = ap (λ (asking : Asking). asking.kind) asks_it in absurd cc

pub cycle_lawful : IsLawful Kind.Cycle cycle_form
cycle_lawful = record {
  once = λ written machine sound asked one other next after is also. says_both one other next after (one_cycle written machine (asked_cycle asked) sound.0 one other next after is also);
  sound = λ machine sound asked answer next is. cycle_sound machine sound (asked_cycle asked) answer next is;
  keeps = cycle_order_keeps;
  moves = λ machine chain holds of asked answer next is. cycle_moves machine chain holds of (asked_cycle asked) answer next is;
  afresh = λ can. absurd cc;
}
