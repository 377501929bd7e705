-- What a script, or the command `make`, makes of the chain where it stops.
use Rattle.std.proofs.Common.{◌≡◌, ◌<◌, ◌≤◌, ◌⊎◌, inl, inr, ℕ, List, [], ◌∷◌, ◌++◌, true, false, if◌then◌else◌, Option, Some, None, length, take, refl, sym, ap, subst, ◌∙◌, arith, append_assoc}
use Rattle.std.specs.Prelude.{All, FitsSigned, IsSomeAnd, IsTrue}
use Rattle.std.specs.Fmt.{decimal}
use Rattle.std.specs.Int.{w64}
use Rattle.std.specs.FinMap.{insert}
use Rattle.std.proofs.lemmas.Bool.{cases_lt}
use Rattle.std.proofs.lemmas.List.{append-nil, take_all}
use Rattle.std.proofs.lemmas.List.Elements.{All-head, All-tail}
use Rattle.film_script.specs.Films.{cycle_tag, film_schemas}
use Rattle.hol_io.specs.declared.name.BlobName.TheVariants.{Announced, Delta, Reverse, Snapshot}
use Rattle.hol_io.specs.Name.{IsVersion}
use Rattle.hol_io.specs.Store.{Store}
use Rattle.row_model.specs.PlainTree.{PlainTree}
use Rattle.row_model.specs.Table.{Table}
use Rattle.schema_model.specs.Model.{IsModel}
use Rattle.hol_orders.specs.declared.order.Order.{Order}
use Rattle.hol_orders.specs.declared.order.Order.TheVariants as order
use Rattle.hol_orders.specs.Order.{IsOrder, Orders}
use Rattle.hol_orders.specs.Parts.{asked_change, asked_state}
use Rattle.hol_answers.specs.declared.reply.Reply.{Reply}
use Rattle.hol_answers.specs.Reply.{is_refusal, line_of}
use Rattle.hollow_machine.specs.CycleOrder.{Makes}
use Rattle.hollow_machine.specs.Follow.{MayFollow}
use Rattle.hollow_machine.specs.MakeCommand.{film_cycle, film_machine}
use Rattle.hollow_machine.specs.Made.{LeavesCycles, StopsMake}
use Rattle.hollow_machine.specs.Records.{AskedCycle, asked_cycle, cycle_of_change}
use Rattle.hollow_machine.specs.Script.{LineStep, Script}
use Rattle.hollow_machine.specs.State.{Machine, started}
use Rattle.hollow_machine.specs.Left.{HasFirst}
use Rattle.hollow_machine.specs.Puts.{ArePutsOf, CyclePuts, PutsAfter, PutsFor, asks_for}
use Rattle.hollow_machine.specs.Stopped.{LeavesAhead, StopsAfter, StopsBetween, StopsWithin}
use Rattle.hollow_machine.proofs.Scripts.{join}
use Rattle.state_blobs.specs.Published.{Published}
use Rattle.state_blobs.specs.Puts.{IsShort, Put, put_all, puts_of}
use Rattle.written_laws.specs.Chain.{Chain}
use Rattle.written_laws.specs.HoldsChain.{HoldsChain}
use Rattle.chain_laws.specs.Growth.{AddsAsked}
use Rattle.chain_laws.specs.Producers.{IsOver, IsProducerOf, KeepsChain, state_behind}
use Rattle.chain_laws.specs.Stopped.{BeginsAsked, HoldsLonger, HoldsLongerByMake, MayAdd, MayAddAhead, MayAddCycle, state_begun}
use Rattle.chain_laws.proofs.CycleLaws.{puts_keep, writable}
use Rattle.chain_laws.proofs.Lines.{script_keeps}
use Rattle.chain_laws.proofs.MadeChains.{IsNumber, numbers, passes_keep, script_over, front, behind}
use Rattle.chain_laws.proofs.PublishedState.{first_held, later_held}

not_published : IsTrue false → ⊥
not_published is = cc

module _ (machine : Machine) (chain : Chain) (kept : KeepsChain machine.store chain) (over : IsProducerOf chain machine.producer) where
  -- ---- a cycle

  module _ (last : Published) (asked : AskedCycle) (is_over : IsOver chain last) (is_version : IsVersion asked.version) (fits : FitsSigned w64 asked.tag)
      (may : MayFollow machine.store last.version asked.version asked.tag) (trees : List (ℕ × PlainTree)) (rows : Table) (changed : List ℕ) (makes : Makes last trees rows changed) (puts : List Put)
      (store : Store) (first : HasFirst puts machine.store store) where
    abbrev begun : Chain
    begun = insert chain asked.version (state_begun last asked.tag rows)

    -- not all puts: the state is not published
    part_holds : ArePutsOf last rows asked.version asked.tag asked.snapshot puts → first.count < length puts → HoldsChain store begun
    part_holds (limits, (blobs, inl (zero_before, (snapshot, written, is)), short, puts_are)) part =
        let all = subst (All IsShort) is short in
        let these : puts ≡ (Snapshot asked.version, snapshot) ∷ (Announced, decimal asked.version) ∷ [] = puts_are ∙ ap (λ (bs : List Put). puts_of bs asked.version) is in
        let one : first.count ≡ 1 = (let some = first.some in let many = ap length these in omega (arith, some, part, many)) in
        let store_is : store ≡ put_all machine.store ((Snapshot asked.version, snapshot) ∷ []) = first.put ∙ (λ i. put_all machine.store (take (one i) (these i))) in
        subst (λ (s : Store). HoldsChain s begun) (sym store_is)
        (first_held machine.store chain last asked.version asked.tag trees rows kept is_over (writable machine chain kept over last is_over) may is_version fits makes.state limits false
        snapshot zero_before written (all 0 (Announced, []) (omega arith)) not_published)
    part_holds (limits, (blobs, inr (nonzero, (delta, reverse, whole, forward, back, written, is)), short, puts_are)) part =
        let all = subst (All IsShort) is short in
        let to_it : Put = (Delta last.version asked.version, delta) in
        let from_it : Put = (Reverse asked.version last.version, reverse) in
        let behind = All-tail IsShort to_it (from_it ∷ whole) all in
        let later : List Put = puts_of (to_it ∷ from_it ∷ whole) asked.version in
        let these : puts ≡ later = puts_are ∙ ap (λ (bs : List Put). puts_of bs asked.version) is in
        let few : first.count < length later = (let many = ap length these in omega (arith, part, many)) in
        let store_is : store ≡ put_all machine.store (take first.count later) = first.put ∙ ap (λ (ps : List Put). put_all machine.store (take first.count ps)) these in
        subst (λ (s : Store). HoldsChain s begun) (sym store_is)
        (later_held machine.store chain last asked.version asked.tag trees rows kept is_over (writable machine chain kept over last is_over) may is_version fits makes.state limits false
        asked.snapshot delta reverse whole nonzero forward back written (All-head IsShort to_it (from_it ∷ whole) all) (All-head IsShort from_it whole behind) (All-tail IsShort from_it whole behind)
        not_published first.count first.some few)

    -- all puts: it is published
    all_holds : ArePutsOf last rows asked.version asked.tag asked.snapshot puts → length puts ≤ first.count → HoldsChain store (insert chain asked.version (state_behind last asked.tag rows))
    all_holds (limits, (blobs, are, short, puts_are)) all =
        let store_is : store ≡ put_all machine.store (puts_of blobs asked.version) = first.put ∙ ap (put_all machine.store) (take_all first.count puts all ∙ puts_are) in
        subst (λ (s : Store). HoldsChain s (insert chain asked.version (state_behind last asked.tag rows))) (sym store_is)
        (puts_keep machine chain kept over last asked.version asked.tag asked.snapshot trees rows changed blobs is_over is_version fits may makes limits are short (writable machine chain kept over last is_over)).holds

  -- the chain with the state that the cycle of this producer asks for, published or not
  abbrev Added : Published → AskedCycle → Store → Type 0
  Added last asked store = (after : Chain) × (AddsAsked chain last asked after ⊎ BeginsAsked chain last asked after) × HoldsChain store after

  adds_after : (last : Published) (asked : AskedCycle) (puts : List Put) (store : Store) → IsOver chain last → IsVersion asked.version → FitsSigned w64 asked.tag → PutsAfter machine.store last asked puts →
      HasFirst puts machine.store store → Added last asked store
  adds_after last asked puts store is_over is_version fits (may, (trees, rows, changed, gives, makes, publishes, are)) first =
      elim (cases_lt first.count (length puts)) [
        | inl part ↦ (
          insert chain asked.version (state_begun last asked.tag rows),
          inr (trees, rows, gives, makes.state, refl),
          part_holds last asked is_over is_version fits may trees rows changed makes puts store first are part,
        )
        | inr all ↦ (
          insert chain asked.version (state_behind last asked.tag rows),
          inl (trees, gives, (rows, makes.state, refl)),
          all_holds last asked is_over is_version fits may trees rows changed makes puts store first are all,
        )
      ]

  adds_found : (producer : Option Published) → machine.producer ≡ producer → IsProducerOf chain producer → (asked : AskedCycle) (puts : List Put) (store : Store) → IsVersion asked.version → FitsSigned w64 asked.tag →
      IsSomeAnd producer (λ last. PutsAfter machine.store last asked puts) → HasFirst puts machine.store store → (after : Chain) × MayAdd machine asked chain after × HoldsChain store after
  adds_found None is is_over asked puts store is_version fits are first = absurd are
  adds_found (Some last) is is_over asked puts store is_version fits are first =
      let (after, adds, holds) = adds_after last asked puts store is_over is_version fits are first in
      (after, inr (subst (λ (p : Option Published). IsSomeAnd p (λ l. AddsAsked chain l asked after ⊎ BeginsAsked chain l asked after)) (sym is) adds), holds)

  pub cycle_adds : (asked : AskedCycle) (puts : List Put) (store : Store) → IsVersion asked.version → FitsSigned w64 asked.tag → CyclePuts asked machine puts → HasFirst puts machine.store store →
      (after : Chain) × MayAdd machine asked chain after × HoldsChain store after
  cycle_adds asked puts store is_version fits are first = adds_found machine.producer refl over asked puts store is_version fits are first

  -- ---- a line

  no_first : (puts : List Put) (store : Store) → puts ≡ [] → HasFirst puts machine.store store → ⊥
  no_first puts store none first = let some = first.some in let within = first.within in let count = ap length none in omega (arith, some, within, count)

  -- the numbers of a cycle that an order asks for are a version and a tag
  asked_fits : (asking : Order) (asked : AskedCycle) → IsOrder asking → asks_for asking ≡ Some asked → IsVersion asked.version × FitsSigned w64 asked.tag
  asked_fits (order.Cycle next_state) asked fits is =
      let there : Some (asked_cycle (asked_state next_state)) ≡ Some asked = is in
      let same : asked_cycle (asked_state next_state) ≡ asked = cc in
      subst (λ (a : AskedCycle). IsVersion a.version × FitsSigned w64 a.tag) same (fits.0, fits.1)
  asked_fits (order.Change wanted) asked fits is =
      let there : Some (cycle_of_change (asked_change wanted)) ≡ Some asked = is in
      let same : cycle_of_change (asked_change wanted) ≡ asked = cc in
      subst (λ (a : AskedCycle). IsVersion a.version × FitsSigned w64 a.tag) same (fits.0, fits.1)
  asked_fits _ asked fits is = absurd cc

  order_adds : (line : List ℕ) (lines : List (List ℕ)) (asking : Order) (asked : Option AskedCycle) (puts : List Put) (store : Store) → asks_for asking ≡ asked → Orders line asking → PutsFor asked machine puts
      → HasFirst puts machine.store store → (after : Chain) × MayAddAhead machine (line ∷ lines) chain after × HoldsChain store after
  order_adds line lines asking (Some asked) puts store is orders are first =
      let (is_version, fits) = asked_fits asking asked orders.0 is in
      let (after, adds, holds) = cycle_adds asked puts store is_version fits are first in (after, inr (asking, asked, orders, is, adds), holds)
  order_adds line lines asking None puts store is orders are first = absurd (no_first puts store are first)

  same_holds : (store : Store) → store ≡ machine.store → HoldsChain store chain
  same_holds store same = subst (λ (s : Store). HoldsChain s chain) (sym same) kept.holds

  pub ahead_adds : (ahead : List (List ℕ)) (store : Store) → LeavesAhead machine ahead store → (after : Chain) × MayAddAhead machine ahead chain after × HoldsChain store after
  ahead_adds [] store same = (chain, refl, same_holds store same)
  ahead_adds (line ∷ lines) store (inl same) = (chain, inl refl, same_holds store same)
  ahead_adds (line ∷ lines) store (inr (puts, (short, (asked, orders, are)), first)) = order_adds line lines asked (asks_for asked) puts store refl orders are first

  pub cycles_add : (seed rows : ℕ) (ahead : List ℕ) (store : Store) → seed ≤ 999999 → All IsNumber ahead → LeavesCycles seed rows machine ahead store →
      (after : Chain) × MayAddCycle seed rows machine ahead chain after × HoldsChain store after
  cycles_add seed rows [] store small all same = (chain, refl, same_holds store same)
  cycles_add seed rows (cycle ∷ cycles) store small all (inl same) = (chain, inl refl, same_holds store same)
  cycles_add seed rows (cycle ∷ cycles) store small all (inr (puts, are, first)) =
      let number = All-head IsNumber cycle cycles all in
      let is_version : IsVersion cycle = (number.0, omega (arith, number.1)) in
      let fits : FitsSigned w64 (cycle_tag seed cycle) = omega (arith, small, number.1) in
      cycle_adds (film_cycle seed rows cycle) puts store is_version fits are first

-- ---- scripts

module _ (first : Store) (lines : List (List ℕ)) (text : List ℕ) (store : Store) (chain : Chain) (kept : KeepsChain first chain) where
  pub between_keeps : StopsBetween first lines text store → HoldsLonger first chain lines store
  between_keeps is =
      let (middle, along, held, over) = script_keeps (started first) is.machine is.answered text is.refused chain is.script kept tt in
      let (after, adds, holds) = ahead_adds is.machine middle held over is.ahead store is.left in
      record {
        answered = is.answered;
        ahead = is.ahead;
        lines_are = is.lines_are;
        text = text;
        machine = is.machine;
        middle = middle;
        grows = along;
        after = after;
        adds = adds;
        holds = holds;
      }

  -- the answer to the next line
  one_script : (machine next : Machine) (line : List ℕ) (answer : Reply) → LineStep machine line answer next → Script machine (line ∷ []) (line_of answer ++ []) (if is_refusal answer then true else false) next
  one_script machine next line answer step = (answer, next, [], false, step, (refl, refl, refl), refl, refl)

  pub within_keeps : StopsWithin first lines text store → HoldsLonger first chain lines store
  within_keeps is =
      let one = one_script is.between is.machine is.line is.reply is.step in
      let all = join (started first) is.between is.machine is.answered (is.line ∷ []) is.before (line_of is.reply ++ []) is.refused _ is.script one in
      let (middle, along, held, over) = script_keeps (started first) is.machine (is.answered ++ is.line ∷ []) (is.before ++ (line_of is.reply ++ [])) _ chain all kept tt in
      record {
        answered = is.answered ++ is.line ∷ [];
        ahead = is.ahead;
        lines_are = is.lines_are ∙ sym (append_assoc is.answered (is.line ∷ []) is.ahead);
        text = is.before ++ (line_of is.reply ++ []);
        machine = is.machine;
        middle = middle;
        grows = along;
        after = middle;
        adds = same_ahead is.machine is.ahead middle;
        holds = subst (λ (s : Store). HoldsChain s middle) (sym is.store_is) held.holds;
      }
    where
      same_ahead : (machine : Machine) (ahead : List (List ℕ)) (middle : Chain) → MayAddAhead machine ahead middle middle
      same_ahead machine [] middle = refl
      same_ahead machine (line ∷ lines') middle = inl refl

  pub after_keeps : StopsAfter first lines text store → HoldsLonger first chain lines store
  after_keeps (refused, machine, script, store_is) =
      let (middle, along, held, over) = script_keeps (started first) machine lines text refused chain script kept tt in
      record {
        answered = lines;
        ahead = [];
        lines_are = sym (append-nil lines);
        text = text;
        machine = machine;
        middle = middle;
        grows = along;
        after = middle;
        adds = refl;
        holds = subst (λ (s : Store). HoldsChain s middle) (sym store_is) held.holds;
      }

-- ---- the command `make`

pub make_stop_keeps : IsModel film_schemas → (first store : Store) (seed rows cycles : ℕ) (chain : Chain) → seed ≤ 999999 → cycles ≤ 1000 → KeepsChain first chain → StopsMake first seed rows cycles store →
    HoldsLongerByMake first chain seed rows cycles store
make_stop_keeps model first store seed rows cycles chain small few kept is =
    let all = subst (All IsNumber) is.cycles_are (numbers 1 cycles (omega arith) (omega (arith, few))) in
    let (middle, along, held, over) = passes_keep seed rows small is.answered is.published (film_machine first) is.next chain (front is.answered is.ahead all) kept (script_over model chain) is.passes in
    let (after, adds, holds) = cycles_add is.next middle held over seed rows is.ahead store small (behind is.answered is.ahead all) is.left in
    record {
      answered = is.answered;
      ahead = is.ahead;
      cycles_are = is.cycles_are;
      machine = is.next;
      middle = middle;
      grows = along;
      after = after;
      adds = adds;
      holds = holds;
    }
