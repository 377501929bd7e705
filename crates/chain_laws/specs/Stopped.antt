-- What a script, or the command `make`, makes of the chain where it stops: the states that its answered lines published, and at most one more, which may
-- be there in part.
use Rattle.std.specs.Prelude.{◌≡◌, ◌⊎◌, ◌++◌, ℕ, ℤ, List, [], ◌∷◌, Some, IsSomeAnd, false}
use Rattle.std.specs.FinMap.{insert}
use Rattle.std.specs.List.{range_with_len}
use Rattle.hol_io.specs.Store.{Store}
use Rattle.row_model.specs.PlainTree.{PlainTree}
use Rattle.row_model.specs.Table.{Table}
use Rattle.write_engine.specs.Cycle.{Next}
use Rattle.hol_orders.specs.declared.order.Order.{Order}
use Rattle.hol_orders.specs.Order.{Orders}
use Rattle.hollow_machine.specs.MakeCommand.{film_cycle, film_machine}
use Rattle.hollow_machine.specs.Puts.{asks_for}
use Rattle.hollow_machine.specs.Records.{AskedCycle, GivesTrees}
use Rattle.hollow_machine.specs.State.{Machine, started}
use Rattle.state_blobs.specs.Published.{Published}
use Rattle.written_laws.specs.Chain.{Chain, ChainState}
use Rattle.written_laws.specs.HoldsChain.{HoldsChain}
use Rattle.chain_laws.specs.Growth.{AddsAsked, GrowsAlong, GrowsByCycles}
use Rattle.chain_laws.specs.Producers.{state_behind}

-- the state that a producer was to publish behind its last one, and did not
abbrev pub state_begun : Published → ℤ → Table → ChainState
state_begun last tag rows = record (state_behind last tag rows) { published = false }

-- The chain has the state more that is asked for, but it is not published.
abbrev pub BeginsAsked : Chain → Published → AskedCycle → Chain → Type 0
BeginsAsked chain last asked after =
    (trees : List (ℕ × PlainTree)) × (rows : Table) × GivesTrees last asked.add trees × Next last.model last.rows trees rows
    × (after ≡ insert chain asked.version (state_begun last asked.tag rows))

-- The chain is the same, or has the state more that a cycle asks for, published or not.
abbrev pub MayAdd : Machine → AskedCycle → Chain → Chain → Type 0
MayAdd machine asked chain after =
    (after ≡ chain) ⊎ IsSomeAnd machine.producer (λ last. AddsAsked chain last asked after ⊎ BeginsAsked chain last asked after)

-- The chain is the same, or has the state more that the first of these lines asks for, published or not.
abbrev pub MayAddAhead : Machine → List (List ℕ) → Chain → Chain → Type 0
MayAddAhead machine [] chain after = after ≡ chain
MayAddAhead machine (line ∷ lines) chain after =
    (after ≡ chain) ⊎ ((order : Order) × (asked : AskedCycle) × Orders line order × (asks_for order ≡ Some asked) × MayAdd machine asked chain after)

-- A store holds the chain that the first of these lines made of the earlier one, with at most one state more, which the next line was to publish.
pub record HoldsLonger (first : Store) (chain : Chain) (lines : List (List ℕ)) (store : Store) : Type 0 where
  pub answered : List (List ℕ)
  pub ahead : List (List ℕ)
  pub lines_are : lines ≡ answered ++ ahead
  pub text : List ℕ
  pub machine : Machine
  pub middle : Chain
  pub grows : GrowsAlong (started first) answered text chain machine middle
  pub after : Chain
  pub adds : MayAddAhead machine ahead middle after
  pub holds : HoldsChain store after

-- The same of the cycles of `make`.
abbrev pub MayAddCycle : ℕ → ℕ → Machine → List ℕ → Chain → Chain → Type 0
MayAddCycle seed rows machine [] chain after = after ≡ chain
MayAddCycle seed rows machine (cycle ∷ cycles) chain after = MayAdd machine (film_cycle seed rows cycle) chain after

pub record HoldsLongerByMake (first : Store) (chain : Chain) (seed rows cycles : ℕ) (store : Store) : Type 0 where
  pub answered : List ℕ
  pub ahead : List ℕ
  pub cycles_are : range_with_len 1 cycles ≡ answered ++ ahead
  pub machine : Machine
  pub middle : Chain
  pub grows : GrowsByCycles seed rows (film_machine first) answered chain machine middle
  pub after : Chain
  pub adds : MayAddCycle seed rows machine ahead middle after
  pub holds : HoldsChain store after
