-- What the command `make` leaves of a store where it stops before its answer.
use Rattle.std.specs.Prelude.{◌≡◌, ◌⊎◌, ◌++◌, ℕ, List, [], ◌∷◌}
use Rattle.std.specs.List.{range_with_len}
use Rattle.hol_io.specs.Store.{Store}
use Rattle.state_blobs.specs.Puts.{Put}
use Rattle.hollow_machine.specs.MakeCommand.{PassesCycles, film_cycle, film_machine}
use Rattle.hollow_machine.specs.State.{Machine}
use Rattle.hollow_machine.specs.Left.{HasFirst}
use Rattle.hollow_machine.specs.Puts.{CyclePuts}

-- The store is that of the machine; or it has besides the first puts of the first of the cycles ahead, or all of them.
abbrev pub LeavesCycles : ℕ → ℕ → Machine → List ℕ → Store → Type 0
LeavesCycles seed rows machine [] store = store ≡ machine.store
LeavesCycles seed rows machine (cycle ∷ cycles) store =
    (store ≡ machine.store) ⊎ ((puts : List Put) × CyclePuts (film_cycle seed rows cycle) machine puts × HasFirst puts machine.store store)

-- Of these cycles some first ones pass, and the store is the one behind them, or has the first puts of the next one.
pub record StopsCycles (seed rows : ℕ) (machine : Machine) (cycles : List ℕ) (store : Store) : Type 0 where
  pub answered : List ℕ
  pub ahead : List ℕ
  pub cycles_are : cycles ≡ answered ++ ahead
  pub published : List ℕ
  pub next : Machine
  pub passes : PassesCycles seed rows machine answered published next
  pub left : LeavesCycles seed rows next ahead store

-- What the command leaves of a store where it stops before its answer.
abbrev pub StopsMake : Store → ℕ → ℕ → ℕ → Store → Type 0
StopsMake first seed rows cycles store = StopsCycles seed rows (film_machine first) (range_with_len 1 cycles) store
