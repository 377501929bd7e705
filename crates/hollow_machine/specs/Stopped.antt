-- What a script that stops has answered, and the store that it leaves.
use Rattle.std.specs.Prelude.{◌≡◌, ◌<◌, ◌⊎◌, ◌++◌, ℕ, List, [], ◌∷◌, Bool, length, take}
use Rattle.hol_io.specs.Store.{Store}
use Rattle.state_blobs.specs.Puts.{Put}
use Rattle.hol_answers.specs.declared.reply.Reply.{Reply}
use Rattle.hol_answers.specs.Reply.{line_of}
use Rattle.hollow_machine.specs.Script.{LineStep, Script}
use Rattle.hollow_machine.specs.State.{Machine, started}
use Rattle.hollow_machine.specs.Left.{HasFirst}
use Rattle.hollow_machine.specs.Puts.{LinePuts}

-- The store is that of the machine; or it has besides the first puts of the first of the lines ahead, or all of them.
abbrev pub LeavesAhead : Machine → List (List ℕ) → Store → Type 0
LeavesAhead machine [] store = store ≡ machine.store
LeavesAhead machine (line ∷ lines) store =
    (store ≡ machine.store) ⊎ ((puts : List Put) × LinePuts line machine puts × HasFirst puts machine.store store)

-- These lines are answered by this text, over a store, and this is the store behind them.
abbrev pub StopsAfter : Store → List (List ℕ) → List ℕ → Store → Type 0
StopsAfter first lines text store = (refused : Bool) × (machine : Machine) × Script (started first) lines text refused machine × (store ≡ machine.store)

-- Of these lines some first ones are answered by this text, and the store is the one behind them, or has the first puts of the next line.
pub record StopsBetween (first : Store) (lines : List (List ℕ)) (text : List ℕ) (store : Store) : Type 0 where
  pub answered : List (List ℕ)
  pub ahead : List (List ℕ)
  pub lines_are : lines ≡ answered ++ ahead
  pub refused : Bool
  pub machine : Machine
  pub script : Script (started first) answered text refused machine
  pub left : LeavesAhead machine ahead store

-- Of these lines some first ones are answered by the front of this text, and the rest of it is a front of the answer to the next one, but not all of it; and
-- the store is the one behind that one.
pub record StopsWithin (first : Store) (lines : List (List ℕ)) (text : List ℕ) (store : Store) : Type 0 where
  pub answered : List (List ℕ)
  pub line : List ℕ
  pub ahead : List (List ℕ)
  pub lines_are : lines ≡ answered ++ line ∷ ahead
  pub before : List ℕ
  pub refused : Bool
  pub between : Machine
  pub script : Script (started first) answered before refused between
  pub reply : Reply
  pub machine : Machine
  pub step : LineStep between line reply machine
  pub count : ℕ
  pub part : count < length (line_of reply)
  pub text_is : text ≡ before ++ take count (line_of reply)
  pub store_is : store ≡ machine.store
