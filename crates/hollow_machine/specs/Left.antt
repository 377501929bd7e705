-- What an order leaves of the store that stops before its answer: the puts of a cycle come one after another, and the run may end between two of them.
use Rattle.std.specs.Prelude.{◌≡◌, ◌≤◌, ◌⊎◌, ℕ, List, Option, Some, Result, IfSome, OnErr, length, take}
use Rattle.hol_io.specs.Store.{Store}
use Rattle.write_engine.specs.Production.{Production}
use Rattle.state_blobs.specs.Puts.{Put, put_all}
use Rattle.hol_answers.specs.declared.reply.Reply.{Reply}
use Rattle.hollow_machine.specs.Kept.{Kept, kept_with_producer, machine_of}
use Rattle.hollow_machine.specs.State.{Machine}

-- The store has the first of these puts: one or more of them, or all.
pub record HasFirst (puts : List Put) (store now : Store) : Type 0 where
  pub count : ℕ
  pub some : 1 ≤ count
  pub within : count ≤ length puts
  pub put : now ≡ put_all store (take count puts)

-- The store is as it was, or has the first of such puts.
abbrev pub HasPart : (List Put → Type 0) → Store → Store → Type 0
HasPart ArePuts store now = (now ≡ store) ⊎ ((puts : List Put) × ArePuts puts × HasFirst puts store now)

-- The store is as it was, or has all of such puts.
abbrev pub HasAll : (List Put → Type 0) → Store → Store → Type 0
HasAll ArePuts store now = (now ≡ store) ⊎ ((puts : List Put) × ArePuts puts × (first : HasFirst puts store now) × (first.count ≡ length puts))

-- What it means that no answer comes, where the store tells what it holds: the store is as it was, or has the first of such puts. Nothing is said of
-- what is kept beside the store.
abbrev pub Halts : {E : Type 0} → (Machine → List Put → Type 0) → Option Store → Kept → Option Store → Result Reply E → Type 0
Halts ArePuts held kept held' result =
    IfSome held (λ store. OnErr result ((next : Store) × (held' ≡ Some next) × HasPart (ArePuts (machine_of store kept)) store next))

-- The same of an order of a producer, whatever else is kept.
abbrev pub HaltsProducer : {E : Type 0} → (Machine → List Put → Type 0) → Option Store → Option Production → Option Store → Result Reply E → Type 0
HaltsProducer ArePuts held producer held' result = (kept : Kept) → Halts ArePuts held (kept_with_producer kept producer) held' result
