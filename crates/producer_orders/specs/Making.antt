-- What the parts of a cycle make of a producer that has published its last state.
use Rattle.std.specs.Prelude.{Bool, ◌≡◌, ◌<◌, ◌↔◌, ℕ, ℤ, List, All, IfSome, IsTrue, true, false, Option, Some, None, Result, ⊤, length}
use Rattle.hol_io.specs.Store.{Store}
use Rattle.schema_model.specs.declared.limit.Limit.TheVariants as limit
use Rattle.row_model.specs.PlainTree.{PlainTree}
use Rattle.row_model.specs.Table.{Table}
use Rattle.write_engine.specs.Cycle.{Next}
use Rattle.row_packing.specs.Measured.{AreMeasured}
use Rattle.write_engine.specs.CycleLimit.{IsToPublish, TellsCycle, TellsTypes}
use Rattle.write_engine.specs.Production.{Production}
use Rattle.write_engine.specs.declared.producer.Closed.{Closed}
use Rattle.hol_answers.specs.declared.refusal.Refusal.{Refusal}
use Rattle.hol_answers.specs.declared.refusal.Refusal.TheVariants.{TooLarge}
use Rattle.hol_answers.specs.declared.reply.Reply.{Reply}
use Rattle.hol_answers.specs.declared.reply.Reply.TheVariants.{Cycle}
use Rattle.hollow_machine.specs.CycleOrder.{AreNamed, CycleStep, Leaves, Makes, Publishes, RefusesAfter}
use Rattle.hollow_machine.specs.Follow.{MayFollow, MayNotFollow}
use Rattle.hollow_machine.specs.Left.{HasPart}
use Rattle.hollow_machine.specs.Puts.{ArePutsOf, PutsAfter}
use Rattle.hollow_machine.specs.Records.{Adding, AskedCycle, GivesNoTrees, GivesTrees}
use Rattle.hollow_machine.specs.State.{Machine, with_producer, with_store}
use Rattle.state_blobs.specs.Puts.{AreBlobs, IsShort, Put, puts_of, put_all}
use Rattle.state_blobs.specs.Published.{Published}
use Rattle.state_blobs.specs.Blobs.{puts_in}
use Rattle.producer_orders.specs.Ends.{IsAnyStop, TellsEnd}
use Rattle.producer_orders.specs.declared.cycle_end.CycleEnd.{CycleEnd}
use Rattle.state_blobs.specs.declared.write.Blobs.{Blobs}

-- A closed cycle: the trees that the records give, the state that these make and the types that it changes, the limit that it passes, and what is measured of
-- each type where it is to be published.
pub record IsMade (last : Published) (add : Adding) (made : Production) (closed : Closed) : Type 0 where
  pub trees : List (ℕ × PlainTree)
  pub gives : GivesTrees last add trees
  pub makes : Makes last trees made.current closed.changed
  pub over : TellsCycle last.model last.rows made.current last.version closed.changed made.over
  pub measured : IsToPublish last.version closed.changed → AreMeasured last.model last.rows made.current closed.measured
  pub first : IsTrue closed.first ↔ (last.version ≡ 0)
  pub in_model : All (λ t. t < length last.model) closed.changed
  pub is_closed : made.closed ≡ true

-- The trees that the records give make these rows.
abbrev pub AreTaken : Published → Adding → Table → Type 0
AreTaken last add rows = (trees : List (ℕ × PlainTree)) × GivesTrees last add trees × Next last.model last.rows trees rows

-- The records are refused so: they give no trees; or they do, and a row would get the ordinal 2^22.
abbrev pub AreRefused : Published → Adding → Refusal → Type 0
AreRefused last add (TooLarge limit.Ordinals) =
    (trees : List (ℕ × PlainTree)) × GivesTrees last add trees × ((rows : Table) → ¬ Next last.model last.rows trees rows)
AreRefused last add refusal = GivesNoTrees last.model add refusal

-- A state that is to be published is refused so: a type passes a limit; or each type keeps all, and a blob is too long.
abbrev pub IsTooLarge : Published → Table → ℕ → ℤ → Bool → Refusal → Type 0
IsTooLarge last rows version tag with_snapshot (TooLarge limit.Blob) =
    TellsTypes last.model last.rows rows None × ((blobs : List Put) → AreBlobs last rows version tag with_snapshot blobs → ¬ All IsShort blobs)
IsTooLarge last rows version tag with_snapshot (TooLarge passed) = TellsTypes last.model last.rows rows (Some passed)
IsTooLarge last rows version tag with_snapshot _ = ⊥

-- The state is published: its blobs are put, and it is the producer's last one.
abbrev pub IsPublished : Store → Published → Table → ℕ → ℤ → Bool → Option Store → Published → Type 0
IsPublished store last rows version tag with_snapshot held now =
    TellsTypes last.model last.rows rows None
    × ((blobs : List Put) × AreBlobs last rows version tag with_snapshot blobs × All IsShort blobs
    × (held ≡ Some (put_all store (puts_of blobs version))) × (now ≡ record { model = last.model; rows = rows; tag = tag; version = version }))

-- the machine with this store, and a producer that has published so
abbrev pub machine_with : Machine → Store → Published → Machine
machine_with machine store last = with_producer (with_store machine store) (Some last)

-- The answer to a closed cycle, and what it leaves, whatever else the machine has.
abbrev pub IsEnded : Store → Published → Table → List ℕ → ℕ → ℤ → Bool → Option Store → Published → Reply → Type 0
IsEnded store last rows changed version tag with_snapshot held now (Cycle names published version') =
    (version' ≡ version) × AreNamed last.model changed names
    × ((next : Store) × (held ≡ Some next)
    × ((machine : Machine) → Leaves (machine_with machine store last) last rows changed version tag with_snapshot published (machine_with machine next now)))
IsEnded store last rows changed version tag with_snapshot held now _ = ⊥

-- The blobs of a state that keeps all limits.
abbrev pub IsWithin : Published → Table → ℕ → ℤ → Bool → Blobs → Type 0
IsWithin last rows version tag with_snapshot blobs =
    TellsTypes last.model last.rows rows None × AreBlobs last rows version tag with_snapshot (puts_in blobs) × All IsShort (puts_in blobs)

-- The store is as it was, or has the first of such puts.
abbrev pub StopsPart : (List Put → Type 0) → Store → Option Store → Type 0
StopsPart ArePuts store held = (next : Store) × (held ≡ Some next) × HasPart ArePuts store next

-- What a cycle of a producer answers or is refused for, over what the store tells, and what it leaves, whatever else the machine has.
abbrev pub Steps : AskedCycle → Option Store → Published → Option Store → Published → Result Reply CycleEnd → Type 0
Steps asked held last held' now result = IfSome held (λ store. TellsEnd
    (λ reply. (next : Store) × (held' ≡ Some next)
    × ((machine : Machine) → CycleStep (machine_with machine store last) asked reply (machine_with machine next now)))
    (λ refusal. (held' ≡ Some store) × RefusesAfter store last asked refusal)
    (λ stop. StopsPart (PutsAfter store last asked) store held') result)

-- What the check says of a state that is to follow the last one.
abbrev pub Follows : Option Store → ℕ → ℕ → ℤ → Result ⊤ CycleEnd → Type 0
Follows held last version tag result =
    IfSome held (λ store. TellsEnd (λ _. MayFollow store last version tag) (MayNotFollow store last version tag) IsAnyStop result)

-- How a closed cycle ends, over what the store tells, and what it leaves.
abbrev pub Ends : Option Store → Published → Table → List ℕ → ℕ → ℤ → Bool → Option Store → Published → Result Reply CycleEnd → Type 0
Ends held last rows changed version tag with_snapshot held' now result = IfSome held (λ store. TellsEnd
    (IsEnded store last rows changed version tag with_snapshot held' now)
    (λ refusal. (held' ≡ Some store) × Publishes last changed × IsTooLarge last rows version tag with_snapshot refusal)
    (λ stop. StopsPart (λ puts. Publishes last changed × ArePutsOf last rows version tag with_snapshot puts) store held') result)

-- How a closed cycle that is to be published ends.
abbrev pub EndsPublished : Option Store → Published → Table → ℕ → ℤ → Bool → Option Store → Published → Result ⊤ CycleEnd → Type 0
EndsPublished held last rows version tag with_snapshot held' now result = IfSome held (λ store. TellsEnd
    (λ _. IsPublished store last rows version tag with_snapshot held' now)
    (λ refusal. (held' ≡ Some store) × IsTooLarge last rows version tag with_snapshot refusal)
    (λ stop. StopsPart (ArePutsOf last rows version tag with_snapshot) store held') result)

-- The rows that the producer has published behind an answer: those of the cycle where it published, and else those of before.
abbrev pub KeepsRows : Production → Production → Reply → Type 0
KeepsRows old new (Cycle names true version) = new.previous ≡ old.current
KeepsRows old new (Cycle names false version) = new.previous ≡ old.previous
KeepsRows old new _ = ⊥
