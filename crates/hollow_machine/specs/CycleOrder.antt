-- The order `cycle`: what it answers, and the machine behind it.
use Rattle.std.specs.Prelude.{◌≡◌, ◌≢◌, ◌⊎◌, ℕ, ℤ, List, [], All, Bool, true, false, Some, None, IsSomeAnd, slice_get}
use Rattle.std.specs.List.{AllZip}
use Rattle.hol_io.specs.Store.{Store}
use Rattle.schema_model.specs.declared.limit.Limit.{Limit}
use Rattle.schema_model.specs.declared.limit.Limit.TheVariants as limit
use Rattle.schema_model.specs.declared.schema.Schema.{Schema}
use Rattle.row_model.specs.PlainTree.{PlainTree}
use Rattle.row_model.specs.Table.{Table}
use Rattle.write_engine.specs.Cycle.{Next}
use Rattle.write_engine.specs.CycleLimit.{TellsTypes}
use Rattle.write_engine.specs.Production.{AreChanged}
use Rattle.hol_orders.specs.Parts.{AskedState}
use Rattle.hol_answers.specs.declared.refusal.Refusal.{Refusal}
use Rattle.hol_answers.specs.declared.refusal.Refusal.TheVariants.{NoModel, NoType, BadRecord, TooLarge}
use Rattle.hol_answers.specs.declared.reply.Reply.{Reply}
use Rattle.hol_answers.specs.declared.reply.Reply.TheVariants.{Cycle, Refused}
use Rattle.hollow_machine.specs.Follow.{MayFollow, MayNotFollow}
use Rattle.state_blobs.specs.Puts.{AreBlobs, IsShort, Put, puts_of, put_all}
use Rattle.hollow_machine.specs.Records.{AskedCycle, GivesNoTrees, GivesTrees, asked_cycle}
use Rattle.hollow_machine.specs.State.{Machine, with_producer, with_store}
use Rattle.state_blobs.specs.Published.{Published}
use Rattle.hollow_machine.specs.Forms.{OrderForm, moving}

-- The records of these types and trees make this next state, and these types change by it.
pub record Makes (last : Published) (trees : List (ℕ × PlainTree)) (rows : Table) (changed : List ℕ) : Type 0 where
  pub state : Next last.model last.rows trees rows
  pub types : AreChanged last.rows rows changed

-- A cycle publishes: it is the first one, or it changes a type.
abbrev pub Publishes : Published → List ℕ → Type 0
Publishes last changed = (last.version ≡ 0) ⊎ (changed ≢ [])

-- Which limit is passed by the records of these types and trees: a row would get the ordinal 2^22; or the first limit that a type of the next state
-- passes; or each type keeps all, and a blob that would be put is too long.
abbrev pub PassesLimit : Published → ℕ → ℤ → Bool → List (ℕ × PlainTree) → Limit → Type 0
PassesLimit last version tag with_snapshot trees limit.Ordinals = (rows : Table) → ¬ Next last.model last.rows trees rows
PassesLimit last version tag with_snapshot trees limit.Blob =
    (rows : Table) × (changed : List ℕ) × Makes last trees rows changed × Publishes last changed × TellsTypes last.model last.rows rows None
    × ((blobs : List Put) → AreBlobs last rows version tag with_snapshot blobs → ¬ All IsShort blobs)
PassesLimit last version tag with_snapshot trees passed =
    (rows : Table) × (changed : List ℕ) × Makes last trees rows changed × Publishes last changed × TellsTypes last.model last.rows rows (Some passed)

-- Why the order is refused, where there is a producer: the state may not follow; or its records give no trees; or these pass a limit.
abbrev pub RefusesAfter : Store → Published → AskedCycle → Refusal → Type 0
RefusesAfter store last asked (NoType name) = MayFollow store last.version asked.version asked.tag × GivesNoTrees last.model asked.add (NoType name)
RefusesAfter store last asked (BadRecord fault) = MayFollow store last.version asked.version asked.tag × GivesNoTrees last.model asked.add (BadRecord fault)
RefusesAfter store last asked (TooLarge passed) =
    MayFollow store last.version asked.version asked.tag
    × ((trees : List (ℕ × PlainTree)) × GivesTrees last asked.add trees × PassesLimit last asked.version asked.tag asked.snapshot trees passed)
RefusesAfter store last asked refusal = MayNotFollow store last.version asked.version asked.tag refusal

-- Why the order is refused: there is no producer, or what there is to it.
abbrev pub CycleRefusal : Machine → AskedCycle → Refusal → Type 0
CycleRefusal machine asked NoModel = machine.producer ≡ None
CycleRefusal machine asked refusal = IsSomeAnd machine.producer (λ last. RefusesAfter machine.store last asked refusal)

-- The names of the types at these indexes.
abbrev pub AreNamed : List Schema → List ℕ → List (List ℕ) → Type 0
AreNamed schemas types names = AllZip (λ t name. IsSomeAnd (slice_get schemas t) (λ schema. schema.name ≡ name)) types names

-- What a cycle leaves that published nothing, or published: the machine as it was, or with all puts, of which the snapshot is one where it is asked for,
-- and the new rows, tag and version.
abbrev pub Leaves : Machine → Published → Table → List ℕ → ℕ → ℤ → Bool → Bool → Machine → Type 0
Leaves machine last rows changed version tag with_snapshot false next = (last.version ≢ 0) × (changed ≡ []) × (next ≡ machine)
Leaves machine last rows changed version tag with_snapshot true next =
    Publishes last changed × TellsTypes last.model last.rows rows None
    × ((blobs : List Put) × AreBlobs last rows version tag with_snapshot blobs × All IsShort blobs
    × (next ≡ with_producer (with_store machine (put_all machine.store (puts_of blobs version))) (Some (record { model = last.model; rows = rows; tag = tag; version = version }))))

-- What is answered that is not refused of a state that may follow with the records of these types and trees, and the machine behind it.
abbrev pub Succeeds : Machine → Published → ℕ → ℤ → Bool → List (ℕ × PlainTree) → List (List ℕ) → Bool → Machine → Type 0
Succeeds machine last version tag with_snapshot trees names published next =
    (rows : Table) × (changed : List ℕ) × Makes last trees rows changed × AreNamed last.model changed names
    × Leaves machine last rows changed version tag with_snapshot published next

-- The state may follow, and its records give trees, of which this is answered.
abbrev pub SucceedsAfter : Machine → Published → AskedCycle → List (List ℕ) → Bool → Machine → Type 0
SucceedsAfter machine last asked names published next =
    MayFollow machine.store last.version asked.version asked.tag
    × ((trees : List (ℕ × PlainTree)) × GivesTrees last asked.add trees
    × Succeeds machine last asked.version asked.tag asked.snapshot trees names published next)

-- What the order answers, and the machine behind it.
abbrev pub CycleStep : Machine → AskedCycle → Reply → Machine → Type 0
CycleStep machine asked (Cycle names published version) next =
    (version ≡ asked.version) × IsSomeAnd machine.producer (λ last. SucceedsAfter machine last asked names published next)
CycleStep machine asked (Refused refusal) next = CycleRefusal machine asked refusal × (next ≡ machine)
CycleStep machine asked _ next = ⊥

abbrev pub cycle_form : OrderForm AskedState
cycle_form = moving (λ machine asked reply next. CycleStep machine (asked_cycle asked) reply next)
