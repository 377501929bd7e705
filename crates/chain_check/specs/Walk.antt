-- A walk over versions: the calls that lead it from one to the next, where its state and a fresh one are compared, and what a check of it answers.
use Rattle.std.specs.Prelude.{Bool, true, false, IfSome, is_some, filter, ◌≡◌, ◌≢◌, ◌<◌, ◌+◌, ◌⊎◌, ℕ, ℤ, List, [], ◌∷◌, ◌++◌, Option, None, Some, Result, Ok, Err, length, slice_index}
use Rattle.std.specs.FinMap.{get}
use Rattle.std.specs.List.{last_or}
use Rattle.hol_io.specs.declared.name.BlobName.{BlobName}
use Rattle.hol_io.specs.declared.name.BlobName.TheVariants.{Snapshot}
use Rattle.hol_io.specs.Name.{step_name}
use Rattle.hol_io.specs.Store.{Store}
use Rattle.schema_model.specs.declared.schema.name.Name.{Name}
use Rattle.schema_model.specs.declared.schema.Schema.{Schema}
use Rattle.row_model.specs.Table.{Table}
use Rattle.chain_check.specs.declared.checking.CheckFault.{CheckFault}
use Rattle.chain_check.specs.Compare.{Compare, State}

-- The state that a walker has, by what is seen of it.
abbrev pub state_by : {W : Type 0} → (W → ℤ) → (W → List Schema) → (W → Table) → W → State
state_by tag schemas table walker = record { tag = tag walker; schemas = schemas walker; table = table walker }

-- What the calls of a walker of this kind answer, and the state that it has.
pub record Calls (W E : Type 0) : Type 1 where
  pub loads : Option Store → ℕ → W → W → Result (Unit {0}) E → Type 0
  pub steps : Option Store → ℕ → ℕ → W → W → Result (Unit {0}) E → Type 0
  pub state : W → State

abbrev pub calls_by : {W E : Type 0} → (Option Store → ℕ → W → W → Result (Unit {0}) E → Type 0) → (Option Store → ℕ → ℕ → W → W → Result (Unit {0}) E → Type 0)
    → (W → ℤ) → (W → List Schema) → (W → Table) → Calls W E
calls_by loads steps tag schemas table = record { loads = loads; steps = steps; state = state_by tag schemas table }

-- The walker, and the fresh one beside it.
pub record Both (W : Type 0) : Type 0 where
  pub walker : W
  pub fresh : W

-- Each version is another one than the version before it.
abbrev pub NeighboursDiffer : List ℕ → Type 0
NeighboursDiffer versions = (place : ℕ) → place + 1 < length versions → slice_index versions place ≢ slice_index versions (place + 1)

-- The blob that leads a walk to a version: the snapshot of the first one, and else what leads there from the version before.
abbrev pub name_of_call : Option ℕ → ℕ → BlobName
name_of_call None to = Snapshot to
name_of_call (Some from) to = step_name from to

-- Whether the store has the snapshot of a version, as far as it tells what it holds.
abbrev pub HasSnapshot : Option Store → ℕ → Bool → Type 0
HasSnapshot held version there = IfSome held (λ store. there ≡ is_some (get store (Snapshot version)))

-- how many of these versions have their snapshot in the store: at those states are compared
abbrev pub compared_in : Store → List ℕ → ℕ
compared_in store versions = length (filter (λ version. is_some (get store (Snapshot version))) versions)

module _ {W E : Type 0} (calls : Calls W E) (held : Option Store) where
  -- What the call answers that leads a walk to a version: the load of the first one, and else a step from the version before.
  abbrev pub Goes : Option ℕ → ℕ → W → W → Result (Unit {0}) E → Type 0
  Goes None to = calls.loads held to
  Goes (Some from) to = calls.steps held from to

  -- The walk is led to a version whose snapshot the store has, and the fresh one loads it.
  pub record Arrives (from : Option ℕ) (to : ℕ) (before now : Both W) : Type 0 where
    pub goes : Goes from to before.walker now.walker (Ok tt)
    pub has : HasSnapshot held to true
    pub loads : calls.loads held to before.fresh now.fresh (Ok tt)

  -- The walk is led to a version whose snapshot the store has not, and the fresh one stays.
  pub record PassesBy (from : Option ℕ) (to : ℕ) (before now : Both W) : Type 0 where
    pub goes : Goes from to before.walker now.walker (Ok tt)
    pub lacks : HasSnapshot held to false
    pub still : now.fresh ≡ before.fresh

  -- The walk is led to a version, and there its state is the fresh one, or the store has not its snapshot.
  abbrev pub Visits : Option ℕ → ℕ → Both W → Both W → Type 0
  Visits from to before now = (Arrives from to before now × Compare (calls.state now.walker) (calls.state now.fresh) None) ⊎ PassesBy from to before now

  -- The walk goes through these versions, and at each of them whose snapshot the store has its state is the fresh one.
  abbrev pub Passes : Option ℕ → List ℕ → Both W → Both W → Type 0
  Passes from [] before now = now ≡ before
  Passes from (to ∷ more) before now =
      (there : Both W) × Visits from to before there × Passes (Some to) more there now

  -- The walk over these versions comes before one of them: it passed all that stand before this one, the last of which is `from`.
  pub record Comes (versions : List ℕ) (start : Both W) (from : Option ℕ) (to : ℕ) (now : Both W) : Type 0 where
    pub passed : List ℕ
    pub more : List ℕ
    pub versions_are : versions ≡ passed ++ to ∷ more
    pub from_is : from ≡ last_or None passed
    pub passes : Passes None passed start now

  -- The walk comes to a version, and there the two states differ at this place.
  pub record Differs (versions : List ℕ) (start : Both W) (version : ℕ) (type_name : Option Name) (ordinal : Option ℕ) (now : Both W) : Type 0 where
    pub from : Option ℕ
    pub before : Both W
    pub comes : Comes versions start from version before
    pub arrives : Arrives from version before now
    pub place : Compare (calls.state now.walker) (calls.state now.fresh) (Some (record { type_name = type_name; ordinal = ordinal }))

  -- The call that leads the walk to a version is refused, or else the fresh one's load is, where the store has the snapshot; and this is the blob that it
  -- asks for.
  abbrev pub Refuses : Option ℕ → ℕ → Both W → BlobName → E → Both W → Type 0
  Refuses from to before name fault now =
      ((name ≡ name_of_call from to) × Goes from to before.walker now.walker (Err fault) × (now.fresh ≡ before.fresh))
      ⊎ ((name ≡ Snapshot to) × Goes from to before.walker now.walker (Ok tt) × HasSnapshot held to true × calls.loads held to before.fresh now.fresh (Err fault))

  -- The walk comes before a version, and a call there is refused.
  pub record Stops (versions : List ℕ) (start : Both W) (name : BlobName) (fault : E) (now : Both W) : Type 0 where
    pub from : Option ℕ
    pub to : ℕ
    pub before : Both W
    pub comes : Comes versions start from to before
    pub refuses : Refuses from to before name fault now

  -- What each answer to a check tells.
  abbrev pub TellsCheck : List ℕ → Both W → Both W → Result ℕ (CheckFault E) → Type 0
  TellsCheck versions start now (Ok compared) = Passes None versions start now
  TellsCheck versions start now (Err (CheckFault.Walk name fault)) = Stops versions start name fault now
  TellsCheck versions start now (Err (CheckFault.Mismatch version type_name ordinal)) = Differs versions start version type_name ordinal now
  TellsCheck versions start now (Err CheckFault.Store) = Unit {0}
  TellsCheck versions start now (Err CheckFault.Memory) = Unit {0}

  -- The same of the fresh one's load of a version and the comparison there, if the store has its snapshot. The answer is whether it has.
  abbrev pub TellsFresh : ℕ → W → W → W → Result Bool (CheckFault E) → Type 0
  TellsFresh to walker before now (Ok true) = HasSnapshot held to true × calls.loads held to before now (Ok tt) × Compare (calls.state walker) (calls.state now) None
  TellsFresh to walker before now (Ok false) = HasSnapshot held to false × (now ≡ before)
  TellsFresh to walker before now (Err (CheckFault.Walk name fault)) = (name ≡ Snapshot to) × HasSnapshot held to true × calls.loads held to before now (Err fault)
  TellsFresh to walker before now (Err (CheckFault.Mismatch version type_name ordinal)) =
      (version ≡ to) × HasSnapshot held to true × calls.loads held to before now (Ok tt) × Compare (calls.state walker) (calls.state now) (Some (record { type_name = type_name; ordinal = ordinal }))
  TellsFresh to walker before now (Err CheckFault.Store) = Unit {0}
  TellsFresh to walker before now (Err CheckFault.Memory) = Unit {0}

  -- The same of one version: of the walk's call, the fresh one's load and the comparison.
  abbrev pub TellsVersion : Option ℕ → ℕ → Both W → Both W → Result Bool (CheckFault E) → Type 0
  TellsVersion from to before now (Ok true) = Arrives from to before now × Compare (calls.state now.walker) (calls.state now.fresh) None
  TellsVersion from to before now (Ok false) = PassesBy from to before now
  TellsVersion from to before now (Err (CheckFault.Walk name fault)) = Refuses from to before name fault now
  TellsVersion from to before now (Err (CheckFault.Mismatch version type_name ordinal)) =
      (version ≡ to) × Arrives from to before now × Compare (calls.state now.walker) (calls.state now.fresh) (Some (record { type_name = type_name; ordinal = ordinal }))
  TellsVersion from to before now (Err CheckFault.Store) = Unit {0}
  TellsVersion from to before now (Err CheckFault.Memory) = Unit {0}

-- The free answers: want of memory, a fault of the store, and the walker's own faults.
abbrev pub IsFree : {E : Type 0} → CheckFault E → Type 0
IsFree (CheckFault.Walk name fault) = Unit {0}
IsFree (CheckFault.Mismatch version type_name ordinal) = ⊥
IsFree CheckFault.Store = Unit {0}
IsFree CheckFault.Memory = Unit {0}

-- A fault of a check is a fault of the store, or one of the walker's own that is such.
abbrev pub IsStoreOr : {E : Type 0} → (E → Type 0) → CheckFault E → Type 0
IsStoreOr P (CheckFault.Walk name fault) = P fault
IsStoreOr P (CheckFault.Mismatch version type_name ordinal) = ⊥
IsStoreOr P CheckFault.Store = Unit {0}
IsStoreOr P CheckFault.Memory = ⊥
