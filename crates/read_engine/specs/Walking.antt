-- A consumer that walks along a chain: the state that it has, and what its loads and its steps answer.
use Rattle.std.specs.Prelude.{◌≡◌, ℕ, ℤ, pos, List, [], Option, None, Some, Result, IfErr, IfSome, IsSome, IsSomeAnd, OnErr, OnOk, Ok}
use Rattle.std.proofs.Common.{◌∙◌, inl, inr, sym}
use Rattle.hol_io.specs.declared.name.BlobName.TheVariants.{Snapshot}
use Rattle.hol_io.specs.Name.{step_name}
use Rattle.hol_io.specs.Store.{Store, told}
use Rattle.schema_model.specs.declared.schema.Schema.{Schema}
use Rattle.row_model.specs.Table.{Table}
use Rattle.blob_frame.specs.declared.fault.BlobFault.{BlobFault}
use Rattle.snapshot_blob.specs.Snapshot.{IsSnapshotFault}
use Rattle.read_engine.specs.Position.{Position, rows_now}
use Rattle.read_engine.specs.Taking.{IsStepFault, LoadsExactly, StepsExactly, TellsLoad, TellsStep}

-- the tag of its state, 0 where it has none
abbrev pub tag_at : Option Position → ℤ
tag_at None = pos 0
tag_at (Some position) = position.tag

-- the schemas of its state, none where it has no state
abbrev pub schemas_at : Option Position → List Schema
schemas_at None = []
schemas_at (Some position) = position.schemas

-- the rows of its state
abbrev pub table_at : Option Position → Table
table_at None = []
table_at (Some position) = rows_now position

-- What a load of a version answers: what a consumer's load does.
pub record WalksLoad (held : Option Store) (version : ℕ) (before now : Option Position) (answer : Result (Unit {0}) BlobFault) : Type 0 where
  pub tells : IfSome held (λ store. TellsLoad (Snapshot version) (told held (Snapshot version)) now answer)
  pub exact : IfSome held (λ store. LoadsExactly (Snapshot version) (told held (Snapshot version)) now answer)
  pub kind : IfErr answer (IsSnapshotFault (Snapshot version))
  pub state : OnOk answer (IsSome now)
  pub refused : OnErr answer (now ≡ before)

-- What a step from a version to another one answers from a position: what a consumer's step does along the delta or the reverse delta between them.
pub record StepsOn (held : Option Store) (from to : ℕ) (at : Position) (now : Option Position) (answer : Result (Unit {0}) BlobFault) : Type 0 where
  pub tells : IfSome held (λ store. TellsStep (step_name from to) (told held (step_name from to)) at now answer)
  pub exact : IfSome held (λ store. StepsExactly (step_name from to) (told held (step_name from to)) at now answer)
  pub kind : IfErr answer (IsStepFault (step_name from to) at.tag)

-- The same of a walker, which has a position and keeps one.
pub record WalksStep (held : Option Store) (from to : ℕ) (before now : Option Position) (answer : Result (Unit {0}) BlobFault) : Type 0 where
  pub steps : IsSomeAnd before (λ at. StepsOn held from to at now answer)
  pub state : IsSome now
  pub refused : OnErr answer (now ≡ before)

-- A told store is loaded from to one position.
pub loads_once : (store : Store) (version : ℕ) (a b a' b' : Option Position) → WalksLoad (Some store) version a a' (Ok tt) → WalksLoad (Some store) version b b' (Ok tt) → a' ≡ b'
loads_once store version a b a' b' first other =
    let (blob, position, there, is, loads) = other.tells in
    elim (first.exact.found blob position there loads) [ inl found ↦ found.1 ∙ sym is | inr free ↦ absurd free ]

-- A step along a told blob leads to one position.
pub steps_once : (store : Store) (from to : ℕ) (a a' b' : Option Position) → WalksStep (Some store) from to a a' (Ok tt) → WalksStep (Some store) from to a b' (Ok tt) → a' ≡ b'
steps_once store from to None a' b' first other = absurd first.steps
steps_once store from to (Some at) a' b' first other =
    let (blob, position, there, is, steps) = other.steps.tells in
    elim (first.steps.exact.found blob position there steps) [ inl found ↦ found.1 ∙ sym is | inr free ↦ absurd free ]
