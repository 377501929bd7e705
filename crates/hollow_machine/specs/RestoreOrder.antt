-- The order `restore`: what it answers, and the machine behind it.
use Rattle.std.specs.Prelude.{◌≡◌, ◌≢◌, ◌⊎◌, ℕ, List, Some, None, IsSomeAnd, slice_get}
use Rattle.hol_io.specs.declared.name.BlobName.TheVariants.{Announced, Snapshot}
use Rattle.hol_io.specs.Store.{Store, told}
use Rattle.schema_model.specs.declared.reason.Reason.TheVariants.{BadAnnounced}
use Rattle.chain_store.specs.Announced.{IsAnnounced, IsBadlyAnnounced}
use Rattle.write_engine.specs.Agreement.{HoldsOnce}
use Rattle.write_engine.specs.Restoring.{IsFirstDuplicate}
use Rattle.read_engine.specs.Position.{Position, rows_now}
use Rattle.read_engine.specs.Taking.{LoadsFrom}
use Rattle.hol_answers.specs.declared.refusal.EqualRows.{EqualRows}
use Rattle.hol_answers.specs.declared.refusal.Refusal.{Refusal}
use Rattle.hol_answers.specs.declared.refusal.Refusal.TheVariants.{BadBlob, DuplicateRow, NoBlob, NotLast}
use Rattle.hol_answers.specs.declared.reply.Reply.{Reply}
use Rattle.hol_answers.specs.declared.reply.Reply.TheVariants.{Refused, Restore}
use Rattle.state_blobs.specs.Published.{Published}
use Rattle.hollow_machine.specs.Blobs.{SnapshotRefusal}
use Rattle.hollow_machine.specs.Forms.{OrderForm, moving}
use Rattle.hollow_machine.specs.State.{Machine, with_producer}

-- The store has an announced version, and it is this one.
pub record IsLast (store : Store) (version : ℕ) : Type 0 where
  pub there : told (Some store) Announced ≢ None
  pub announced : IsAnnounced store version

-- Why this version is not the announced one: the store has none; or what it has is no version; or it is another one.
abbrev pub IsNotLast : Store → ℕ → Refusal → Type 0
IsNotLast store version (NoBlob name) = (name ≡ Announced) × (told (Some store) Announced ≡ None)
IsNotLast store version (BadBlob fault) =
    IsBadlyAnnounced store × (fault.blob ≡ Announced) × (fault.at ≡ 0) × (fault.reason ≡ BadAnnounced) × (fault.row ≡ None)
IsNotLast store version (NotLast announced) = IsLast store announced × (announced ≢ version)
IsNotLast store version _ = ⊥

-- The snapshot of this version leads a consumer to this position.
abbrev pub IsStored : Store → ℕ → Position → Type 0
IsStored store version position = (blob : List ℕ) × (told (Some store) (Snapshot version) ≡ Some blob) × LoadsFrom blob position

-- These are the first two equal rows of a state: those of the first type that has such, and of these those of which the second one has the least
-- ordinal.
abbrev pub NamesDuplicate : Position → EqualRows → Type 0
NamesDuplicate position rows =
    (type_index : ℕ) × IsSomeAnd (slice_get position.schemas type_index) (λ schema. schema.name ≡ rows.type_name) × IsFirstDuplicate (rows_now position) type_index rows.first rows.second

-- Why the order is refused: the version is not the announced one; or it is, and its snapshot cannot be loaded; or it has two equal rows.
abbrev pub RestoreRefusal : Store → ℕ → Refusal → Type 0
RestoreRefusal store version (DuplicateRow rows) =
    IsLast store version × ((position : Position) × IsStored store version position × NamesDuplicate position rows)
RestoreRefusal store version refusal =
    IsNotLast store version refusal
    ⊎ (IsLast store version × SnapshotRefusal (Snapshot version) (told (Some store) (Snapshot version)) refusal)

-- the producer whose last state is that of a position, published under this version
abbrev pub producer_at : Position → ℕ → Published
producer_at position version = record { model = position.schemas; rows = rows_now position; tag = position.tag; version = version }

-- The producer becomes that of the announced version's snapshot, in which no row stands twice, or the order is refused and all stays.
abbrev pub RestoreStep : Machine → ℕ → Reply → Machine → Type 0
RestoreStep machine version (Restore tag restored) next =
    (restored ≡ version) × IsLast machine.store version
    × ((position : Position) × IsStored machine.store version position × HoldsOnce (rows_now position) × (tag ≡ position.tag)
    × (next ≡ with_producer machine (Some (producer_at position version))))
RestoreStep machine version (Refused refusal) next = RestoreRefusal machine.store version refusal × (next ≡ machine)
RestoreStep machine version _ next = ⊥

abbrev pub restore_form : OrderForm ℕ
restore_form = moving (λ machine version reply next. RestoreStep machine version reply next)
