-- The order `load`: what it answers, and the machine behind it.
use Rattle.std.specs.Prelude.{◌≡◌, ℕ, List, Some}
use Rattle.hol_io.specs.declared.name.BlobName.TheVariants.{Snapshot}
use Rattle.hol_io.specs.Store.{told}
use Rattle.read_engine.specs.Position.{Position}
use Rattle.read_engine.specs.Taking.{LoadsFrom}
use Rattle.hol_answers.specs.declared.reply.Reply.{Reply}
use Rattle.hol_answers.specs.declared.reply.Reply.TheVariants.{Load, Refused}
use Rattle.hollow_machine.specs.Blobs.{SnapshotRefusal}
use Rattle.hollow_machine.specs.State.{Machine, loaded_to}
use Rattle.hollow_machine.specs.Forms.{OrderForm, moving}

-- The consumer becomes the state of the version's snapshot, with its tag and this version, and no older states are kept; or the snapshot is refused and all
-- stays.
abbrev pub LoadStep : Machine → ℕ → Reply → Machine → Type 0
LoadStep machine version (Load tag) next =
    (blob : List ℕ) × (position : Position) × (told (Some machine.store) (Snapshot version) ≡ Some blob) × LoadsFrom blob position × (tag ≡ position.tag)
    × (next ≡ loaded_to machine version position)
LoadStep machine version (Refused refusal) next = SnapshotRefusal (Snapshot version) (told (Some machine.store) (Snapshot version)) refusal × (next ≡ machine)
LoadStep machine version _ next = ⊥

abbrev pub load_form : OrderForm ℕ
load_form = moving (λ machine version reply next. LoadStep machine version reply next)
