-- Whether a state may follow the last one that a producer has published: what the store has to say of its version and its tag.
use Rattle.std.specs.Prelude.{◌≡◌, ◌≢◌, ◌<◌, ◌≤◌, ◌⊎◌, ℕ, ℤ, pos, None}
use Rattle.hol_io.specs.declared.name.BlobName.TheVariants.{Announced}
use Rattle.hol_io.specs.Store.{Store}
use Rattle.schema_model.specs.declared.reason.Reason.TheVariants.{BadAnnounced}
use Rattle.chain_store.specs.Announced.{IsAnnounced, IsBadlyAnnounced}
use Rattle.chain_store.specs.Tags.{IsTagTaken}
use Rattle.chain_store.specs.Versions.{last_version}
use Rattle.hol_answers.specs.declared.refusal.Refusal.{Refusal}
use Rattle.hol_answers.specs.declared.refusal.Refusal.TheVariants.{BadBlob, NotLast, BadVersion, TagUsed}

-- The tag is 0, or some blob of the store has it.
abbrev pub IsUsed : Store → ℤ → Type 0
IsUsed store tag = (tag ≡ pos 0) ⊎ IsTagTaken store tag

-- A state of this version and tag may follow that of the producer's last version: that one is announced, and no name of the store has this
-- version or a greater one, and no blob this tag.
pub record MayFollow (store : Store) (last version : ℕ) (tag : ℤ) : Type 0 where
  pub announced : IsAnnounced store last
  pub later : last_version store < version
  pub unused : ¬ IsUsed store tag

-- The first of these that does not hold, as it is refused.
abbrev pub MayNotFollow : Store → ℕ → ℕ → ℤ → Refusal → Type 0
MayNotFollow store last version tag (BadBlob fault) =
    IsBadlyAnnounced store × (fault.blob ≡ Announced) × (fault.at ≡ 0) × (fault.reason ≡ BadAnnounced) × (fault.row ≡ None)
MayNotFollow store last version tag (NotLast announced) = IsAnnounced store announced × (announced ≢ last)
MayNotFollow store last version tag (BadVersion greatest) = IsAnnounced store last × (greatest ≡ last_version store) × (version ≤ greatest)
MayNotFollow store last version tag (TagUsed used) = IsAnnounced store last × (last_version store < version) × (used ≡ tag) × IsUsed store tag
MayNotFollow store last version tag _ = ⊥
