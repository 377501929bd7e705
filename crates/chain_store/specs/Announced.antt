-- The announced version of a store: the number of the last published version, in decimal.
use Rattle.std.specs.Prelude.{◌≡◌, ◌≢◌, ℕ, List, Option, Some, None}
use Rattle.std.specs.Fmt.{decimal}
use Rattle.hol_io.specs.declared.name.BlobName.TheVariants as blob
use Rattle.hol_io.specs.Name.{IsVersion}
use Rattle.hol_io.specs.Store.{Store, told}
use Rattle.chain_store.specs.declared.announcement.Announcement.{Announcement}
use Rattle.chain_store.specs.declared.announcement.Announcement.TheVariants.{Version, Bad}

-- The content announces this version: 0 where there is none, and else the version that it is in decimal.
abbrev pub Announces : Option (List ℕ) → ℕ → Type 0
Announces None version = version ≡ 0
Announces (Some bytes) version = IsVersion version × (decimal version ≡ bytes)

-- There is content, and it is no version in decimal.
abbrev pub IsNoVersion : Option (List ℕ) → Type 0
IsNoVersion None = ⊥
IsNoVersion (Some bytes) = (version : ℕ) → IsVersion version → decimal version ≢ bytes

-- The version that a store announces, 0 where it announces none.
abbrev pub IsAnnounced : Store → ℕ → Type 0
IsAnnounced store version = Announces (told (Some store) blob.Announced) version

-- What a store has as its announced version is none.
abbrev pub IsBadlyAnnounced : Store → Type 0
IsBadlyAnnounced store = IsNoVersion (told (Some store) blob.Announced)

-- What an answer tells of the content.
abbrev pub TellsAnnounced : Option (List ℕ) → Announcement → Type 0
TellsAnnounced content (Version version) = Announces content version
TellsAnnounced content Bad = IsNoVersion content
