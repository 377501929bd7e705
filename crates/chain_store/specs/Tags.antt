-- The tags of a store's blobs: those of the states that a blob leads from and to, in its first 20 bytes.
use Rattle.std.specs.Prelude.{◌≡◌, ◌≤◌, ◌<◌, ◌⊎◌, ℕ, ℤ, List, length, take, drop, IfSome, IsSomeAnd, Any, Option, None, Some}
use Rattle.std.specs.Int.{w32, w64, from_be_bytes, to_be_bytes, cast_unsigned}
use Rattle.hol_io.specs.declared.name.BlobName.{BlobName}
use Rattle.hol_io.specs.declared.name.BlobName.TheVariants.{Announced}
use Rattle.hol_io.specs.Store.{Store, names, told}
use Rattle.blob_frame.specs.Header.{format_number}

-- The number of the 8 bytes at an offset, the highest first.
abbrev pub number_at : List ℕ → ℕ → ℕ
number_at bytes offset = from_be_bytes w64 (take 8 (drop offset bytes))

-- The first 20 bytes of a blob are the format and two tags, of which one has these bits.
pub record FrontHas (bits : ℕ) (front : List ℕ) : Type 0 where
  pub format : take 4 front ≡ to_be_bytes w32 format_number
  pub tagged : (number_at front 4 ≡ bits) ⊎ (number_at front 12 ≡ bits)

-- The bytes begin so.
abbrev pub HasTag : ℕ → List ℕ → Type 0
HasTag bits bytes = (20 ≤ length bytes) × FrontHas bits (take 20 bytes)

-- The content, if there is any, begins with these 20 bytes, or has fewer.
abbrev pub IsFrontOf : Option (List ℕ) → Option (List ℕ) → Type 0
IsFrontOf content None = IfSome content (λ bytes. length bytes < 20)
IsFrontOf content (Some front) = IsSomeAnd content (λ bytes. (20 ≤ length bytes) × (take 20 bytes ≡ front))

-- The name is that of a snapshot, a delta or a reverse delta.
abbrev pub IsBlob : BlobName → Type 0
IsBlob Announced = ⊥
IsBlob _ = Unit {0}

-- The blob of a name has a tag of these bits.
abbrev pub IsTagged : Store → ℕ → BlobName → Type 0
IsTagged store bits name = IsBlob name × IsSomeAnd (told (Some store) name) (HasTag bits)

-- A blob of one of these names has the tag. It is spelled as the unsigned number of its bits.
abbrev pub HaveTag : Store → List BlobName → ℤ → Type 0
HaveTag store listed tag = Any (IsTagged store (cast_unsigned w64 tag)) listed

-- Some blob of a store has the tag.
abbrev pub IsTagTaken : Store → ℤ → Type 0
IsTagTaken store tag = HaveTag store (names store) tag
