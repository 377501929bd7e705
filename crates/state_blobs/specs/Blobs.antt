-- The blobs of a state that is published, as they are put.
use Rattle.std.specs.Prelude.{None, Some, Vec, ◌≡◌, ◌<◌, ◌^◌, ℕ, List, [], ◌∷◌, All, Option, length, take}
use Rattle.std.specs.Option.{option_map}
use Rattle.std.specs.declared.alloc.Global.{Global}
use Rattle.hol_io.specs.declared.name.BlobName.TheVariants as name
use Rattle.hol_io.specs.Store.{Store}
use Rattle.state_blobs.specs.Puts.{IsShort, Put, put_all}
use Rattle.state_blobs.specs.declared.write.Blobs.{Blobs}
use Rattle.state_blobs.specs.declared.write.Blobs.TheVariants.{First, Later}

-- the put of a snapshot, where there is one
abbrev pub whole_in : ℕ → Option (Vec ℕ Global) → List Put
whole_in version None = []
whole_in version (Some snapshot) = (name.Snapshot version, snapshot.items) ∷ []

-- the puts of these blobs, in their order
abbrev pub puts_in : Blobs → List Put
puts_in (First version snapshot) = (name.Snapshot version, snapshot.items) ∷ []
puts_in (Later last version delta reverse snapshot) =
    (name.Delta last version, delta.items) ∷ (name.Reverse version last, reverse.items) ∷ whole_in version snapshot

-- The store holds what it held, with the first of these puts and no others.
abbrev pub IsPartlyPut : List Put → Option Store → Option Store → Type 0
IsPartlyPut puts held held' = (count : ℕ) × (held' ≡ option_map (λ store. put_all store (take count puts)) held)

-- Each blob of these has more than 2^28 bytes.
abbrev pub AreLong : (List ℕ → Type 0) → Type 0
AreLong IsOne = (blob : List ℕ) → IsOne blob → 2 ^ 28 < length blob

-- No such blobs are all short.
abbrev pub AreNotShort : (List Put → Type 0) → Type 0
AreNotShort AreSome = (blobs : List Put) → AreSome blobs → ¬ All IsShort blobs
