-- The blobs of a cycle that are too long.
use Rattle.std.proofs.Common.{inl, inr, Ok, Err, Bool, true, ◌≡◌, ◌≤◌, ◌^◌, ℕ, ℤ, List, [], ◌∷◌, All, Result, subst, length, arith}
use Rattle.std.specs.Prelude.{IfErr}
use Rattle.std.proofs.lemmas.List.Elements.{All-head, All-tail}
use Rattle.hol_io.specs.declared.name.BlobName.TheVariants as name
use Rattle.schema_model.specs.declared.schema.Schema.{Schema}
use Rattle.row_model.specs.Table.{Table}
use Rattle.blob_writing.specs.declared.fault.WriteFault.{WriteFault}
use Rattle.blob_writing.specs.declared.fault.WriteFault.TheVariants.{Large, Memory}
use Rattle.blob_writing.specs.Limits.{MeansLarge}
use Rattle.blob_writing.specs.Snapshot.{IsWrittenSnapshot}
use Rattle.blob_writing.specs.Changes.{IsDeltaBetween}
use Rattle.state_blobs.specs.Puts.{AreBlobs, AreFirst, AreLater, AreWhole, IsShort, Put}
use Rattle.state_blobs.specs.Published.{Published}
use Rattle.state_blobs.specs.Blobs.{AreLong, AreNotShort}

-- what a refusal means, it means of what follows from it
pub means_more : (P Q : Type 0) (fault : WriteFault) → (P → Q) → MeansLarge P fault → MeansLarge Q fault
means_more P Q Large more means = more means
means_more P Q Memory more means = tt

-- what it means of the delta between two states and tags, it means of that between the same ones
pub means_between : {T : Type 0} (result : Result T WriteFault) (schemas schemas' : List Schema) (from from' to to' : Table) (origin origin' destination destination' : ℤ) → schemas ≡ schemas' → from ≡ from'
    → to ≡ to' → origin ≡ origin' → destination ≡ destination' → IfErr result (MeansLarge (AreLong (IsDeltaBetween schemas from to origin destination)))
    → IfErr result (MeansLarge (AreLong (IsDeltaBetween schemas' from' to' origin' destination')))
means_between result schemas schemas' from from' to to' origin origin' destination destination' same_schemas same_from same_to same_origin same_destination means =
    let Means : List Schema → Table → Table → ℤ → ℤ → Type 0 = λ ss a b o d. IfErr result (MeansLarge (AreLong (IsDeltaBetween ss a b o d))) in
    subst (λ (d : ℤ). Means schemas' from' to' origin' d) same_destination
    (subst (λ (o : ℤ). Means schemas' from' to' o destination) same_origin
    (subst (λ (b : Table). Means schemas' from' b origin destination) same_to
    (subst (λ (a : Table). Means schemas' a to origin destination) same_from
    (subst (λ (ss : List Schema). Means ss from to origin destination) same_schemas means))))

pub first_long : (last : Published) (rows : Table) (version : ℕ) (tag : ℤ) → AreLong (IsWrittenSnapshot last.model last.rows rows last.tag tag) → AreNotShort (AreFirst last rows version tag)
first_long last rows version tag long = λ blobs (snapshot, written, are) short.
    let all : All IsShort ((name.Snapshot version, snapshot) ∷ []) = subst (λ (puts : List Put). All IsShort puts) are short in
    let head = All-head IsShort (name.Snapshot version, snapshot) [] all in
    let more = long snapshot written in
    absurd (omega (arith, head, more))

-- each of the blobs is short
short_ones : (last : Published) (version : ℕ) (delta reverse : List ℕ) (whole blobs : List Put) →
    blobs ≡ (name.Delta last.version version, delta) ∷ (name.Reverse version last.version, reverse) ∷ whole → All IsShort blobs →
    (length delta ≤ 2 ^ 28) × (length reverse ≤ 2 ^ 28) × All IsShort whole
short_ones last version delta reverse whole blobs are short =
    let forth : Put = (name.Delta last.version version, delta) in
    let back : Put = (name.Reverse version last.version, reverse) in
    let all : All IsShort (forth ∷ back ∷ whole) = subst (λ (puts : List Put). All IsShort puts) are short in
    let rest = All-tail IsShort forth (back ∷ whole) all in
    (All-head IsShort forth (back ∷ whole) all, All-head IsShort back whole rest, All-tail IsShort back whole rest)

pub delta_long : (last : Published) (rows : Table) (version : ℕ) (tag : ℤ) (with_snapshot : Bool) → AreLong (IsDeltaBetween last.model last.rows rows last.tag tag) → AreNotShort (AreLater last rows version tag with_snapshot)
delta_long last rows version tag with_snapshot long = λ blobs (delta, reverse, whole, forth, back, written, are) short.
    let all = short_ones last version delta reverse whole blobs are short in
    let head = all.0 in
    let more = long delta forth in
    absurd (omega (arith, head, more))

pub reverse_long : (last : Published) (rows : Table) (version : ℕ) (tag : ℤ) (with_snapshot : Bool) → AreLong (IsDeltaBetween last.model rows last.rows tag last.tag) → AreNotShort (AreLater last rows version tag with_snapshot)
reverse_long last rows version tag with_snapshot long = λ blobs (delta, reverse, whole, forth, back, written, are) short.
    let all = short_ones last version delta reverse whole blobs are short in
    let head = all.1 in
    let more = long reverse back in
    absurd (omega (arith, head, more))

pub snapshot_long : (last : Published) (rows : Table) (version : ℕ) (tag : ℤ) (with_snapshot : Bool) → with_snapshot ≡ true → AreLong (IsWrittenSnapshot last.model last.rows rows last.tag tag) → AreNotShort (AreLater last rows version tag with_snapshot)
snapshot_long last rows version tag with_snapshot asked long = λ blobs (delta, reverse, whole, forth, back, written, are) short.
    let all = short_ones last version delta reverse whole blobs are short in
    first_long last rows version tag long whole (subst (λ (asks : Bool). AreWhole asks last rows version tag whole) asked written) all.2

-- what a refusal means of the blobs of a later state, it means of those that are put
pub later_long : {T : Type 0} (last : Published) (rows : Table) (version : ℕ) (tag : ℤ) (with_snapshot : Bool) → (last.version ≡ 0 → ⊥) → (result : Result T WriteFault)
    → IfErr result (MeansLarge (AreNotShort (AreLater last rows version tag with_snapshot))) → IfErr result (MeansLarge (AreNotShort (AreBlobs last rows version tag with_snapshot)))
later_long last rows version tag with_snapshot later (Ok done) means = means
later_long last rows version tag with_snapshot later (Err fault) means =
    means_more (AreNotShort (AreLater last rows version tag with_snapshot)) (AreNotShort (AreBlobs last rows version tag with_snapshot)) fault
    (λ long blobs are short. elim are [
      | inl first ↦ later first.0
      | inr other ↦ long blobs other.1 short
    ]) means
