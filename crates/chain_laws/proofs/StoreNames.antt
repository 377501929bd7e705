-- The names of a store: none is of a later version than the last one, and a blob with a tag makes the tag taken.
use Rattle.std.proofs.Common.{◌≡◌, ◌≢◌, ◌≤◌, ◌<◌, ℕ, ℤ, zero, suc, List, [], ◌∷◌, length, get_or, max, map, Option, Some, None, refl, sym, ap, subst, ◌∙◌, arith}
use Rattle.std.specs.Prelude.{Contains, IsSome, IsSomeAnd, is_some, fold}
use Rattle.std.specs.FinMap.{get, keys, contains_key-keys}
use Rattle.std.specs.Int.{w64, cast_unsigned}
use Rattle.std.proofs.lemmas.Fmt.{decimal_injective}
use Rattle.std.proofs.lemmas.Cmp.{eq_by_cmp_equiv}
use Rattle.std.proofs.lemmas.Map.Views.{Contains-from_any, list_any-from_Contains, tells_apart}
use Rattle.hol_io.specs.declared.name.BlobName.{BlobName}
use Rattle.hol_io.specs.Name.{IsVersion}
use Rattle.hol_io.specs.Store.{Store, names}
use Rattle.hol_io.proofs.NameOrder.{name_cmp_total}
use Rattle.schema_model.specs.declared.schema.Schema.{Schema}
use Rattle.chain_laws.proofs.NameOrder.{name_cmp-IsAntisymmetric}
use Rattle.chain_store.specs.Announced.{Announces, IsNoVersion}
use Rattle.chain_store.specs.Tags.{HasTag, IsBlob, IsTagTaken}
use Rattle.chain_store.specs.Versions.{newest, last_version}

-- ---- what is there

pub found : {A : Type 0} (o : Option A) → IsSome o → (x : A) × (o ≡ Some x)
found None some = absurd cc
found (Some x) some = (x, refl)

pub found_with : {A : Type 0} (o : Option A) (P : A → Type 0) → IsSomeAnd o P → (x : A) × (o ≡ Some x) × P x
found_with None P some = absurd some
found_with (Some x) P some = (x, refl, some)

-- a schema has one name
pub name_once : (found : Option Schema) (a b : List ℕ) → IsSomeAnd found (λ (s : Schema). s.name ≡ a) → IsSomeAnd found (λ (s : Schema). s.name ≡ b) → a ≡ b
name_once None a b one other = absurd one
name_once (Some s) a b one other = sym one ∙ other

pub is_name : (store : Store) (name : BlobName) (blob : List ℕ) → get store name ≡ Some blob → Contains (names store) name
is_name store name blob at =
    Contains-from_any (tells_apart name_cmp-IsAntisymmetric) name (keys store) (sym (contains_key-keys store name) ∙ ap is_some at)

-- what is listed is there
pub name_is : (store : Store) (name : BlobName) → Contains (names store) name → IsSome (get store name)
name_is store name listed = contains_key-keys store name ∙ list_any-from_Contains (eq_by_cmp_equiv name_cmp_total) name (keys store) listed

-- ---- versions

seen_below : (seen : ℕ) (numbers : List ℕ) → seen ≤ fold max seen numbers
seen_below seen [] = omega arith
seen_below seen (n ∷ numbers) = let more = seen_below (max seen n) numbers in omega (arith, more)

all_below : (f : BlobName → ℕ) (listed : List BlobName) (seen k : ℕ) (name : BlobName) → k < length listed → get_or listed k name ≡ name → f name ≤ fold max seen (map f listed)
all_below f [] seen k name inside is = absurd (omega (arith, inside))
all_below f (first ∷ listed) seen zero name inside is =
    let here = ap f is in
    let more = seen_below (max seen (f first)) (map f listed) in
    omega (arith, here, more)
all_below f (first ∷ listed) seen (suc k) name inside is = all_below f listed (max seen (f first)) k name (omega (arith, inside)) is

pub newest_below : (store : Store) (name : BlobName) (blob : List ℕ) → get store name ≡ Some blob → newest name ≤ last_version store
newest_below store name blob at =
    let (k, inside, is) = is_name store name blob at in
    all_below newest (names store) 0 k name inside is

pub one_announced : (content : Option (List ℕ)) (u v : ℕ) → Announces content u → Announces content v → u ≡ v
one_announced None u v first second = first ∙ sym second
one_announced (Some bytes) u v first second =
    decimal_injective u v (omega (arith, first.0.1)) (omega (arith, second.0.1)) (first.1 ∙ sym second.1)

-- what announces a version is no content without one
pub no_version_apart : (content : Option (List ℕ)) (version : ℕ) → IsNoVersion content → Announces content version → ⊥
no_version_apart None version none says = none
no_version_apart (Some bytes) version none says = none version says.0 says.1

-- where there is content that announces a version, it is one
pub announces_version : (content : Option (List ℕ)) (version : ℕ) → content ≢ None → Announces content version → IsVersion version
announces_version None version there says = absurd (there refl)
announces_version (Some bytes) version there says = says.0

-- ---- tags

pub taken : (store : Store) (tag : ℤ) (name : BlobName) (blob : List ℕ) → IsBlob name → get store name ≡ Some blob → HasTag (cast_unsigned w64 tag) blob → IsTagTaken store tag
taken store tag name blob of_blob at has =
    let (k, inside, is) = is_name store name blob at in
    (k, name, inside, is, (of_blob, subst (λ (content : Option (List ℕ)). IsSomeAnd content (HasTag (cast_unsigned w64 tag))) (sym at) has))

-- what stays under the names of blobs keeps the tags taken
pub taken_stays : (store after : Store) (tag : ℤ) → ((name : BlobName) (blob : List ℕ) → IsBlob name → get store name ≡ Some blob → get after name ≡ Some blob) → IsTagTaken store tag → IsTagTaken after tag
taken_stays store after tag stays (k, name, inside, is, (of_blob, has)) =
    let (blob, at, tagged) = found_with (get store name) (HasTag (cast_unsigned w64 tag)) has in
    taken after tag name blob of_blob (stays name blob of_blob at) tagged
