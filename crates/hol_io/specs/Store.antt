-- What a store of blobs holds, and what its calls give and leave, where it tells what it holds.
use Rattle.std.specs.Prelude.{◌≡◌, ℕ, ◌<◌, List, [], ◌++◌, All, Option, IfSome, unwrap_or}
use Rattle.std.specs.Option.{option_map, option_and_then}
use Rattle.std.specs.Coded.{Coded, coded_list, coded_ℕ}
use Rattle.std.specs.FinMap as map
use Rattle.hol_io.specs.declared.name.BlobName.{BlobName}
use Rattle.hol_io.specs.contracts.name.BlobName as blob_name
use Rattle.hol_io.specs.Name.{name_cmp}

-- A finite map from names to contents.
abbrev pub Store : Type 0
Store = map.FinMap name_cmp (List ℕ)

-- A store is told apart by its entries.
abbrev pub store_code : Coded Store
store_code = map.code (blob_name.the_row).coded (coded_list coded_ℕ)

-- What is seen of a store from outside: the names and their contents, where it tells them, how many faults came so far,
-- and how often something was put.
pub record Seen : Type 0 where
  pub held : Option Store
  pub faults : ℕ
  pub puts : ℕ

-- The content that a store tells for a name: none where it tells nothing or has no such name.
abbrev pub told : Option Store → BlobName → Option (List ℕ)
told held name = option_and_then (λ store. map.get store name) held

-- The content of a name, which is empty where the name is not there.
abbrev pub content : Store → BlobName → List ℕ
content store name = unwrap_or (map.get store name) []

-- What the store has under each name are bytes.
abbrev pub HoldsBytes : Store → Type 0
HoldsBytes store = (name : BlobName) → IfSome (map.get store name) (All (λ byte. byte < 256))

-- The store in which the name holds the bytes, and all else is as it was.
abbrev pub with_content : Option Store → BlobName → List ℕ → Option Store
with_content held name bytes = option_map (λ store. map.insert store name bytes) held

-- Every name of the store once, in the order of the names.
abbrev pub names : Store → List BlobName
names store = map.keys store

-- A list is the front of another.
abbrev pub IsFront : List BlobName → List BlobName → Type 0
IsFront front all = (rest : List BlobName) × (all ≡ front ++ rest)
