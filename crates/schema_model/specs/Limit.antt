-- The limits that a refusal names, and their numbers.
use Rattle.std.specs.Prelude.{List, ℕ, ◌^◌, codes}
use Rattle.schema_model.specs.declared.limit.Limit.{Limit}
use Rattle.schema_model.specs.declared.limit.Limit.TheVariants.{Blob, Ordinals, Items, Words, Bytes, Nodes, Indexes, Walks, Entries}

abbrev pub name_of_limit : Limit → List ℕ
name_of_limit Blob = codes "blob"
name_of_limit Ordinals = codes "ordinals"
name_of_limit Items = codes "items"
name_of_limit Words = codes "words"
name_of_limit Bytes = codes "bytes"
name_of_limit Nodes = codes "nodes"
name_of_limit Indexes = codes "indexes"
name_of_limit Walks = codes "walks"
name_of_limit Entries = codes "entries"

abbrev pub number_of_limit : Limit → ℕ
number_of_limit Blob = 2 ^ 28
number_of_limit Ordinals = 2 ^ 22
number_of_limit Items = 2 ^ 25
number_of_limit Words = 2 ^ 22
number_of_limit Bytes = 2 ^ 25
number_of_limit Nodes = 2 ^ 20
number_of_limit Indexes = 16
number_of_limit Walks = 16
number_of_limit Entries = 2 ^ 22
