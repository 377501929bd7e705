-- The roots of a table: the rows that stand there for their own sake, whether or not another row names them.
use Rattle.std.specs.Prelude.{List, [], ◌∷◌, ℕ, ◌≡◌, ◌⊎◌, Option, Some, None, IsSome, IsSomeAnd, option_and_then, slice_get}
use Rattle.std.specs.List.{AllZip}
use Rattle.schema_model.specs.declared.model.path.Path.{Path}
use Rattle.schema_model.specs.declared.schema.Schema.{Schema}
use Rattle.schema_model.specs.Parts.{shape_key}
use Rattle.schema_model.specs.Path.{Resolves}
use Rattle.row_model.specs.declared.row.Value.{Value}
use Rattle.row_model.specs.Key.{key_of, unless_null, with_first}
use Rattle.row_model.specs.PlainTree.{PlainTree, list_of_trees}
use Rattle.row_model.specs.Row.{stored_value}
use Rattle.row_model.specs.Table.{Table, IsLive}
use Rattle.write_engine.specs.RowDrops.{IsNamed}

-- ---- primary keys

-- the texts of the key paths of a type, where it has a primary key
abbrev pub key_texts : List Schema → ℕ → Option (List (List ℕ))
key_texts schemas t = option_and_then (λ schema. shape_key schema.shape) (slice_get schemas t)

-- the type has a primary key
abbrev pub IsKeyed : List Schema → ℕ → Type 0
IsKeyed schemas t = IsSome (key_texts schemas t)

-- these are the paths of the type's primary key
abbrev pub AreKeyPaths : List Schema → ℕ → List Path → Type 0
AreKeyPaths schemas t paths = IsSomeAnd (key_texts schemas t) (λ texts. AllZip (λ text path. Resolves schemas t text path) texts paths)

-- the tree of a field of a record
abbrev pub tree_in : PlainTree → ℕ → Option PlainTree
tree_in (PlainTree.object trees) field = slice_get (list_of_trees trees) field
tree_in _ field = None

-- the value that a tree is, as a blob holds it
abbrev pub value_of_leaf : PlainTree → Option Value
value_of_leaf (PlainTree.leaf value) = Some (stored_value value)
value_of_leaf _ = None

-- The value to which fields lead from a record; none where a null stands on the way or at its end. The least INT and the least LONG count as null.
abbrev pub tree_value : PlainTree → List ℕ → Option Value
tree_value tree [] = None
tree_value tree (field ∷ []) = unless_null (option_and_then value_of_leaf (tree_in tree field))
tree_value tree (field ∷ next ∷ rest) = option_and_then (λ named. tree_value named (next ∷ rest)) (tree_in tree field)

-- The key of a record: the values at the ends of the paths; none where a null stands on one of them.
abbrev pub key_of_tree : List Path → PlainTree → Option (List Value)
key_of_tree [] tree = Some []
key_of_tree (path ∷ paths) tree = with_first (tree_value tree path.fields) (key_of_tree paths tree)

-- this is the primary key of the row under an ordinal
abbrev pub IsRowKey : List Schema → Table → ℕ → ℕ → List Value → Type 0
IsRowKey schemas table t ordinal key = (paths : List Path) × AreKeyPaths schemas t paths × (key_of schemas table t paths ordinal ≡ Some key)

-- this is the primary key of the record
abbrev pub IsTreeKey : List Schema → ℕ → PlainTree → List Value → Type 0
IsTreeKey schemas t tree key = (paths : List Path) × AreKeyPaths schemas t paths × (key_of_tree paths tree ≡ Some key)

-- this is the primary key of the record, or it has none
abbrev pub TellsTreeKey : List Schema → ℕ → PlainTree → Option (List Value) → Type 0
TellsTreeKey schemas type_index tree None = (key : List Value) → ¬ IsTreeKey schemas type_index tree key
TellsTreeKey schemas type_index tree (Some key) = IsTreeKey schemas type_index tree key

-- ---- roots

-- The row is a root: it is live, and its type has a primary key, or no row of the table names it.
pub record IsRoot (schemas : List Schema) (table : Table) (type_index ordinal : ℕ) : Type 0 where
  pub live : IsLive table type_index ordinal
  pub own : IsKeyed schemas type_index ⊎ ¬ IsNamed schemas table type_index ordinal
