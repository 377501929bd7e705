-- Rows and trees whose BYTES are bytes, and models that are spelled by bytes.
use Rattle.std.specs.Prelude.{◌≡◌, ℕ, All, Some}
use Rattle.blob_grammar.specs.Decided.{AreBytes}
use Rattle.schema_model.specs.Schema.{schema_bytes}
use Rattle.schema_model.specs.declared.schema.Schema.{Schema}
use Rattle.row_model.specs.declared.row.Row.{Row}
use Rattle.row_model.specs.declared.row.Value.{Value}
use Rattle.row_model.specs.PlainTree.{PlainTree, PlainTrees, PlainPairs, leaf, object, list, set, map, no_trees, tree_then, no_pairs, pair_then}
use Rattle.row_model.specs.Table.{Table, row_at}
use Rattle.state_blobs.specs.Published.{Published}

-- What a BYTES holds are bytes.
abbrev pub IsByteValue : Value → Type 0
IsByteValue (Value.Bytes bytes) = AreBytes bytes
IsByteValue _ = Unit {0}

-- So it is with each value of a row,
abbrev pub IsByteRow : Row → Type 0
IsByteRow (Row.Object values) = All IsByteValue values
IsByteRow _ = Unit {0}

-- with each row of a table,
abbrev pub IsByteTable : Table → Type 0
IsByteTable table = (t ordinal : ℕ) (row : Row) → row_at table t ordinal ≡ Some row → IsByteRow row

-- and with each value of a tree.
abbrev mutual
  pub IsByteTree : PlainTree → Type 0
  IsByteTree (leaf value) = IsByteValue value
  IsByteTree (object trees) = AreByteTrees trees
  IsByteTree (list trees) = AreByteTrees trees
  IsByteTree (set trees) = AreByteTrees trees
  IsByteTree (map pairs) = AreBytePairs pairs

  pub AreByteTrees : PlainTrees → Type 0
  AreByteTrees no_trees = Unit {0}
  AreByteTrees (tree_then tree trees) = IsByteTree tree × AreByteTrees trees

  pub AreBytePairs : PlainPairs → Type 0
  AreBytePairs no_pairs = Unit {0}
  AreBytePairs (pair_then key value pairs) = IsByteTree key × IsByteTree value × AreBytePairs pairs

-- What spells the schema are bytes.
abbrev pub IsByteSchema : Schema → Type 0
IsByteSchema schema = AreBytes (schema_bytes schema)

-- The producer's model is spelled by bytes, and what its rows hold in BYTES are bytes.
pub record IsByteProducer (last : Published) : Type 0 where
  pub model : All IsByteSchema last.model
  pub rows : IsByteTable last.rows
