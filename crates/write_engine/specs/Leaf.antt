-- What a reading of a tree's own value tells.
use Rattle.std.specs.Prelude.{◌≡◌, Option, Some, None}
use Rattle.row_model.specs.declared.row.Value.{Value}
use Rattle.row_model.specs.Row.{IsValueInRange, stored_value}
use Rattle.row_model.specs.PlainTree.{PlainTree, IsLeafAnd}
use Rattle.record_trees.specs.FitsTree.{IsLeafOr}

-- the tree is a value, of which a blob holds this one; or it is a row
abbrev pub TellsLeaf : PlainTree → Option Value → Type 0
TellsLeaf tree (Some value) = IsLeafAnd tree (λ found. IsValueInRange found × (value ≡ stored_value found))
TellsLeaf tree None = IsLeafOr tree (λ found. ⊥) (Unit {0})
