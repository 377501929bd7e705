-- The row of a record that refers to no others.
use Rattle.std.specs.Prelude.{◌≡◌, List}
use Rattle.std.specs.List.{AllZip}
use Rattle.row_model.specs.declared.row.Row.{Row}
use Rattle.row_model.specs.declared.row.Value.{Value}
use Rattle.row_model.specs.PlainTree.{PlainTree, IsLeafAnd, list_of_trees, object}
use Rattle.row_model.specs.Row.{IsValueInRange, stored_value}

-- The tree is a value, of which a blob holds this one.
abbrev pub IsStoredOf : PlainTree → Value → Type 0
IsStoredOf tree value = IsLeafAnd tree (λ found. IsValueInRange found × (value ≡ stored_value found))

-- Each of the trees is a value, and these are held of them.
abbrev pub AreStoredOf : List PlainTree → List Value → Type 0
AreStoredOf trees values = AllZip IsStoredOf trees values

-- The record refers to no others, and this is its row.
abbrev pub IsRowOf : PlainTree → Row → Type 0
IsRowOf (object trees) (Row.Object values) = AreStoredOf (list_of_trees trees) values
IsRowOf tree row = ⊥
