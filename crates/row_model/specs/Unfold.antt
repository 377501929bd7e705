-- The record of a live row: its tree, in which each ordinal is replaced by the tree of the row that it names.
use Rattle.std.specs.Prelude.{List, ℕ, zero, suc, Option, None, Some, map, zip, slice_get}
use Rattle.schema_model.specs.declared.schema.name.Name.{Name}
use Rattle.schema_model.specs.declared.schema.FieldKind.{FieldKind}
use Rattle.schema_model.specs.declared.schema.Shape.{Shape}
use Rattle.schema_model.specs.declared.schema.Schema.{Schema}
use Rattle.row_model.specs.declared.row.Value.{Value}
use Rattle.row_model.specs.declared.row.Row.{Row}
use Rattle.row_model.specs.PlainTree.{PlainTree, trees_of_list, pairs_of_list}
use Rattle.schema_model.specs.Parts.{index_of_type}
use Rattle.row_model.specs.Table.{Table, row_at}

-- the tree of a value, given the tree of each row by its type's name and its ordinal
abbrev pub tree_of_value : (Name → ℕ → PlainTree) → FieldKind → Value → PlainTree
tree_of_value follow (FieldKind.Reference name) (Value.Ref ordinal) = follow name ordinal
tree_of_value follow kind value = PlainTree.leaf value

-- the tree of a row that fits its type, given the tree of each row that it names
abbrev pub tree_of_row : (Name → ℕ → PlainTree) → Shape → Row → PlainTree
tree_of_row follow (Shape.Object key fields) (Row.Object values) =
    PlainTree.object (trees_of_list (map (λ part. tree_of_value follow part.0.kind part.1) (zip fields values)))
tree_of_row follow (Shape.List element) (Row.List ordinals) = PlainTree.list (trees_of_list (map (follow element) ordinals))
tree_of_row follow (Shape.Set element) (Row.Set ordinals) = PlainTree.set (trees_of_list (map (follow element) ordinals))
tree_of_row follow (Shape.Map key value) (Row.Map pairs) =
    PlainTree.map (pairs_of_list (map (λ pair. (follow key pair.0, follow value pair.1)) pairs))
tree_of_row follow _ _ = PlainTree.leaf Value.Null

-- the tree at an index and an ordinal that are there
abbrev pub tree_of_type : Option ℕ → (ℕ → PlainTree) → PlainTree
tree_of_type None follow = PlainTree.leaf Value.Null
tree_of_type (Some t) follow = follow t

abbrev pub tree_of_live : (Name → ℕ → PlainTree) → Option Schema → Option Row → PlainTree
tree_of_live follow (Some schema) (Some row) = tree_of_row follow schema.shape row
tree_of_live follow _ _ = PlainTree.leaf Value.Null

-- the tree of a row of a type that is no deeper than this many types
abbrev pub unfold_within : List Schema → Table → ℕ → ℕ → ℕ → PlainTree
unfold_within schemas table zero type_index ordinal = PlainTree.leaf Value.Null
unfold_within schemas table (suc depth) type_index ordinal =
    tree_of_live (λ name named. tree_of_type (index_of_type schemas name) (λ target. unfold_within schemas table depth target named)) (slice_get schemas type_index) (row_at table type_index ordinal)

-- the tree of a live row of a closed table; no type of a model is more than 32 types deep
unfoldable pub unfold_row : List Schema → Table → ℕ → ℕ → PlainTree
unfold_row schemas table t ordinal = unfold_within schemas table 32 t ordinal
