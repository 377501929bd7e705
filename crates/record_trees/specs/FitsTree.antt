-- When a tree fits a type: each part stands where the type asks for one of its kind, and no two keys of a map are the same record.
use Rattle.std.specs.Prelude.{List, [], ◌∷◌, ℕ, ◌≡◌, IsSomeAnd, AllPairs, option_and_then}
use Rattle.schema_model.specs.declared.schema.Field.{Field}
use Rattle.schema_model.specs.declared.schema.FieldKind.{FieldKind}
use Rattle.schema_model.specs.declared.schema.Schema.{Schema}
use Rattle.row_model.specs.declared.row.Value.{Value}
use Rattle.row_model.specs.Row.{FitsKind}
use Rattle.row_model.specs.PlainTree.{PlainTree, PlainTrees, PlainPairs, leaf, object, list, set, map, no_trees, tree_then, no_pairs, pair_then, SameTree, list_of_pairs}
use Rattle.record_trees.specs.Types.{object_fields, list_element, set_element, map_types, referred, shape_at}

-- a value may stand in the tree of a record's field: of the field's kind, and for a REFERENCE only null
abbrev pub FitsLeaf : FieldKind → Value → Type 0
FitsLeaf (FieldKind.Reference name) Value.Null = Unit {0}
FitsLeaf (FieldKind.Reference name) _ = ⊥
FitsLeaf kind value = FitsKind kind value

-- what holds of a value, or else of a tree that is none
abbrev pub IsLeafOr : PlainTree → (Value → Type 0) → Type 0 → Type 0
IsLeafOr (leaf value) P Q = P value
IsLeafOr _ P Q = Q

-- what holds of the first item and of those behind it
abbrev pub IsConsAnd : {A : Type 0} → List A → (A → List A → Type 0) → Type 0
IsConsAnd [] P = ⊥
IsConsAnd (x ∷ xs) P = P x xs

-- no two keys are the same record
abbrev pub AreKeysApart : PlainPairs → Type 0
AreKeysApart pairs = AllPairs (λ earlier later. ¬ SameTree earlier.0 later.0) (list_of_pairs pairs)

abbrev mutual
  pub FitsTree : List Schema → ℕ → PlainTree → Type 0
  FitsTree schemas type_index (leaf value) = ⊥
  FitsTree schemas type_index (object trees) = IsSomeAnd (option_and_then object_fields (shape_at schemas type_index)) (λ fields. FitFields schemas fields trees)
  FitsTree schemas type_index (list trees) = IsSomeAnd (option_and_then (list_element schemas) (shape_at schemas type_index)) (λ element. FitAll schemas element trees)
  FitsTree schemas type_index (set trees) = IsSomeAnd (option_and_then (set_element schemas) (shape_at schemas type_index)) (λ element. FitAll schemas element trees)
  FitsTree schemas type_index (map pairs) = IsSomeAnd (option_and_then (map_types schemas) (shape_at schemas type_index)) (λ types. FitPairs schemas types pairs) × AreKeysApart pairs

  -- a tree for each field: a value, or what a REFERENCE refers to
  pub FitFields : List Schema → List Field → PlainTrees → Type 0
  FitFields schemas fields no_trees = fields ≡ []
  FitFields schemas fields (tree_then tree trees) =
      IsConsAnd fields (λ field others. IsLeafOr tree (FitsLeaf field.kind) (IsSomeAnd (referred schemas field.kind) (λ type_index. FitsTree schemas type_index tree)) × FitFields schemas others trees)

  pub FitAll : List Schema → ℕ → PlainTrees → Type 0
  FitAll schemas type_index no_trees = Unit {0}
  FitAll schemas type_index (tree_then tree trees) = FitsTree schemas type_index tree × FitAll schemas type_index trees

  pub FitPairs : List Schema → ℕ × ℕ → PlainPairs → Type 0
  FitPairs schemas types no_pairs = Unit {0}
  FitPairs schemas types (pair_then key value pairs) = FitsTree schemas types.0 key × FitsTree schemas types.1 value × FitPairs schemas types pairs
