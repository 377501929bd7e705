-- Records with all that they refer to, as plain data: their nodes, and when two are the same record.
use Rattle.std.specs.Prelude.{List, [], ◌∷◌, ℕ, ◌+◌, ◌≡◌, ◌⊎◌, All, Any}
use Rattle.row_model.specs.declared.row.Value.{Value}
use Rattle.row_model.specs.Row.{stored_value}

-- a value, or a row with what it refers to in the place of the ordinals
mutual
  pub data PlainTree : Type 0 where
    leaf : Value → PlainTree
    object : PlainTrees → PlainTree
    list : PlainTrees → PlainTree
    set : PlainTrees → PlainTree
    map : PlainPairs → PlainTree

  pub data PlainTrees : Type 0 where
    no_trees : PlainTrees
    tree_then : PlainTree → PlainTrees → PlainTrees

  pub data PlainPairs : Type 0 where
    no_pairs : PlainPairs
    pair_then : PlainTree → PlainTree → PlainPairs → PlainPairs

abbrev pub trees_of_list : List PlainTree → PlainTrees
trees_of_list [] = no_trees
trees_of_list (tree ∷ trees) = tree_then tree (trees_of_list trees)

abbrev pub pairs_of_list : List (PlainTree × PlainTree) → PlainPairs
pairs_of_list [] = no_pairs
pairs_of_list (pair ∷ pairs) = pair_then pair.0 pair.1 (pairs_of_list pairs)

abbrev pub list_of_trees : PlainTrees → List PlainTree
list_of_trees no_trees = []
list_of_trees (tree_then tree trees) = tree ∷ list_of_trees trees

abbrev pub list_of_pairs : PlainPairs → List (PlainTree × PlainTree)
list_of_pairs no_pairs = []
list_of_pairs (pair_then key value pairs) = (key, value) ∷ list_of_pairs pairs

-- how many nodes a tree has: each row is one, and each null or other value
abbrev mutual
  pub node_count : PlainTree → ℕ
  node_count (leaf value) = 1
  node_count (object trees) = 1 + node_count_of_trees trees
  node_count (list trees) = 1 + node_count_of_trees trees
  node_count (set trees) = 1 + node_count_of_trees trees
  node_count (map pairs) = 1 + node_count_of_pairs pairs

  pub node_count_of_trees : PlainTrees → ℕ
  node_count_of_trees no_trees = 0
  node_count_of_trees (tree_then tree trees) = node_count tree + node_count_of_trees trees

  pub node_count_of_pairs : PlainPairs → ℕ
  node_count_of_pairs no_pairs = 0
  node_count_of_pairs (pair_then key value pairs) = node_count key + node_count value + node_count_of_pairs pairs

-- what the other tree must be, by its kind
abbrev pub IsLeafAnd : PlainTree → (Value → Type 0) → Type 0
IsLeafAnd (leaf value) P = P value
IsLeafAnd _ P = ⊥

abbrev pub IsObjectAnd : PlainTree → (List PlainTree → Type 0) → Type 0
IsObjectAnd (object trees) P = P (list_of_trees trees)
IsObjectAnd _ P = ⊥

abbrev pub IsListAnd : PlainTree → (List PlainTree → Type 0) → Type 0
IsListAnd (list trees) P = P (list_of_trees trees)
IsListAnd _ P = ⊥

abbrev pub IsSetAnd : PlainTree → (List PlainTree → Type 0) → Type 0
IsSetAnd (set trees) P = P (list_of_trees trees)
IsSetAnd _ P = ⊥

abbrev pub IsMapAnd : PlainTree → (List (PlainTree × PlainTree) → Type 0) → Type 0
IsMapAnd (map pairs) P = P (list_of_pairs pairs)
IsMapAnd _ P = ⊥

-- two lists of trees are the same one by one, given what holds of the rest
abbrev pub IsThenAnd : List PlainTree → (PlainTree → Type 0) → (List PlainTree → Type 0) → Type 0
IsThenAnd [] P Q = ⊥
IsThenAnd (tree ∷ trees) P Q = P tree × Q trees

-- Two trees are the same record: the least INT and LONG count as null, sets are compared without order and repeats, and maps without order.
abbrev mutual
  pub SameTree : PlainTree → PlainTree → Type 0
  SameTree (leaf value) other = IsLeafAnd other (λ value'. stored_value value ≡ stored_value value')
  SameTree (object trees) other = IsObjectAnd other (SameTrees trees)
  SameTree (list trees) other = IsListAnd other (SameTrees trees)
  SameTree (set trees) other = IsSetAnd other (λ trees'. EachAmong trees trees' × All (IsAmongTrees trees) trees')
  SameTree (map pairs) other = IsMapAnd other (λ pairs'. EachPairAmong pairs pairs' × All (IsAmongPairs pairs) pairs')

  -- the same trees in the same order
  pub SameTrees : PlainTrees → List PlainTree → Type 0
  SameTrees no_trees others = others ≡ []
  SameTrees (tree_then tree trees) others = IsThenAnd others (SameTree tree) (SameTrees trees)

  -- each tree is the same as one of the others
  pub EachAmong : PlainTrees → List PlainTree → Type 0
  EachAmong no_trees others = Unit {0}
  EachAmong (tree_then tree trees) others = Any (SameTree tree) others × EachAmong trees others

  -- one of the trees is the same as the other one
  pub IsAmongTrees : PlainTrees → PlainTree → Type 0
  IsAmongTrees no_trees other = ⊥
  IsAmongTrees (tree_then tree trees) other = SameTree tree other ⊎ IsAmongTrees trees other

  pub EachPairAmong : PlainPairs → List (PlainTree × PlainTree) → Type 0
  EachPairAmong no_pairs others = Unit {0}
  EachPairAmong (pair_then key value pairs) others =
      Any (λ other. SameTree key other.0 × SameTree value other.1) others × EachPairAmong pairs others

  pub IsAmongPairs : PlainPairs → PlainTree × PlainTree → Type 0
  IsAmongPairs no_pairs other = ⊥
  IsAmongPairs (pair_then key value pairs) other = (SameTree key other.0 × SameTree value other.1) ⊎ IsAmongPairs pairs other
