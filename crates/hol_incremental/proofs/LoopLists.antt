-- Lists that grow with the first so many of others.
use Rattle.std.proofs.Common.{◌≡◌, ◌∙◌, ◌+◌, ◌<◌, ℕ, zero, suc, List, [], ◌∷◌, ◌++◌, Bool, true, false, Option, Some, None, length, get_or, map, slice_get, take, refl, sym, ap, subst, arith}
use Rattle.std.specs.Prelude.{MatchBool, cond, count_by}
use Rattle.std.specs.List.{AllZip}
use Rattle.std.specs.Option.{option_map}
use Rattle.schema_model.specs.declared.model.path.Path.{Path}
use Rattle.row_model.specs.declared.row.Value.{Value}
use Rattle.row_model.specs.Key.{with_first}
use Rattle.row_model.specs.PlainTree.{PlainTree, list_of_trees, trees_of_list}
use Rattle.record_trees.specs.Tree.{plain}
use Rattle.record_trees.specs.declared.tree.Tree.{Tree}
use Rattle.key_index.specs.Indexed.{Indexed}
use Rattle.hol_incremental.specs.Edited.{Keys}
use Rattle.hol_incremental.specs.Leaves.{CountsUnfound, HasUnder}
use Rattle.hol_incremental.specs.Roots.{key_of_tree, tree_value}
use Rattle.hol_incremental.proofs.AddedUp.{sum_more}
use Rattle.hol_incremental.proofs.CountLists.{taken_push}

-- ---- side by side

zip_push : {A B : Type 0} (R : A → B → Type 0) (xs : List A) (ys : List B) (x : A) (y : B) → AllZip R xs ys → R x y → AllZip R (xs ++ x ∷ []) (ys ++ y ∷ [])
zip_push R [] [] x y zip one = (one, tt)
zip_push R [] (b ∷ ys) x y zip one = absurd zip
zip_push R (a ∷ xs) [] x y zip one = absurd zip
zip_push R (a ∷ xs) (b ∷ ys) x y zip one = (zip.0, zip_push R xs ys x y zip.1 one)

pub zip_more : {A B : Type 0} (R : A → B → Type 0) (xs : List A) (ys : List B) (i : ℕ) (d : A) (y : B) → i < length xs → AllZip R (take i xs) ys → R (get_or xs i d) y → AllZip R (take (i + 1) xs) (ys ++ y ∷ [])
zip_more R xs ys i d y inside zip one = subst (λ zs. AllZip R zs (ys ++ y ∷ [])) (sym (taken_push xs i d inside)) (zip_push R (take i xs) ys (get_or xs i d) y zip one)

-- ---- keys of records

module _ (tree : PlainTree) where
  first_none : (first : Option Value) → with_first first None ≡ None
  first_none None = refl
  first_none (Some value) = refl

  pub key_none : (paths : List Path) (i : ℕ) (d : Path) → i < length paths → tree_value tree (get_or paths i d).fields ≡ None → key_of_tree paths tree ≡ None
  key_none [] i d inside none = absurd (omega (arith, inside))
  key_none (path ∷ paths) zero d inside none = ap (λ (v : Option Value). with_first v (key_of_tree paths tree)) none
  key_none (path ∷ paths) (suc i) d inside none =
      ap (λ (k : Option (List Value)). with_first (tree_value tree path.fields) k) (key_none paths i d (omega (arith, inside)) none) ∙ first_none (tree_value tree path.fields)

  first_some : (first : Option Value) (rest : Option (List Value)) (key : List Value) → with_first first rest ≡ Some key → (a : Value) × (b : List Value) × (first ≡ Some a) × (rest ≡ Some b) × (key ≡ a ∷ b)
  first_some None rest key is = absurd cc
  first_some (Some a) None key is = absurd cc
  first_some (Some a) (Some b) key is = let same : a ∷ b ≡ key = cc in (a, b, refl, refl, sym same)

  key_push : (paths : List Path) (path : Path) (key : List Value) (value : Value) → key_of_tree paths tree ≡ Some key → tree_value tree path.fields ≡ Some value → key_of_tree (paths ++ path ∷ []) tree ≡ Some (key ++ value ∷ [])
  key_push [] path key value is one =
      let none : [] ≡ key = cc in
      ap (λ (v : Option Value). with_first v (Some [])) one ∙ ap (λ (k : List Value). Some (k ++ value ∷ [])) none
  key_push (p ∷ paths) path key value is one =
      let parts = first_some (tree_value tree p.fields) (key_of_tree paths tree) key is in
      (λ j. with_first (parts.2 j) (key_push paths path parts.1 value parts.3 one j)) ∙ ap (λ (k : List Value). Some (k ++ value ∷ [])) (sym parts.4)

  pub key_more : (paths : List Path) (i : ℕ) (d : Path) (key : List Value) (value : Value) → i < length paths → key_of_tree (take i paths) tree ≡ Some key → tree_value tree (get_or paths i d).fields ≡ Some value
      → key_of_tree (take (i + 1) paths) tree ≡ Some (key ++ value ∷ [])
  key_more paths i d key value inside is one = ap (λ (ps : List Path). key_of_tree ps tree) (taken_push paths i d inside) ∙ key_push (take i paths) (get_or paths i d) key value is one

-- ---- missing keys

module _ (keys : List (Option Indexed)) (removes : Keys) (i : ℕ) (d : ℕ × List Value) (inside : i < length removes) where
  push_true : (lost : List Bool) → count_by (λ b. b) (lost ++ true ∷ []) ≡ count_by (λ b. b) lost + 1
  push_true [] = refl
  push_true (b ∷ lost) =
      let x = sum_more {X = Bool} (λ b. cond b 1 0) b (lost ++ true ∷ []) in
      let y = sum_more {X = Bool} (λ b. cond b 1 0) b lost in
      let z = push_true lost in
      omega (arith, x, y, z)

  push_false : (lost : List Bool) → count_by (λ b. b) (lost ++ false ∷ []) ≡ count_by (λ b. b) lost
  push_false [] = refl
  push_false (b ∷ lost) =
      let x = sum_more {X = Bool} (λ b. cond b 1 0) b (lost ++ false ∷ []) in
      let y = sum_more {X = Bool} (λ b. cond b 1 0) b lost in
      let z = push_false lost in
      omega (arith, x, y, z)

  pub one_lost : (missing : ℕ) → CountsUnfound keys (take i removes) missing → (HasUnder keys (get_or removes i d) → ⊥) → CountsUnfound keys (take (i + 1) removes) (missing + 1)
  one_lost missing counts none = (
    counts.0 ++ true ∷ [],
    zip_more (λ key is_lost. MatchBool is_lost (¬ HasUnder keys key) (HasUnder keys key)) removes counts.0 i d true inside counts.1 none,
    (let x = counts.2 in let y = push_true counts.0 in omega (arith, x, y)),
  )

  pub one_found : (missing : ℕ) → CountsUnfound keys (take i removes) missing → HasUnder keys (get_or removes i d) → CountsUnfound keys (take (i + 1) removes) missing
  one_found missing counts found = (
    counts.0 ++ false ∷ [],
    zip_more (λ key is_lost. MatchBool is_lost (¬ HasUnder keys key) (HasUnder keys key)) removes counts.0 i d false inside counts.1 found,
    (let x = counts.2 in let y = push_false counts.0 in omega (arith, x, y)),
  )

-- ---- the parts of a record

pub part_of_plain : (parts : List Tree) (k : ℕ) → option_map plain (slice_get parts k) ≡ slice_get (list_of_trees (trees_of_list (map plain parts))) k
part_of_plain [] zero = refl
part_of_plain [] (suc k) = refl
part_of_plain (part ∷ parts) zero = refl
part_of_plain (part ∷ parts) (suc k) = part_of_plain parts k
