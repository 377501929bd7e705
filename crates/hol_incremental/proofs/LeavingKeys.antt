-- The rows that have a key, by the index of their type.
use Rattle.std.proofs.Common.{◌≡◌, ◌∙◌, ◌-◌, ◌<◌, ◌^◌, ℕ, List, [], ◌∷◌, Bool, true, false, not, Option, Some, refl, sym, subst, arith}
use Rattle.std.specs.Prelude.{◌↔◌, All, Contains, IsSome, IsSomeAnd, IsTrue}
use Rattle.std.specs.FinMap.{get}
use Rattle.row_model.specs.declared.row.Value.{Value}
use Rattle.row_model.specs.PlainTree.{PlainTree}
use Rattle.key_index.specs.Indexed.{AreUnder, Indexed}
use Rattle.hol_incremental.specs.Leaves.{HasLowKeys, HasUnder, IsOfRecord, IsUnder, index_of}
use Rattle.hol_incremental.specs.Roots.{key_of_tree}
use Rattle.hol_incremental.proofs.Among.{first_in, none_in}
use Rattle.hol_incremental.proofs.OnceLists.{all_of}

module _ (keys : List (Option Indexed)) (t : ℕ) (index : Indexed) (is : index_of keys t ≡ Some index) (key : List Value) where
  module _ (ordinals : List ℕ) (under : AreUnder index.keys key ordinals) where
    pub under_of : (o : ℕ) → Contains ordinals o → IsUnder keys t key o
    under_of o among = subst (λ (found : Option Indexed). IsSomeAnd found (λ i. get i.keys o ≡ Some (Some key))) (sym is) ((under.are o).0 among)

    pub of_under : (o : ℕ) → IsUnder keys t key o → Contains ordinals o
    of_under o here = (under.are o).1 (subst (λ (found : Option Indexed). IsSomeAnd found (λ i. get i.keys o ≡ Some (Some key))) is here)

    pub low_under : HasLowKeys keys → All (λ o. o < 2 ^ 32 - 1) ordinals
    low_under low = all_of (λ o. o < 2 ^ 32 - 1) ordinals (λ o among. (let few = low t o (subst (λ (found : Option Indexed). IsSomeAnd found (λ i. IsSome (get i.keys o))) (sym is) (subst IsSome (sym ((under.are o).0 among)) refl)) in omega (arith, few)))

    some_first : (xs : List ℕ) → ordinals ≡ xs → (xs ≡ [] → ⊥) → HasUnder keys (t, key)
    some_first [] same some = absurd (some refl)
    some_first (x ∷ xs) same some = (x, under_of x (subst (λ ys. Contains ys x) (sym same) (first_in x xs)))

    pub found_is : (empty : Bool) → IsTrue empty ↔ (ordinals ≡ []) → IsTrue (not empty) ↔ HasUnder keys (t, key)
    found_is true tells = ((λ yes. absurd cc), (λ found. absurd (none_in found.0 (subst (λ ys. Contains ys found.0) (tells.0 refl) (of_under found.0 found.1)))))
    found_is false tells = ((λ yes. some_first ordinals refl (λ none. (let e = tells.1 none in cc))), (λ found. refl))

  -- ---- of a record

  pub record_of_key : (tree : PlainTree) → key_of_tree index.paths tree ≡ Some key → (o : ℕ) → IsUnder keys t key o → IsOfRecord keys t tree o
  record_of_key tree of o under = (key, subst (λ (found : Option Indexed). IsSomeAnd found (λ i. key_of_tree i.paths tree ≡ Some key)) (sym is) of, under)

  pub key_of_record : (tree : PlainTree) → key_of_tree index.paths tree ≡ Some key → (o : ℕ) → IsOfRecord keys t tree o → IsUnder keys t key o
  key_of_record tree of o found =
      let other = subst (λ (i : Option Indexed). IsSomeAnd i (λ i. key_of_tree i.paths tree ≡ Some found.0)) is found.1 in
      let e : Some key ≡ Some found.0 = sym of ∙ other in
      let same : key ≡ found.0 = cc in
      subst (λ (k : List Value). IsUnder keys t k o) (sym same) found.2
