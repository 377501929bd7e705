-- The rows that leave the edited list, by the indexes of primary keys and by the state.
use Rattle.std.proofs.Common.{◌≡◌, ◌∙◌, ◌<◌, ◌^◌, ℕ, zero, suc, List, [], ◌∷◌, Bool, true, false, Option, Some, None, length, slice_get, refl, sym, ap, subst, inl, inr, arith}
use Rattle.std.specs.Prelude.{IsSome, IsSomeAnd, MatchBool, MatchOption, option_and_then}
use Rattle.std.specs.List.{AllZip}
use Rattle.std.specs.FinMap.{get}
use Rattle.schema_model.specs.declared.model.path.Path.{Path}
use Rattle.schema_model.specs.declared.model.rule.Rule.TheVariants.{DuplicateName}
use Rattle.schema_model.specs.declared.schema.Schema.{Schema}
use Rattle.schema_model.specs.Model.{IsModel}
use Rattle.schema_model.specs.Path.{Resolves}
use Rattle.row_model.specs.declared.row.Row.{Row}
use Rattle.row_model.specs.declared.row.Value.{Value}
use Rattle.row_model.specs.Key.{key_of}
use Rattle.row_model.specs.PlainTree.{PlainTree}
use Rattle.row_model.specs.Table.{IsLive, Table, row_at}
use Rattle.key_index.specs.Indexed.{Indexed, IsIndexBy}
use Rattle.write_engine.specs.Agreement.{HoldsOnce}
use Rattle.row_model.proofs.RowsFrom.{get_in}
use Rattle.hol_incremental.specs.Changes.{CountsMissing, IsFound}
use Rattle.hol_incremental.specs.Edited.{IsGivenKey, Keys, Records}
use Rattle.hol_incremental.specs.EditKeys.{AreIndexes, TellsIndex}
use Rattle.hol_incremental.specs.Leaves.{CountsUnfound, HasGiven, HasLowKeys, HasUnder, IsOfRecord, IsUnder, index_of}
use Rattle.hol_incremental.specs.Roots.{AreKeyPaths, IsKeyed, IsRowKey, IsTreeKey, key_of_tree, key_texts}
use Rattle.hol_incremental.proofs.FoundPaths.{paths_once}
use Rattle.hol_incremental.proofs.ShallowTypes.{type_at}

-- the row of the state has a primary key that is removed or put
abbrev pub HasGivenKey : List Schema → Table → Records → Keys → ℕ → ℕ → Type 0
HasGivenKey schemas previous puts removes t o = IsLive previous t o × ((key : List Value) × IsRowKey schemas previous t o key × IsGivenKey schemas puts removes t key)

pub keyed_by : (schemas : List Schema) (t : ℕ) (paths : List Path) → AreKeyPaths schemas t paths → IsKeyed schemas t
keyed_by schemas t paths are = by_texts (key_texts schemas t) are
  where
    by_texts : (texts : Option (List (List ℕ))) → IsSomeAnd texts (λ ts. AllZip (λ text path. Resolves schemas t text path) ts paths) → IsSome texts
    by_texts None are' = absurd are'
    by_texts (Some texts) are' = refl

keyed_inside : (schemas : List Schema) (t : ℕ) → IsKeyed schemas t → t < length schemas
keyed_inside [] zero keyed = absurd cc
keyed_inside [] (suc t) keyed = absurd cc
keyed_inside (s ∷ schemas) zero keyed = omega arith
keyed_inside (s ∷ schemas) (suc t) keyed = let low = keyed_inside schemas t keyed in omega (arith, low)

module _ (schemas : List Schema) (model : IsModel schemas) (previous : Table) (keys : List (Option Indexed)) (are : AreIndexes schemas previous keys) where
  -- the index of a type
  told : (t : ℕ) (index : Indexed) → index_of keys t ≡ Some index → TellsIndex schemas previous t (Some index)
  told t index is = by_slot (slice_get keys t) refl is
    where
      by_slot : (found : Option (Option Indexed)) → slice_get keys t ≡ found → option_and_then (λ i. i) found ≡ Some index → TellsIndex schemas previous t (Some index)
      by_slot None at is = absurd cc
      by_slot (Some found) at is = subst (λ (i : Option Indexed). TellsIndex schemas previous t i) is (are.each t found at)

  -- a type with a primary key has one
  index_there : (t : ℕ) → IsKeyed schemas t → (index : Indexed) × (index_of keys t ≡ Some index)
  index_there t keyed = by_slot slot.0 slot.1 (are.each t slot.0 slot.1)
    where
      slot : (index : Option Indexed) × (slice_get keys t ≡ Some index)
      slot = type_at keys t (let low = keyed_inside schemas t keyed in let long = are.types in omega (arith, low, long))

      by_slot : (index : Option Indexed) → slice_get keys t ≡ Some index → TellsIndex schemas previous t index → (index : Indexed) × (index_of keys t ≡ Some index)
      by_slot None at unkeyed = absurd (unkeyed keyed)
      by_slot (Some index) at tells = (index, ap (option_and_then (λ i. i)) at)

  under_index : (t : ℕ) (key : List Value) (o : ℕ) → IsUnder keys t key o → (index : Indexed) × (index_of keys t ≡ Some index) × (get index.keys o ≡ Some (Some key))
  under_index t key o under = by_index (index_of keys t) refl under
    where
      by_index : (found : Option Indexed) → index_of keys t ≡ found → IsSomeAnd found (λ index. get index.keys o ≡ Some (Some key)) → (index : Indexed) × (index_of keys t ≡ Some index) × (get index.keys o ≡ Some (Some key))
      by_index None is under = absurd under
      by_index (Some index) is under = (index, is, under)

  -- what stands under an ordinal of an index
  module _ (t : ℕ) (index : Indexed) (is : index_of keys t ≡ Some index) (o : ℕ) where
    tells : AreKeyPaths schemas t index.paths × IsIndexBy schemas previous t index.paths index
    tells = told t index is

    by_row : (found : Option Row) → row_at previous t o ≡ found → MatchOption found (get index.keys o ≡ None) (λ row. get index.keys o ≡ Some (key_of schemas previous t index.paths o))
        → (entry : Option (List Value)) → get index.keys o ≡ Some entry → IsLive previous t o × (key_of schemas previous t index.paths o ≡ entry)
    by_row None at none entry here = let e = sym none ∙ here in absurd cc
    by_row (Some row) at kept entry here =
        let e : ◌≡◌ {A = Option (Option (List Value))} (Some (key_of schemas previous t index.paths o)) (Some entry) = sym kept ∙ here in
        let same : key_of schemas previous t index.paths o ≡ entry = cc in
        (subst IsSome (sym at) refl, same)

    pub entry_is : (entry : Option (List Value)) → get index.keys o ≡ Some entry → IsLive previous t o × (key_of schemas previous t index.paths o ≡ entry)
    entry_is entry here = by_row (row_at previous t o) refl (tells.1.keys_are o) entry here

    pub entry_of : IsLive previous t o → get index.keys o ≡ Some (key_of schemas previous t index.paths o)
    entry_of live = by_live (row_at previous t o) live (tells.1.keys_are o)
      where
        by_live : (found : Option Row) → IsSome found → MatchOption found (get index.keys o ≡ None) (λ row. get index.keys o ≡ Some (key_of schemas previous t index.paths o))
            → get index.keys o ≡ Some (key_of schemas previous t index.paths o)
        by_live None some kept = absurd cc
        by_live (Some row) some kept = kept

  pub under_is : (t : ℕ) (key : List Value) (o : ℕ) → IsUnder keys t key o → IsLive previous t o × IsRowKey schemas previous t o key
  under_is t key o under =
      let found = under_index t key o under in
      let is = entry_is t found.0 found.1 o (Some key) found.2 in
      (is.0, (found.0.paths, (told t found.0 found.1).0, is.1))

  same_paths : (t : ℕ) (index : Indexed) → index_of keys t ≡ Some index → (paths : List Path) → AreKeyPaths schemas t paths → paths ≡ index.paths
  same_paths t index is paths of = paths_once schemas (model DuplicateName) t paths index.paths of (told t index is).0

  pub is_under : (t : ℕ) (key : List Value) (o : ℕ) → IsLive previous t o → IsRowKey schemas previous t o key → IsUnder keys t key o
  is_under t key o live row =
      let there = index_there t (keyed_by schemas t row.0 row.1) in
      subst (λ (found : Option Indexed). IsSomeAnd found (λ index. get index.keys o ≡ Some (Some key))) (sym there.1)
      (entry_of t there.0 there.1 o live ∙ ap Some (ap (λ (ps : List Path). key_of schemas previous t ps o) (sym (same_paths t there.0 there.1 row.0 row.1)) ∙ row.2))

  pub of_record : (t : ℕ) (tree : PlainTree) (o : ℕ) → IsOfRecord keys t tree o → (key : List Value) × IsTreeKey schemas t tree key × IsUnder keys t key o
  of_record t tree o is = (is.0, by_index (index_of keys t) refl is.1, is.2)
    where
      by_index : (found : Option Indexed) → index_of keys t ≡ found → IsSomeAnd found (λ index. key_of_tree index.paths tree ≡ Some is.0) → IsTreeKey schemas t tree is.0
      by_index None at key = absurd key
      by_index (Some index) at key = (index.paths, (told t index at).0, key)

  pub record_of : (t : ℕ) (tree : PlainTree) (o : ℕ) (key : List Value) → IsTreeKey schemas t tree key → IsUnder keys t key o → IsOfRecord keys t tree o
  record_of t tree o key of under =
      let found = under_index t key o under in (
        key,
        subst (λ (index : Option Indexed). IsSomeAnd index (λ i. key_of_tree i.paths tree ≡ Some key)) (sym found.1)
            (ap (λ (ps : List Path). key_of_tree ps tree) (sym (same_paths t found.0 found.1 of.0 of.1)) ∙ of.2),
        under,
      )

  -- ---- which rows leave

  module _ (puts : Records) (removes : Keys) where
    pub given_is : (t o : ℕ) → HasGiven keys puts removes (t, o) → HasGivenKey schemas previous puts removes t o
    given_is t o (inl removed) = let is = under_is t removed.0 o removed.2 in (is.0, (removed.0, is.1, inl removed.1))
    given_is t o (inr put) =
        let of = of_record t put.0 o put.2 in
        let is = under_is t of.0 o of.2 in
        (is.0, (of.0, is.1, inr (put.0, put.1, of.1)))

    pub is_given : (t o : ℕ) → HasGivenKey schemas previous puts removes t o → HasGiven keys puts removes (t, o)
    is_given t o given = by_key given.1.2
      where
        under : IsUnder keys t given.1.0 o
        under = is_under t given.1.0 o given.0 given.1.1

        by_key : IsGivenKey schemas puts removes t given.1.0 → HasGiven keys puts removes (t, o)
        by_key (inl removed) = inl (given.1.0, removed, under)
        by_key (inr put) = inr (put.0, put.1, record_of t put.0 o given.1.0 put.2 under)

  -- ---- how many keys are missing

  pub counts_missing : (removes : Keys) (missing : ℕ) → CountsUnfound keys removes missing → CountsMissing schemas previous removes missing
  counts_missing removes missing counts = (counts.0, each removes counts.0 counts.1, counts.2)
    where
      one : (key : ℕ × List Value) (lost : Bool) → MatchBool lost (¬ HasUnder keys key) (HasUnder keys key) → MatchBool lost (¬ IsFound schemas previous key) (IsFound schemas previous key)
      one key true none = λ found. none (found.0, is_under key.0 key.1 found.0 found.1 found.2)
      one key false under = let is = under_is key.0 key.1 under.0 under.1 in (under.0, is.0, is.1)

      each : (xs : Keys) (lost : List Bool) → AllZip (λ key is_lost. MatchBool is_lost (¬ HasUnder keys key) (HasUnder keys key)) xs lost
          → AllZip (λ key is_lost. MatchBool is_lost (¬ IsFound schemas previous key) (IsFound schemas previous key)) xs lost
      each [] [] zip = zip
      each [] (b ∷ lost) zip = absurd zip
      each (key ∷ xs) [] zip = absurd zip
      each (key ∷ xs) (b ∷ lost) zip = (one key b zip.0, each xs lost zip.1)

  -- ---- the ordinals are low

  pub low_keys : HoldsOnce previous → HasLowKeys keys
  low_keys once t o there = by_index (index_of keys t) refl there
    where
      by_entry : (index : Indexed) → index_of keys t ≡ Some index → (entry : Option (Option (List Value))) → get index.keys o ≡ entry → IsSome entry → o < 2 ^ 22
      by_entry index at None is some = absurd cc
      by_entry index at (Some entry) is some = once.low t o (subst IsSome (sym (get_in previous t o)) (entry_is t index at o entry is).0)

      by_index : (found : Option Indexed) → index_of keys t ≡ found → IsSomeAnd found (λ index. IsSome (get index.keys o)) → o < 2 ^ 22
      by_index None at there = absurd there
      by_index (Some index) at there = by_entry index at (get index.keys o) refl there
