-- The indexes of rows by their primary keys, from one state to the next.
use Rattle.std.proofs.Common.{◌≡◌, ◌∙◌, ◌⊎◌, ◌+◌, ◌++◌, ◌<◌, ℕ, zero, suc, List, [], ◌∷◌, Option, Some, None, length, map, take, drop, get_or, slice_get, refl, sym, ap, subst, inl, inr, arith}
use Rattle.std.specs.Prelude.{All, Contains, IsSome, IsSomeAnd, MatchOption, is_some, slice_index_or}
use Rattle.std.specs.FinMap.{get}
use Rattle.std.specs.List.{AllZip}
use Rattle.std.specs.Option.{option_map, unwrap_or}
use Rattle.std.proofs.lemmas.List.{drop_more, get_or_at, length-map, length-take}
use Rattle.std.proofs.lemmas.List.Elements.{All-cons, All-nil, Contains-get_or}
use Rattle.std.proofs.lemmas.Option.{slice_get-get_or, slice_get-map}
use Rattle.schema_model.specs.Path.{Resolves}
use Rattle.schema_model.specs.declared.model.path.Path.{Path}
use Rattle.schema_model.specs.declared.schema.Schema.{Schema}
use Rattle.key_index.specs.Indexed.{AreKeysOf, CountsLive, Follows, HaveOneRow, Indexed, IsIndexBy, KeyMap}
use Rattle.key_index.proofs.KeptKeys.{key_kept}
use Rattle.row_model.specs.Key.{IsResolved, key_of}
use Rattle.row_model.specs.Table.{IsClosed, IsLive, Table, row_at}
use Rattle.row_model.specs.declared.row.Row.{Row}
use Rattle.write_engine.proofs.Parts.{length_images}
use Rattle.hol_incremental.specs.EditKeys.{AreIndexes, TellsIndex, TellsKeyPaths}
use Rattle.hol_incremental.specs.Keeping.{AreLacking, AreReadyKeys, CountsComing, CountsKeyed, IsReadyIndex, IsReserved, moved, settled}
use Rattle.hol_incremental.specs.Roots.{AreKeyPaths, IsKeyed, key_texts}
use Rattle.hol_incremental.proofs.DecidedRoots.{some_or}

-- ---- the paths of a key

resolved_each : (schemas : List Schema) (t : ℕ) (texts : List (List ℕ)) (paths : List Path) → AllZip (λ text path. Resolves schemas t text path) texts paths → All (IsResolved schemas t) paths
resolved_each schemas t [] [] are = All-nil (IsResolved schemas t)
resolved_each schemas t [] (path ∷ paths) are = absurd are
resolved_each schemas t (text ∷ texts) [] are = absurd are
resolved_each schemas t (text ∷ texts) (path ∷ paths) are = All-cons (IsResolved schemas t) path paths (text, are.0) (resolved_each schemas t texts paths are.1)

pub all_resolved : (schemas : List Schema) (t : ℕ) (paths : List Path) → AreKeyPaths schemas t paths → All (IsResolved schemas t) paths
all_resolved schemas t paths are = by_texts (key_texts schemas t) are
  where
    by_texts : (texts : Option (List (List ℕ))) → IsSomeAnd texts (λ ts. AllZip (λ text path. Resolves schemas t text path) ts paths) → All (IsResolved schemas t) paths
    by_texts None are' = absurd are'
    by_texts (Some texts) are' = resolved_each schemas t texts paths are'

-- ---- the keys of rows

dead_row : (table : Table) (t o : ℕ) → (IsLive table t o → ⊥) → row_at table t o ≡ None
dead_row table t o dead = of_row (row_at table t o) refl
  where
    of_row : (found : Option Row) → row_at table t o ≡ found → row_at table t o ≡ None
    of_row None is = is
    of_row (Some row) is = absurd (dead (ap is_some is))

module _ (schemas : List Schema) (table : Table) (t : ℕ) (paths : List Path) (keys : KeyMap) (are : AreKeysOf schemas table t paths keys) where
  -- an ordinal with no row has no key
  no_key : (o : ℕ) → (IsLive table t o → ⊥) → get keys o ≡ None
  no_key o dead = subst (λ (found : Option Row). MatchOption found (get keys o ≡ None) (λ row. get keys o ≡ Some (key_of schemas table t paths o))) (dead_row table t o dead) (are o)

  -- a live one has that of its row
  key_at : (o : ℕ) → IsLive table t o → get keys o ≡ Some (key_of schemas table t paths o)
  key_at o live = of_row (row_at table t o) refl
    where
      of_row : (found : Option Row) → row_at table t o ≡ found → get keys o ≡ Some (key_of schemas table t paths o)
      of_row None none = absurd (let e = subst IsSome none live in cc)
      of_row (Some row) is = subst (λ (found : Option Row). MatchOption found (get keys o ≡ None) (λ row. get keys o ≡ Some (key_of schemas table t paths o))) is (are o)

  -- and only those are indexed
  keyed_live : (o : ℕ) → IsSome (get keys o) → IsLive table t o
  keyed_live o some = elim (some_or (row_at table t o)) [
    | inl live ↦ live
    | inr dead ↦ absurd (let e = subst IsSome (no_key o dead) some in cc)
  ]

-- ---- the next state follows

module _ (schemas : List Schema) (before next : Table) (closed_before : IsClosed schemas before) (closed_next : IsClosed schemas next) (one : HaveOneRow before next) (t : ℕ) (removed added : List ℕ) (leave : AreLacking before next t removed)
    (come : AreLacking next before t added) where
  module _ (paths : List Path) (keys : KeyMap) (are : AreKeysOf schemas before t paths keys) where
    goes : (o : ℕ) → IsLive next t o → (IsSome (get keys o) × ¬ Contains removed o) ⊎ Contains added o
    goes o live = elim (some_or (row_at before t o)) [
      | inl was ↦ inl (ap is_some (key_at schemas before t paths keys are o was), λ among. ((leave.are o).0 among).1 live)
      | inr dead ↦ inr ((come.are o).1 (live, dead))
    ]

    comes : (o : ℕ) → (IsSome (get keys o) × ¬ Contains removed o) ⊎ Contains added o → IsLive next t o
    comes o (inr among) = ((come.are o).0 among).0
    comes o (inl (keyed, stays)) = elim (some_or (row_at next t o)) [
      | inl live ↦ live
      | inr dead ↦ absurd (stays ((leave.are o).1 (keyed_live schemas before t paths keys are o keyed, dead)))
    ]

    stays : (o : ℕ) → IsLive next t o → (Contains added o → ⊥) → get keys o ≡ Some (key_of schemas next t paths o)
    stays o live not_new = elim (some_or (row_at before t o)) [
      | inl was ↦ key_at schemas before t paths keys are o was ∙ ap Some (sym (key_kept schemas before next closed_before closed_next one paths t o was live))
      | inr dead ↦ absurd (not_new ((come.are o).1 (live, dead)))
    ]

    keys_follow : Follows keys schemas next t paths removed added
    keys_follow = record {
      removed_rise = leave.rising;
      added_rise = come.rising;
      removed_there = λ k d inside.
          ap is_some (key_at schemas before t paths keys are (slice_index_or removed k d) ((leave.are (slice_index_or removed k d)).0 (Contains-get_or removed k d inside)).0);
      added_free = λ k d inside. no_key schemas before t paths keys are (slice_index_or added k d) ((come.are (slice_index_or added k d)).0 (Contains-get_or added k d inside)).1;
      live = λ o. (goes o, comes o);
      stays = stays;
    }

  -- what an index of the type is made ready by
  pub follows : (index : Indexed) → TellsIndex schemas before t (Some index) → Follows index.keys schemas next index.type_index index.paths removed added
  follows index tells = subst (λ u. Follows index.keys schemas next u index.paths removed added) (sym tells.1.type_is) (keys_follow index.paths index.keys tells.1.keys_are)

pub resolved : (schemas : List Schema) (table : Table) (t : ℕ) (index : Indexed) → TellsIndex schemas table t (Some index) → All (IsResolved schemas index.type_index) index.paths
resolved schemas table t index tells = subst (λ u. All (IsResolved schemas u) index.paths) (sym tells.1.type_is) (all_resolved schemas t index.paths tells.0)

-- ---- indexes that are settled, and that are updated

settled_tells : (schemas : List Schema) (table : Table) (t : ℕ) (index : Option Indexed) → TellsIndex schemas table t index → TellsIndex schemas table t (settled index)
settled_tells schemas table t None tells = tells
settled_tells schemas table t (Some index) tells = (tells.0, record { type_is = tells.1.type_is; paths_are = refl; keys_are = tells.1.keys_are })

tells_settled : (schemas : List Schema) (table : Table) (t : ℕ) (index : Option Indexed) → TellsIndex schemas table t (settled index) → TellsIndex schemas table t index
tells_settled schemas table t None tells = tells
tells_settled schemas table t (Some index) tells = (tells.0, record { type_is = tells.1.type_is; paths_are = refl; keys_are = tells.1.keys_are })

mapped_at : {A B : Type 0} (f : A → B) (xs : List A) (t : ℕ) (x : A) → slice_get xs t ≡ Some x → slice_get (map f xs) t ≡ Some (f x)
mapped_at f xs t x is = slice_get-map f xs t ∙ ap (option_map f) is

at_mapped : {A B : Type 0} (f : A → B) (xs : List A) (t : ℕ) (y : B) → slice_get (map f xs) t ≡ Some y → (x : A) × (slice_get xs t ≡ Some x) × (f x ≡ y)
at_mapped f [] t y is = absurd cc
at_mapped f (x ∷ xs) zero y is = let same : f x ≡ y = cc in (x, refl, same)
at_mapped f (x ∷ xs) (suc t) y is = at_mapped f xs t y is

-- what the indexes are ready for does not matter
pub same_settled : (schemas : List Schema) (table : Table) (keys keys' : List (Option Indexed)) → map settled keys' ≡ map settled keys → AreIndexes schemas table keys → AreIndexes schemas table keys'
same_settled schemas table keys keys' same are = record {
  types = sym (length_images settled keys') ∙ ap (λ (xs : List (Option Indexed)). length xs) same ∙ length_images settled keys ∙ are.types;
  each = λ t index at.
      (let there = ap (λ (xs : List (Option Indexed)). slice_get xs t) (sym same) ∙ mapped_at settled keys' t index at in
      let found = at_mapped settled keys t (settled index) there in
      tells_settled schemas table t index (subst (TellsIndex schemas table t) found.2 (settled_tells schemas table t found.0 (are.each t found.0 found.1))));
}

moved_tells : (schemas : List Schema) (before next : Table) (t : ℕ) (index : Option Indexed) → TellsIndex schemas before t index → IsReadyIndex schemas next index → TellsIndex schemas next t (moved index)
moved_tells schemas before next t None tells ready = tells
moved_tells schemas before next t (Some index) tells ready = (tells.0, record { type_is = tells.1.type_is; paths_are = refl; keys_are = by_next index.next ready })
  where
    by_next : (kept : Option KeyMap) → IsSomeAnd kept (AreKeysOf schemas next index.type_index index.paths) → AreKeysOf schemas next t index.paths (unwrap_or kept index.keys)
    by_next None none = absurd none
    by_next (Some keys) are = subst (λ u. AreKeysOf schemas next u index.paths keys) tells.1.type_is are

-- indexes that are ready become those of the next state
pub moved_indexes : (schemas : List Schema) (before next : Table) (keys : List (Option Indexed)) → AreIndexes schemas before keys → AreReadyKeys schemas next keys → AreIndexes schemas next (map moved keys)
moved_indexes schemas before next keys are ready = record {
  types = length_images moved keys ∙ are.types;
  each = λ t index at. (let found = at_mapped moved keys t index at in subst (TellsIndex schemas next t) found.2 (moved_tells schemas before next t found.0 (are.each t found.0 found.1) (ready t found.0 found.1)));
}

ready_reserved : (schemas : List Schema) (next : Table) (index : Option Indexed) → IsReadyIndex schemas next index → IsReserved index
ready_reserved schemas next None ready = tt
ready_reserved schemas next (Some index) ready = by_next index.next ready
  where
    by_next : (kept : Option KeyMap) → IsSomeAnd kept (AreKeysOf schemas next index.type_index index.paths) → IsSome kept
    by_next None none = absurd none
    by_next (Some keys) are = refl

pub all_reserved : (schemas : List Schema) (next : Table) (keys : List (Option Indexed)) → AreReadyKeys schemas next keys → All IsReserved keys
all_reserved schemas next keys ready = λ k d inside. ready_reserved schemas next (slice_index_or keys k d) (ready k (slice_index_or keys k d) (slice_get-get_or keys k d inside))

-- ---- what is counted

keyed_by : (schemas : List Schema) (t : ℕ) (paths : List Path) → AreKeyPaths schemas t paths → IsKeyed schemas t
keyed_by schemas t paths are = by_texts (key_texts schemas t) are
  where
    by_texts : (texts : Option (List (List ℕ))) → IsSomeAnd texts (λ ts. AllZip (λ text path. Resolves schemas t text path) ts paths) → IsSome texts
    by_texts None are' = absurd are'
    by_texts (Some texts) are' = refl

-- the rows that come in a type with an index
pub some_come : (schemas : List Schema) (before next : Table) (t : ℕ) (index : Indexed) (added : List ℕ) (start steps : ℕ) → TellsIndex schemas before t (Some index) → AreLacking next before t added → steps ≡ start + length added
    → CountsComing schemas before next t start steps
some_come schemas before next t index added start steps tells lacks counts = inl (keyed_by schemas t index.paths tells.0, (added, lacks, counts))

pub none_comes : (schemas : List Schema) (before next : Table) (t start : ℕ) → TellsIndex schemas before t None → CountsComing schemas before next t start start
none_comes schemas before next t start tells = inr (tells, refl)

-- an index that is built
pub built_tells : (schemas : List Schema) (table : Table) (t : ℕ) (paths : List Path) (index : Indexed) → AreKeyPaths schemas t paths → IsIndexBy schemas table t paths index → TellsIndex schemas table t (Some index)
built_tells schemas table t paths index are is =
    (subst (AreKeyPaths schemas t) (sym is.paths_are) are, subst (λ ps. IsIndexBy schemas table t ps index) (sym is.paths_are) is)

pub built_counts : (schemas : List Schema) (table : Table) (t : ℕ) (paths : List Path) (start steps : ℕ) → AreKeyPaths schemas t paths → CountsLive table t start steps → CountsKeyed schemas table t start steps
built_counts schemas table t paths start steps are counts = inl (keyed_by schemas t paths are, counts)

pub none_counts : (schemas : List Schema) (table : Table) (t start : ℕ) → TellsKeyPaths schemas t None → CountsKeyed schemas table t start start
none_counts schemas table t start tells = inr (tells, refl)

-- an item that is not changed yet is the old one
pub reserved_at : (keys items : List (Option Indexed)) (k : ℕ) (item : Option Indexed) → k < length keys → items ≡ map moved (take k keys) ++ drop k keys → item ≡ get_or items k item → All IsReserved keys → IsReserved item
reserved_at keys items k item inside is here all =
    let long : length (map moved (take k keys)) ≡ k = length-map (take k keys) moved ∙ omega (arith, length-take k keys) in
    let parts : items ≡ map moved (take k keys) ++ get_or keys k item ∷ drop (k + 1) keys = is ∙ ap (λ (rest : List (Option Indexed)). map moved (take k keys) ++ rest) (drop_more keys k item inside) in
    let read : item ≡ get_or keys k item = here ∙ ap (λ (xs : List (Option Indexed)). get_or xs k item) parts ∙ get_or_at (map moved (take k keys)) _ _ item k long in
    subst IsReserved (sym read) (all k item inside)
