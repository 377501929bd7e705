-- Rows come to leave by the keys that are removed, and by the records that are put.
use Rattle.std.proofs.Common.{◌≡◌, ◌+◌, ◌<◌, ◌≤◌, ◌⊎◌, ℕ, List, [], Option, length, get_or, take, refl, sym, ap, subst, inl, inr}
use Rattle.std.specs.Prelude.{AllPairs, Contains}
use Rattle.row_model.specs.declared.row.Value.{Value}
use Rattle.row_model.specs.PlainTree.{PlainTree}
use Rattle.record_trees.specs.Tree.{plain}
use Rattle.record_trees.specs.declared.tree.Tree.{Tree}
use Rattle.key_index.specs.Indexed.{Indexed}
use Rattle.write_engine.proofs.Gathering.{take_whole}
use Rattle.hol_incremental.specs.Changes.{records}
use Rattle.hol_incremental.specs.Edited.{Keys}
use Rattle.hol_incremental.specs.Leaves.{AreLeaving, HasGiven, IsOfRecord, IsUnder, LeaveMore}
use Rattle.hol_incremental.proofs.Among.{in_image, none_in, of_image}
use Rattle.hol_incremental.proofs.LeaveSteps.{leave_entry, leave_same, leave_then}
use Rattle.hol_incremental.proofs.OnceLists.{none_once}

module _ (keys : List (Option Indexed)) where
  -- ---- removed keys

  abbrev ByKey : ℕ × List Value → ℕ × ℕ → Type 0
  ByKey entry row = (row.0 ≡ entry.0) × IsUnder keys entry.0 entry.1 row.1

  abbrev OfKeys : Keys → ℕ × ℕ → Type 0
  OfKeys removes row = (key : List Value) × Contains removes (row.0, key) × IsUnder keys row.0 key row.1

  of_keys : (removes : Keys) (row : ℕ × ℕ) → (entry : ℕ × List Value) × Contains removes entry × ByKey entry row → OfKeys removes row
  of_keys removes row (entry, among, (same, under)) =
      (entry.1, subst (λ (n : ℕ). Contains removes (n, entry.1)) (sym same) among, subst (λ (n : ℕ). IsUnder keys n entry.1 row.1) (sym same) under)

  by_keys : (removes : Keys) (row : ℕ × ℕ) → OfKeys removes row → (entry : ℕ × List Value) × Contains removes entry × ByKey entry row
  by_keys removes row (key, among, under) = ((row.0, key), among, (refl, under))

  pub leave_key : (removes : Keys) (tops : List (ℕ × ℕ)) (i : ℕ) (item : ℕ × List Value) (before middle after : List (ℕ × ℕ)) → i < length removes → item ≡ get_or removes i item → LeaveMore (OfKeys (take i removes)) tops before middle
      → LeaveMore (λ row. (row.0 ≡ item.0) × IsUnder keys item.0 item.1 row.1) tops middle after → LeaveMore (OfKeys (take (i + 1) removes)) tops before after
  leave_key removes tops i item before middle after inside is one two =
      leave_same tops (λ row. (x : ℕ × List Value) × Contains (take (i + 1) removes) x × ByKey x row) (OfKeys (take (i + 1) removes)) before after (of_keys (take (i + 1) removes)) (by_keys (take (i + 1) removes))
      (leave_entry tops ByKey removes i item before middle after inside
      (leave_same tops (OfKeys (take i removes)) (λ row. (x : ℕ × List Value) × Contains (take i removes) x × ByKey x row) before middle (by_keys (take i removes)) (of_keys (take i removes)) one)
      (subst (λ (entry : ℕ × List Value). LeaveMore (ByKey entry) tops middle after) is two))

  pub taken_keys : (removes : Keys) (tops : List (ℕ × ℕ)) (i : ℕ) (before after : List (ℕ × ℕ)) → length removes ≤ i → LeaveMore (OfKeys (take i removes)) tops before after → LeaveMore (OfKeys removes) tops before after
  taken_keys removes tops i before after long more = subst (λ (xs : Keys). LeaveMore (OfKeys xs) tops before after) (take_whole removes i long) more

  -- ---- records that are put

  abbrev ByTree : ℕ × Tree → ℕ × ℕ → Type 0
  ByTree entry row = (row.0 ≡ entry.0) × IsOfRecord keys entry.0 (plain entry.1) row.1

  abbrev OfTrees : List (ℕ × Tree) → ℕ × ℕ → Type 0
  OfTrees puts row = (tree : PlainTree) × Contains (records puts) (row.0, tree) × IsOfRecord keys row.0 tree row.1

  of_trees : (puts : List (ℕ × Tree)) (row : ℕ × ℕ) → (entry : ℕ × Tree) × Contains puts entry × ByTree entry row → OfTrees puts row
  of_trees puts row (entry, among, (same, of)) = (
    plain entry.1,
    subst (λ (n : ℕ). Contains (records puts) (n, plain entry.1)) (sym same) (in_image (λ (e : ℕ × Tree). (e.0, plain e.1)) puts entry among),
    subst (λ (n : ℕ). IsOfRecord keys n (plain entry.1) row.1) (sym same) of,
  )

  by_trees : (puts : List (ℕ × Tree)) (row : ℕ × ℕ) → OfTrees puts row → (entry : ℕ × Tree) × Contains puts entry × ByTree entry row
  by_trees puts row (tree, among, of) =
      let found = of_image (λ (e : ℕ × Tree). (e.0, plain e.1)) puts (row.0, tree) among in
      let type : found.0.0 ≡ row.0 = ap (λ (e : ℕ × PlainTree). e.0) found.2 in
      let same : plain found.0.1 ≡ tree = ap (λ (e : ℕ × PlainTree). e.1) found.2 in
      (found.0, found.1, (sym type, subst (λ (n : ℕ). IsOfRecord keys n (plain found.0.1) row.1) (sym type) (subst (λ (x : PlainTree). IsOfRecord keys row.0 x row.1) (sym same) of)))

  pub leave_tree : (puts : List (ℕ × Tree)) (tops : List (ℕ × ℕ)) (i : ℕ) (item : ℕ × Tree) (before middle after : List (ℕ × ℕ)) → i < length puts → item ≡ get_or puts i item → LeaveMore (OfTrees (take i puts)) tops before middle
      → LeaveMore (λ row. (row.0 ≡ item.0) × IsOfRecord keys item.0 (plain item.1) row.1) tops middle after → LeaveMore (OfTrees (take (i + 1) puts)) tops before after
  leave_tree puts tops i item before middle after inside is one two =
      leave_same tops (λ row. (x : ℕ × Tree) × Contains (take (i + 1) puts) x × ByTree x row) (OfTrees (take (i + 1) puts)) before after (of_trees (take (i + 1) puts)) (by_trees (take (i + 1) puts))
      (leave_entry tops ByTree puts i item before middle after inside
      (leave_same tops (OfTrees (take i puts)) (λ row. (x : ℕ × Tree) × Contains (take i puts) x × ByTree x row) before middle (by_trees (take i puts)) (of_trees (take i puts)) one)
      (subst (λ (entry : ℕ × Tree). LeaveMore (ByTree entry) tops middle after) is two))

  pub taken_trees : (puts : List (ℕ × Tree)) (tops : List (ℕ × ℕ)) (i : ℕ) (before after : List (ℕ × ℕ)) → length puts ≤ i → LeaveMore (OfTrees (take i puts)) tops before after → LeaveMore (OfTrees puts) tops before after
  taken_trees puts tops i before after long more = subst (λ (xs : List (ℕ × Tree)). LeaveMore (OfTrees xs) tops before after) (take_whole puts i long) more

  -- ---- both

  pub all_leaving : (puts : List (ℕ × Tree)) (removes : Keys) (tops before middle after : List (ℕ × ℕ)) → before ≡ [] → LeaveMore (OfTrees puts) tops before middle → LeaveMore (OfKeys removes) tops middle after
      → AreLeaving keys (records puts) removes tops after
  all_leaving puts removes tops before middle after none one two = record {
    once = both.once (subst (λ (rows : List (ℕ × ℕ)). AllPairs (λ a b. a ≡ b → ⊥) rows) (sym none) none_once);
    are = λ row. ((λ among. forth row ((both.are row).0 among)), (λ given. (both.are row).1 (inr (back row given.0, given.1))));
  }
    where
      both : LeaveMore (λ row. OfTrees puts row ⊎ OfKeys removes row) tops before after
      both = leave_then tops (OfTrees puts) (OfKeys removes) before middle after one two

      turn : (row : ℕ × ℕ) → OfTrees puts row ⊎ OfKeys removes row → HasGiven keys (records puts) removes row
      turn row (inl put) = inr put
      turn row (inr removed) = inl removed

      back : (row : ℕ × ℕ) → HasGiven keys (records puts) removes row → OfTrees puts row ⊎ OfKeys removes row
      back row (inl removed) = inr removed
      back row (inr put) = inl put

      forth : (row : ℕ × ℕ) → Contains before row ⊎ ((OfTrees puts row ⊎ OfKeys removes row) × (Contains tops row → ⊥)) → HasGiven keys (records puts) removes row × (Contains tops row → ⊥)
      forth row (inl here) = absurd (none_in row (subst (λ (rows : List (ℕ × ℕ)). Contains rows row) none here))
      forth row (inr given) = (turn row given.0, given.1)
