-- Records are put one after another, types in model order.
use Rattle.std.proofs.Common.{◌≡◌, ◌∙◌, ◌+◌, ◌-◌, ◌<◌, ℕ, zero, suc, List, [], ◌∷◌, ◌++◌, Bool, drop, flat_map, length, get_or, take, sym, ap, subst, arith}
use Rattle.std.specs.Prelude.{if◌then◌else◌, nat_eq}
use Rattle.std.specs.List.{range_with_len}
use Rattle.std.proofs.lemmas.List.{append_assoc, append-nil, map-append, take-append-drop}
use Rattle.std.proofs.lemmas.List.Elements.{filter-append}
use Rattle.schema_model.specs.declared.schema.Schema.{Schema}
use Rattle.row_model.specs.PlainTree.{PlainTree}
use Rattle.row_model.specs.Table.{Table}
use Rattle.record_trees.specs.Tree.{plain}
use Rattle.record_trees.specs.declared.tree.Tree.{Tree}
use Rattle.write_engine.specs.Agreement.{TablesAgree}
use Rattle.write_engine.specs.Cycle.{Adds}
use Rattle.write_engine.proofs.Members.{apart_test, same_test}
use Rattle.hol_incremental.specs.Changes.{records}
use Rattle.hol_incremental.specs.Edited.{Records, of_first, of_type}
use Rattle.hol_incremental.specs.Tops.{AddsMore, AddsTops}
use Rattle.hol_incremental.proofs.AddedTops.{one_top_more, tops_once, tops_parted, tops_then}
use Rattle.hol_incremental.proofs.CountLists.{taken_push}

-- ---- those of a type

module _ (t : ℕ) (puts : List (ℕ × Tree)) (i : ℕ) (d : ℕ × Tree) (inside : i < length puts) where
  abbrev entry : ℕ × Tree
  entry = get_or puts i d

  abbrev of_taken : Records
  of_taken = of_type t (records (take i puts))

  taken : of_type t (records (take (i + 1) puts)) ≡ of_taken ++ of_type t ((entry.0, plain entry.1) ∷ [])
  taken =
      ap (λ (xs : List (ℕ × Tree)). of_type t (records xs)) (taken_push puts i d inside)
      ∙ ap (λ (xs : Records). of_type t xs) (map-append (λ (e : ℕ × Tree). (e.0, plain e.1)) (take i puts) (entry ∷ []))
      ∙ filter-append (λ (e : ℕ × PlainTree). nat_eq e.0 t) (records (take i puts)) ((entry.0, plain entry.1) ∷ [])

  pub typed_more : entry.0 ≡ t → of_type t (records (take (i + 1) puts)) ≡ of_taken ++ (t, plain entry.1) ∷ []
  typed_more is =
      taken ∙ ap (λ (xs : Records). of_taken ++ xs)
      (ap (λ (b : Bool). if b then (entry.0, plain entry.1) ∷ [] else []) (same_test entry.0 t is) ∙ ap (λ (n : ℕ). (n, plain entry.1) ∷ []) is)

  pub typed_same : (entry.0 ≡ t → ⊥) → of_type t (records (take (i + 1) puts)) ≡ of_taken
  typed_same other =
      taken ∙ ap (λ (xs : Records). of_taken ++ xs) (ap (λ (b : Bool). if b then (entry.0, plain entry.1) ∷ [] else []) (apart_test entry.0 t other)) ∙ append-nil of_taken

-- and those behind the first so many
pub typed_all : (t : ℕ) (puts : List (ℕ × Tree)) (n : ℕ) → of_type t (records puts) ≡ of_type t (records (take n puts)) ++ of_type t (records (drop n puts))
typed_all t puts n =
    ap (λ (xs : List (ℕ × Tree)). of_type t (records xs)) (sym (take-append-drop n puts))
    ∙ ap (λ (xs : Records). of_type t xs) (map-append (λ (e : ℕ × Tree). (e.0, plain e.1)) (take n puts) (drop n puts))
    ∙ filter-append (λ (e : ℕ × PlainTree). nat_eq e.0 t) (records (take n puts)) (records (drop n puts))

-- ---- types in model order

module _ (puts : Records) where
  from_more : (start n : ℕ) → flat_map (λ t. of_type t puts) (range_with_len start (suc n)) ≡ flat_map (λ t. of_type t puts) (range_with_len start n) ++ of_type (start + n) puts
  from_more start zero = append-nil (of_type start puts) ∙ ap (λ n. of_type n puts) (omega arith)
  from_more start (suc n) =
      ap (λ (xs : Records). of_type start puts ++ xs) (from_more (start + 1) n)
      ∙ sym (append_assoc (of_type start puts) (flat_map (λ t. of_type t puts) (range_with_len (start + 1) n)) (of_type (start + 1 + n) puts))
      ∙ ap (λ k. flat_map (λ t. of_type t puts) (range_with_len start (suc n)) ++ of_type k puts) (omega arith)

  pub first_more : (n : ℕ) → of_first (n + 1) puts ≡ of_first n puts ++ of_type n puts
  first_more n =
      let e : n + 1 ≡ suc n = omega arith in
      let z : 0 + n ≡ n = omega arith in
      ap (λ k. of_first k puts) e ∙ from_more 0 n ∙ ap (λ k. of_first n puts ++ of_type k puts) z

  behind : (t k : ℕ) → (rest : Records) × (of_first (t + 1 + k) puts ≡ (of_first t puts ++ of_type t puts) ++ rest)
  behind t zero =
      let e : t + 1 + 0 ≡ t + 1 = omega arith in
      ([], ap (λ n. of_first n puts) e ∙ first_more t ∙ sym (append-nil (of_first t puts ++ of_type t puts)))
  behind t (suc k) =
      let less = behind t k in
      let e : t + 1 + suc k ≡ t + 1 + k + 1 = omega arith in (
        less.0 ++ of_type (t + 1 + k) puts,
        ap (λ n. of_first n puts) e ∙ first_more (t + 1 + k) ∙ ap (λ (xs : Records). xs ++ of_type (t + 1 + k) puts) less.1
            ∙ append_assoc (of_first t puts ++ of_type t puts) less.0 (of_type (t + 1 + k) puts),
      )

  pub first_all : (t n : ℕ) → t < n → (rest : Records) × (of_first n puts ≡ (of_first t puts ++ of_type t puts) ++ rest)
  first_all t n early =
      let found = behind t (n - (t + 1)) in
      let e : n ≡ t + 1 + (n - (t + 1)) = omega (arith, early) in
      (found.0, ap (λ m. of_first m puts) e ∙ found.1)

-- ---- what is added

module _ (schemas : List Schema) (previous : Table) where
  pub more_one : (put : Records) (before middle after : Table) (gathered tops tops' : List (ℕ × ℕ)) (t : ℕ) (tree : PlainTree) (ordinal : ℕ) → AddsMore schemas previous put before gathered middle tops
      → Adds schemas previous t tree middle ordinal after → tops' ≡ tops ++ (t, ordinal) ∷ [] → AddsMore schemas previous (put ++ (t, tree) ∷ []) before gathered after tops'
  more_one put before middle after gathered tops tops' t tree ordinal more adds is = (
    more.0 ++ (t, ordinal) ∷ [],
    one_top_more schemas previous put before middle after more.0 t tree ordinal more.1 adds,
    is ∙ ap (λ (rows : List (ℕ × ℕ)). rows ++ (t, ordinal) ∷ []) more.2 ∙ append_assoc gathered more.0 ((t, ordinal) ∷ []),
  )

  pub more_then : (put others : Records) (before middle after : Table) (gathered tops tops' : List (ℕ × ℕ)) → AddsMore schemas previous put before gathered middle tops → AddsMore schemas previous others middle tops after tops'
      → AddsMore schemas previous (put ++ others) before gathered after tops'
  more_then put others before middle after gathered tops tops' one two = (
    one.0 ++ two.0,
    tops_then schemas previous put others before middle after one.0 two.0 one.1 two.1,
    two.2 ∙ ap (λ (rows : List (ℕ × ℕ)). rows ++ two.0) one.2 ∙ append_assoc gathered one.0 two.0,
  )

  -- where a part cannot be added behind the first ones, all cannot
  pub refused_part : (put part others : Records) (before middle : Table) (rows : List (ℕ × ℕ)) → TablesAgree previous before → AddsTops schemas previous put before rows middle
      → ((rows : List (ℕ × ℕ)) (after : Table) → AddsTops schemas previous part middle rows after → ⊥) → (rows : List (ℕ × ℕ)) (after : Table) → AddsTops schemas previous ((put ++ part) ++ others) before rows after → ⊥
  refused_part put part others before middle rows agree adds never all after added =
      let front = tops_parted schemas previous (put ++ part) others before after all added in
      let first = tops_parted schemas previous put part before front.2 front.0 front.4 in
      let same = (tops_once schemas previous put before middle first.2 rows first.0 agree adds first.4).1 in
      never first.1 front.2 (subst (λ (table : Table). AddsTops schemas previous part table first.1 front.2) (sym same) first.5)

  pub refused_one : (t : ℕ) (tree : PlainTree) (middle : Table) → ((ordinal : ℕ) (after : Table) → Adds schemas previous t tree middle ordinal after → ⊥) → (rows : List (ℕ × ℕ)) (after : Table)
      → AddsTops schemas previous ((t, tree) ∷ []) middle rows after → ⊥
  refused_one t tree middle never rows after added = never added.0 added.2 added.4
