-- A cycle keeps the previous state and the rows so far in agreement.
use Rattle.std.proofs.Common.{◌≡◌, ℕ, zero, suc, List, [], ◌∷◌, ◌++◌, length, Some, refl, sym, ap, subst, ◌∙◌, inl, inr, arith}
use Rattle.std.specs.Prelude.{slice_set, IsSome, is_some}
use Rattle.std.specs.FinMap.{get, insert, empty, get-empty}
use Rattle.std.specs.Ordering.{nat_cmp}
use Rattle.std.proofs.lemmas.Bool.{cases_eq}
use Rattle.row_model.specs.declared.row.Row.{Row}
use Rattle.row_model.specs.declared.row.Value.{Value}
use Rattle.schema_model.specs.declared.schema.Field.{Field}
use Rattle.schema_model.specs.declared.schema.Schema.{Schema}
use Rattle.row_model.specs.PlainTree.{PlainTree, PlainTrees, PlainPairs, leaf, object, list, set, map, no_trees, tree_then, no_pairs, pair_then}
use Rattle.row_model.specs.Table.{Table, RowMap}
use Rattle.ordinal_map.specs.Assign.{Agree, Holds, IsTaken}
use Rattle.ordinal_map.proofs.Puts.{agree_put}
use Rattle.write_engine.specs.Agreement.{HoldsOnce, TablesAgree}
use Rattle.write_engine.specs.Cycle.{Adds, AddsFields, AddsAll, AddsPairs, AddsRecords, Next, PutsRow, no_rows, rows_in}
use Rattle.record_trees.specs.FitsTree.{IsLeafOr}

-- ---- the rows of a type after a row is put

outside : (table : Table) (t u : ℕ) (rows : RowMap) → (u ≡ t → ⊥) → rows_in (slice_set table t rows) u ≡ rows_in table u
outside [] t u rows apart = refl
outside (r ∷ table) zero zero rows apart = absurd (apart refl)
outside (r ∷ table) zero (suc u) rows apart = refl
outside (r ∷ table) (suc t) zero rows apart = refl
outside (r ∷ table) (suc t) (suc u) rows apart = outside table t u rows (λ e. apart (omega arith))

-- where there is no such type nothing changes
data Placed (table : Table) (t : ℕ) (rows : RowMap) : Type 0 where
  here : rows_in (slice_set table t rows) t ≡ rows → Placed table t rows
  nowhere : slice_set table t rows ≡ table → Placed table t rows

placed : (table : Table) (t : ℕ) (rows : RowMap) → Placed table t rows
placed [] t rows = nowhere refl
placed (r ∷ table) zero rows = here refl
placed (r ∷ table) (suc t) rows = elim (placed table t rows) [
  | here e ↦ here e
  | nowhere e ↦ nowhere (ap (λ (rest : Table). r ∷ rest) e)
]

pub agree_set : (previous before : Table) (t : ℕ) (rows : RowMap) → TablesAgree previous before → Agree (rows_in previous t) rows → TablesAgree previous (slice_set before t rows)
agree_set previous before t rows agree there u =
    elim (placed before t rows) [
      | nowhere e ↦ subst (λ (table : Table). Agree (rows_in previous u) (rows_in table u)) (sym e) (agree u)
      | here e ↦
          elim (cases_eq u t) [
            | inl same ↦ subst (λ n. Agree (rows_in previous n) (rows_in (slice_set before t rows) n)) (sym same) (subst (λ r. Agree (rows_in previous t) r) (sym e) there)
            | inr apart ↦ subst (λ r. Agree (rows_in previous u) r) (sym (outside before t u rows apart)) (agree u)
          ]
    ]

pub puts_agree : (previous before after : Table) (t ordinal : ℕ) (row : Row) → PutsRow previous t row before ordinal after → TablesAgree previous before → TablesAgree previous after
puts_agree previous before after t ordinal row puts agree =
    subst (λ (table : Table). TablesAgree previous table) (sym puts.after_is)
    (agree_set previous before t (insert (rows_in before t) ordinal row) agree (agree_put (rows_in previous t) (rows_in before t) row ordinal (agree t) puts.put puts.low))

-- ---- trees, children first

pub leaf_or : (tree : PlainTree) (P : Value → Type 0) (Q R : Type 0) → ((value : Value) → P value → R) → (Q → R) → IsLeafOr tree P Q → R
leaf_or (leaf value) P Q R f g h = f value h
leaf_or (object trees) P Q R f g h = g h
leaf_or (list trees) P Q R f g h = g h
leaf_or (set trees) P Q R f g h = g h
leaf_or (map pairs) P Q R f g h = g h

module _ (schemas : List Schema) (previous : Table) where
  mutual
    pub adds_agree : (tree : PlainTree) (t : ℕ) (before after : Table) (ordinal : ℕ) → Adds schemas previous t tree before ordinal after → TablesAgree previous before → TablesAgree previous after
    adds_agree (leaf value) t before after ordinal adds agree = absurd adds
    adds_agree (object trees) t before after ordinal adds agree =
        puts_agree previous adds.2 after t ordinal (Row.Object adds.1) adds.5 (fields_agree trees adds.0 before adds.2 adds.1 adds.4 agree)
    adds_agree (list trees) t before after ordinal adds agree =
        puts_agree previous adds.2 after t ordinal (Row.List adds.1) adds.5 (all_agree trees adds.0 before adds.2 adds.1 adds.4 agree)
    adds_agree (set trees) t before after ordinal adds agree =
        puts_agree previous adds.2 after t ordinal (Row.Set adds.5.0) adds.5.2 (all_agree trees adds.0 before adds.2 adds.1 adds.4 agree)
    adds_agree (map pairs) t before after ordinal adds agree =
        puts_agree previous adds.2 after t ordinal (Row.Map adds.5.0) adds.5.2 (pairs_agree pairs adds.0 before adds.2 adds.1 adds.4 agree)

    pub fields_agree : (trees : PlainTrees) (fields : List Field) (before after : Table) (values : List Value) → AddsFields schemas previous fields trees before values after → TablesAgree previous before → TablesAgree previous after
    fields_agree no_trees fields before after values adds agree = subst (λ (table : Table). TablesAgree previous table) (sym adds.2) agree
    fields_agree (tree_then tree trees) fields before after values adds agree =
        fields_agree trees adds.1 adds.4 after adds.3 adds.8
        (leaf_or tree _ _ (TablesAgree previous adds.4) (λ found is. subst (λ (table : Table). TablesAgree previous table) (sym is.3) agree) (λ row. adds_agree tree row.0 before adds.4 row.1 row.3 agree) adds.7)

    pub all_agree : (trees : PlainTrees) (t : ℕ) (before after : Table) (ordinals : List ℕ) → AddsAll schemas previous t trees before ordinals after → TablesAgree previous before → TablesAgree previous after
    all_agree no_trees t before after ordinals adds agree = subst (λ (table : Table). TablesAgree previous table) (sym adds.1) agree
    all_agree (tree_then tree trees) t before after ordinals adds agree = all_agree trees t adds.2 after adds.1 adds.5 (adds_agree tree t before adds.2 adds.0 adds.4 agree)

    pub pairs_agree : (pairs : PlainPairs) (types : ℕ × ℕ) (before after : Table) (added : List (ℕ × ℕ)) → AddsPairs schemas previous types pairs before added after → TablesAgree previous before → TablesAgree previous after
    pairs_agree no_pairs types before after added adds agree = subst (λ (table : Table). TablesAgree previous table) (sym adds.1) agree
    pairs_agree (pair_then key value pairs) types before after added adds agree =
        pairs_agree pairs types adds.4 after adds.2 adds.8 (adds_agree value types.1 adds.3 adds.4 adds.1 adds.7 (adds_agree key types.0 before adds.3 adds.0 adds.6 agree))

  pub records_agree : (records : List (ℕ × PlainTree)) (before after : Table) → AddsRecords schemas previous records before after → TablesAgree previous before → TablesAgree previous after
  records_agree [] before after adds agree = subst (λ (table : Table). TablesAgree previous table) (sym adds) agree
  records_agree (entry ∷ records) before after adds agree = records_agree records adds.1 after adds.3 (adds_agree entry.1 entry.0 before adds.1 adds.0 adds.2 agree)

  pub record_more : (records : List (ℕ × PlainTree)) (before middle after : Table) (t : ℕ) (tree : PlainTree) (ordinal : ℕ) → AddsRecords schemas previous records before middle → Adds schemas previous t tree middle ordinal after → AddsRecords schemas previous (records ++ (t, tree) ∷ []) before after
  record_more [] before middle after t tree ordinal adds more = (ordinal, after, subst (λ (table : Table). Adds schemas previous t tree table ordinal after) adds more, refl)
  record_more (entry ∷ records) before middle after t tree ordinal adds more = (adds.0, adds.1, adds.2, record_more records adds.1 middle after t tree ordinal adds.3 more)

-- ---- the start of a cycle

pub none_there : (count t : ℕ) → rows_in (no_rows count) t ≡ empty
none_there zero t = refl
none_there (suc count) zero = refl
none_there (suc count) (suc t) = none_there count t

pub start_agree : (previous : Table) (count : ℕ) → HoldsOnce previous → TablesAgree previous (no_rows count)
start_agree previous count once t = subst (λ r. Agree (rows_in previous t) r) (sym (none_there count t)) record {
  one_ordinal = λ row a b before before'. once.once t a b row (held row a before) (held row b before');
  one_row = λ ordinal a b before before'. (let e : Some a ≡ Some b = sym (held a ordinal before) ∙ held b ordinal before' in cc);
  low = λ ordinal taken. once.low t ordinal (live ordinal taken);
}
  where
    held : (row : Row) (o : ℕ) → Holds (rows_in previous t) empty row o → get (rows_in previous t) o ≡ Some row
    held row o (inl before) = before
    held row o (inr now) = let e = sym now ∙ get-empty nat_cmp o in absurd cc

    live : (o : ℕ) → IsTaken (rows_in previous t) empty o → IsSome (get (rows_in previous t) o)
    live o (inl before) = before
    live o (inr now) = let e = sym now ∙ ap is_some (get-empty nat_cmp o) in absurd cc

pub next_agree : (schemas : List Schema) (previous next : Table) (records : List (ℕ × PlainTree)) → HoldsOnce previous → Next schemas previous records next → TablesAgree previous next
next_agree schemas previous next records once made = records_agree schemas previous records (no_rows (length schemas)) next made (start_agree previous (length schemas) once)

pub next_once : (schemas : List Schema) (previous next : Table) (records : List (ℕ × PlainTree)) → HoldsOnce previous → Next schemas previous records next → HoldsOnce next
next_once schemas previous next records once made =
    let agree = next_agree schemas previous next records once made in
    record {
      once = λ t a b row here there. (agree t).one_ordinal row a b (inr here) (inr there);
      low = λ t ordinal live. (agree t).low ordinal (inr live);
    }
