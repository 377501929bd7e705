-- What a measure of rows adds up to over all of them, where rows come and go.
use Rattle.std.proofs.Common.{◌≡◌, ℕ, suc, ◌+◌, ◌-◌, ◌<◌, ◌≤◌, inl, inr, List, [], ◌∷◌, ◌++◌, length, get_or, take, Option, None, Some, refl, ap, sym, ◌∙◌, add-zero, arith}
use Rattle.std.specs.Prelude.{sum_by}
use Rattle.std.specs.Option.{option_map_or}
use Rattle.std.specs.declared.cmp.Ordering.TheVariants.{Less, Equal, Greater}
use Rattle.std.specs.Ordering.{nat_cmp}
use Rattle.std.specs.Cmp.{nat_cmp_total}
use Rattle.std.specs.FinMap.{entries, entries-insert, find, get, get-entries, insert, nat_cmp-IsAntisymmetric, remove, values}
use Rattle.std.specs.FinMap.Entries.{by_order, put}
use Rattle.std.specs.Map.{values_of}
use Rattle.std.proofs.lemmas.Bool.{cases_eq}
use Rattle.std.proofs.lemmas.List.{take_more}
use Rattle.std.proofs.lemmas.List.Sums.{sum_by-cons}
use Rattle.row_model.specs.declared.row.Row.{Row}
use Rattle.row_model.specs.Table.{RowMap}
use Rattle.type_rows.specs.declared.totals.Totals.{Totals}
use Rattle.type_rows.specs.Differing.{Difference, differ_at}
use Rattle.type_rows.specs.Layout.{items_of_row}
use Rattle.type_rows.specs.WordsHeld.{part_bytes, row_bytes}
use Rattle.type_rows.specs.Totals.{AreLess, AreMore, AreTotals}
use Rattle.type_rows.proofs.DifferingAt.{differs_here, differs_there, same_rows}
use Rattle.type_state.specs.Differences.{differing}
use Rattle.type_state.proofs.Lookups.{found, skipped}

abbrev pub Entry : Type 0
Entry = ℕ × Row

-- A row that is put in under a new ordinal adds its measure.
sum_put : (measure : Row → ℕ) (o : ℕ) (row : Row) (es : List Entry) → find nat_cmp o es ≡ None → sum_by measure (values_of (put nat_cmp o row es)) ≡ sum_by measure (values_of es) + measure row
sum_put measure o row [] none = refl
sum_put measure o row (e ∷ es) none = elim (cases_eq o e.0) [
  | inl same ↦ absurd (let some : None ≡ Some e.1 = sym none ∙ found o e es same in cc)
  | inr other ↦
      let rest = sum_put measure o row es (sym (skipped o e es other) ∙ none) in
      elim (nat_cmp o e.0) as (λ r. nat_cmp o e.0 ≡ r → sum_by measure (values_of (by_order r ((o, row) ∷ e ∷ es) ((e.0, row) ∷ es) (e ∷ put nat_cmp o row es))) ≡ sum_by measure (e.1 ∷ values_of es) + measure row) [
        | Less ↦ λ is. (let first = sum_by-cons measure row (e.1 ∷ values_of es) in omega (arith, first))
        | Equal ↦ λ is. absurd (other (nat_cmp-IsAntisymmetric o e.0 is))
        | Greater ↦ λ is. (let first = sum_by-cons measure e.1 (values_of (put nat_cmp o row es)) in let before = sum_by-cons measure e.1 (values_of es) in omega (arith, first, before, rest))
      ] refl
]

sum_inserted : (measure : Row → ℕ) (rows : RowMap) (o : ℕ) (row : Row) → get rows o ≡ None → sum_by measure (values (insert rows o row)) ≡ sum_by measure (values rows) + measure row
sum_inserted measure rows o row none = ap (λ (es : List Entry). sum_by measure (values_of es)) (entries-insert nat_cmp_total rows o row) ∙ sum_put measure o row (entries rows) (sym (get-entries rows o) ∙ none)

gone : (rows : RowMap) (o : ℕ) → get (remove rows o) o ≡ None
gone rows o = differs_here rows (o, None) o refl

-- Without what stands under an ordinal there is so much less.
sum_without : (measure : Row → ℕ) (rows : RowMap) (o : ℕ) → sum_by measure (values (remove rows o)) + option_map_or measure (get rows o) 0 ≡ sum_by measure (values rows)
sum_without measure rows o = elim (get rows o) as (λ (g : Option Row). get rows o ≡ g → sum_by measure (values (remove rows o)) + option_map_or measure g 0 ≡ sum_by measure (values rows)) [
  | None ↦ λ none.
      (let same : remove rows o ≡ rows = same_rows (remove rows o) rows (λ q. elim (cases_eq q o) [
        | inl at ↦ differs_here rows (o, None) q at ∙ sym (ap (get rows) at ∙ none)
        | inr other ↦ differs_there rows (o, None) q other
      ]) in
      ap (λ (m : RowMap). sum_by measure (values m) + 0) same ∙ add-zero (sum_by measure (values rows)))
  | Some row ↦ λ some.
      (let same : insert (remove rows o) o row ≡ rows = same_rows (insert (remove rows o) o row) rows (λ q. elim (cases_eq q o) [
        | inl at ↦ differs_here (remove rows o) (o, Some row) q at ∙ sym (ap (get rows) at ∙ some)
        | inr other ↦ differs_there (remove rows o) (o, Some row) q other ∙ differs_there rows (o, None) q other
      ]) in
      sym (sum_inserted measure (remove rows o) o row (gone rows o)) ∙ ap (λ (m : RowMap). sum_by measure (values m)) same)
] refl

-- What stands under an ordinal is no more than all.
pub no_more : (measure : Row → ℕ) (rows : RowMap) (o : ℕ) → option_map_or measure (get rows o) 0 ≤ sum_by measure (values rows)
no_more measure rows o = let whole = sum_without measure rows o in omega (arith, whole)

-- A difference puts what comes in place of what stood.
sum_with : (measure : Row → ℕ) (rows : RowMap) (d : Difference) → sum_by measure (values (differ_at rows d)) ≡ sum_by measure (values (remove rows d.0)) + option_map_or measure d.1 0
sum_with measure rows (o, None) = sym (add-zero (sum_by measure (values (remove rows o))))
sum_with measure rows (o, Some row) =
    let same : insert rows o row ≡ insert (remove rows o) o row = same_rows (insert rows o row) (insert (remove rows o) o row) (λ q. elim (cases_eq q o) [
      | inl at ↦ differs_here rows (o, Some row) q at ∙ sym (differs_here (remove rows o) (o, Some row) q at)
      | inr other ↦ differs_there rows (o, Some row) q other ∙ sym (differs_there (remove rows o) (o, Some row) q other ∙ differs_there rows (o, None) q other)
    ]) in
    ap (λ (m : RowMap). sum_by measure (values m)) same ∙ sum_inserted measure (remove rows o) o row (gone rows o)

sum_differs : (measure : Row → ℕ) (rows : RowMap) (d : Difference) (stood : Option Row) (before middle after : ℕ) → stood ≡ get rows d.0 → before ≡ sum_by measure (values rows) → middle ≡ before - option_map_or measure stood 0 → after ≡ middle + option_map_or measure d.1 0
    → after ≡ sum_by measure (values (differ_at rows d))
sum_differs measure rows d stood before middle after is was less more =
    let whole = sum_without measure rows d.0 in
    let new = sum_with measure rows d in
    let same = ap (λ (g : Option Row). option_map_or measure g 0) is in
    omega (arith, whole, new, same, was, less, more)

-- The totals after a difference.
pub totals_differ : (rows : RowMap) (d : Difference) (stood : Option Row) (before middle after : Totals) → stood ≡ get rows d.0 → AreTotals (values rows) before → AreLess before stood middle → AreMore middle d.1 after → AreTotals (values (differ_at rows d)) after
totals_differ rows d stood before middle after is was less more = record {
  ends = λ f. sum_differs (part_bytes f) rows d stood _ _ _ is (was.ends f) (less.ends f) (more.ends f);
  items = sum_differs items_of_row rows d stood _ _ _ is was.items less.items more.items;
  bytes = sum_differs row_bytes rows d stood _ _ _ is was.bytes less.bytes more.bytes;
}

-- ---- the first of some differences

differing_last : (rows : RowMap) (ds : List Difference) (d : Difference) → differing rows (ds ++ d ∷ []) ≡ differ_at (differing rows ds) d
unfolding differing
differing_last rows [] d = refl
differing_last rows (e ∷ ds) d = differing_last (differ_at rows e) ds d

pub differing_more : (rows : RowMap) (ds : List Difference) (index : ℕ) (e : Difference) → index < length ds → differing rows (take (index + 1) ds) ≡ differ_at (differing rows (take index ds)) (get_or ds index e)
differing_more rows ds index e inside = ap (differing rows) (take_more ds index e inside) ∙ differing_last rows (take index ds) (get_or ds index e)

-- Under another ordinal stands what stood.
pub get_apart : (rows : RowMap) (ds : List Difference) (q : ℕ) → ((k : ℕ) (d : Difference) → k < length ds → (get_or ds k d).0 ≡ q → ⊥) → get (differing rows ds) q ≡ get rows q
unfolding differing
get_apart rows [] q other = refl
get_apart rows (e ∷ ds) q other = get_apart (differ_at rows e) ds q (λ k d inside. other (suc k) d (omega arith)) ∙ differs_there rows e q (λ same. other 0 e (omega arith) (sym same))
