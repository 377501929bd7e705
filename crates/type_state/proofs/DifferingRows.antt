-- Rows with differences: what is found under an ordinal.
use Rattle.std.proofs.Common.{◌≡◌, ℕ, ◌+◌, inl, inr, List, [], ◌∷◌, Option, None, Some, refl, ap, sym, ◌∙◌, arith}
use Rattle.std.specs.Prelude.{is_some}
use Rattle.std.specs.Option.{option_map_or}
use Rattle.std.specs.Ordering.{nat_cmp}
use Rattle.std.specs.FinMap.{find, get}
use Rattle.std.specs.Map.{keys_of}
use Rattle.std.proofs.lemmas.Bool.{cases_eq, false≢true}
use Rattle.row_model.specs.declared.row.Row.{Row}
use Rattle.row_model.specs.Table.{RowMap}
use Rattle.type_rows.specs.Differing.{Difference, differ_at}
use Rattle.type_rows.proofs.Rising.{RiseFrom, from_sorted}
use Rattle.type_rows.proofs.DifferingAt.{differs_here, differs_there}
use Rattle.type_state.specs.declared.differences.Differences.{Differences}
use Rattle.type_state.specs.Differences.{AreApart, differing, rows_with, added_of, removed_of}
use Rattle.type_state.proofs.Lookups.{found, none_below, skipped}

-- what stands under an ordinal: what a difference says, and else what stood there
abbrev pub either : Option (Option Row) → Option Row → Option Row
either difference row = option_map_or (λ r. r) difference row

pub get_differing : (low : ℕ) (rows : RowMap) (ds : List Difference) (q : ℕ) → RiseFrom low (keys_of ds) → get (differing rows ds) q ≡ either (find nat_cmp q ds) (get rows q)
unfolding differing
get_differing low rows [] q rise = refl
get_differing low rows (d ∷ ds) q rise =
    get_differing (d.0 + 1) (differ_at rows d) ds q rise.1
    ∙ elim (cases_eq q d.0) [
      | inl same ↦
          ap (λ f. either f (get (differ_at rows d) q)) (none_below q (d.0 + 1) ds (omega (arith, same)) rise.1)
          ∙ differs_here rows d q same ∙ sym (ap (λ f. either f (get rows q)) (found q d ds same))
      | inr other ↦
          ap (λ r. either (find nat_cmp q ds) r) (differs_there rows d q other)
          ∙ sym (ap (λ f. either f (get rows q)) (skipped q d ds other))
    ]

-- ---- both parts

pub get_with : (rows : RowMap) (ds : Differences) → AreApart ds → (q : ℕ) → get (rows_with rows ds) q ≡ either (find nat_cmp q (added_of ds)) (either (find nat_cmp q (removed_of ds)) (get rows q))
get_with rows ds a q =
    get_differing 0 (differing rows (removed_of ds)) (added_of ds) q (from_sorted (keys_of (added_of ds)) a.added)
    ∙ ap (either (find nat_cmp q (added_of ds))) (get_differing 0 rows (removed_of ds) q (from_sorted (keys_of (removed_of ds)) a.removed))

-- ---- what a look-up finds

pub with_added : (rows : RowMap) (ds : Differences) (q : ℕ) (r : Option Row) → AreApart ds → find nat_cmp q (added_of ds) ≡ Some r → get (rows_with rows ds) q ≡ r
with_added rows ds q r a is = get_with rows ds a q ∙ ap (λ f. either f (either (find nat_cmp q (removed_of ds)) (get rows q))) is

pub with_removed : (rows : RowMap) (ds : Differences) (q : ℕ) (r : Option Row) → AreApart ds → find nat_cmp q (added_of ds) ≡ None → find nat_cmp q (removed_of ds) ≡ Some r → get (rows_with rows ds) q ≡ r
with_removed rows ds q r a none is =
    get_with rows ds a q ∙ ap (λ f. either f (either (find nat_cmp q (removed_of ds)) (get rows q))) none ∙ ap (λ f. either f (get rows q)) is

pub with_neither : (rows : RowMap) (ds : Differences) (q : ℕ) → AreApart ds → find nat_cmp q (added_of ds) ≡ None → find nat_cmp q (removed_of ds) ≡ None → get (rows_with rows ds) q ≡ get rows q
with_neither rows ds q a none gone =
    get_with rows ds a q ∙ ap (λ f. either f (either (find nat_cmp q (removed_of ds)) (get rows q))) none ∙ ap (λ f. either f (get rows q)) gone

-- Nothing is added under an ordinal that is removed.
unadded : (ds : Differences) (q : ℕ) (r : Option Row) → AreApart ds → find nat_cmp q (removed_of ds) ≡ Some r → find nat_cmp q (added_of ds) ≡ None
unadded ds q r a at = elim (find nat_cmp q (added_of ds)) as (λ f. find nat_cmp q (added_of ds) ≡ f → f ≡ None) [
  | None ↦ λ none. refl
  | Some s ↦ λ there. absurd (false≢true (ap is_some (sym (a.apart q (ap is_some there)) ∙ at)))
] refl

pub with_gone : (rows : RowMap) (ds : Differences) (q : ℕ) (r : Option Row) → AreApart ds → find nat_cmp q (removed_of ds) ≡ Some r → get (rows_with rows ds) q ≡ r
with_gone rows ds q r a at = with_removed rows ds q r a (unadded ds q r a at) at
