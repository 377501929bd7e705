-- Bounds of rows: the least one, and above which ordinals no row stands where rows differ from others.
use Rattle.std.proofs.Common.{◌≡◌, ℕ, ◌<◌, ◌≤◌, inl, inr, None, Some, refl, ap, ◌∙◌, subst, arith}
use Rattle.std.specs.Prelude.{IsSome, is_some}
use Rattle.std.specs.Ordering.{nat_cmp}
use Rattle.std.specs.FinMap.{entries, find, get, keys}
use Rattle.ordinal_set.specs.Ordinals.{bound_of}
use Rattle.row_model.specs.Table.{RowMap}
use Rattle.type_rows.proofs.Entries.{below_bound, found_live, greatest, least_bound}
use Rattle.column_rows.specs.OneType.{IsRowsBound}
use Rattle.type_state.specs.declared.differences.Differences.{Differences}
use Rattle.type_state.specs.Differences.{AreApart, AreBelow, rows_with, added_of, removed_of}
use Rattle.type_state.proofs.DifferingRows.{with_neither}
use Rattle.type_state.proofs.Lookups.{found_below}

-- The bound of the live ordinals is that of the rows.
pub rows_bound : (rows : RowMap) (bound : ℕ) → bound ≡ bound_of (keys rows) → IsRowsBound rows bound
rows_bound rows bound is = record {
  above = λ o live. (let low = below_bound rows o live in omega (arith, low, is));
  least = elim (greatest (entries rows)) [
    | inl none ↦ inl (is ∙ none)
    | inr one ↦ inr (one.0, is ∙ one.1, found_live rows one.0 one.2)
  ];
}

pub bound_of_rows : (rows : RowMap) (bound : ℕ) → IsRowsBound rows bound → bound ≡ bound_of (keys rows)
bound_of_rows rows bound is = least_bound rows bound is.above is.least

-- Above both parts of the differences, and above the old rows, none stands.
pub none_above : (rows : RowMap) (ds : Differences) (bound above : ℕ) → AreApart ds → bound ≡ bound_of (keys rows) → bound ≤ above → AreBelow above (added_of ds) → AreBelow bound (removed_of ds) → (o : ℕ) → IsSome (get (rows_with rows ds) o) → o < above
none_above rows ds bound above a is le added removed o live =
    elim (find nat_cmp o (added_of ds)) as (λ f. find nat_cmp o (added_of ds) ≡ f → o < above) [
      | Some r ↦ λ at. found_below o above (added_of ds) added (ap is_some at)
      | None ↦ λ none. elim (find nat_cmp o (removed_of ds)) as (λ f. find nat_cmp o (removed_of ds) ≡ f → o < above) [
        | Some r ↦ λ at. (let low = found_below o bound (removed_of ds) removed (ap is_some at) in omega (arith, low, le))
        | None ↦ λ gone. (let low = below_bound rows o (subst IsSome (with_neither rows ds o a none gone) live) in omega (arith, low, is, le))
      ] refl
    ] refl
