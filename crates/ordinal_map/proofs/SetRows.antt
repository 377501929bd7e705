-- The rows that a set of ordinals makes a state of: what stands under an ordinal, and what a change of the set or of the rows leaves.
use Rattle.std.proofs.Common.{◌≡◌, ℕ, List, [], ◌∷◌, Option, Some, None, refl, sym, ap, subst, ◌∙◌, inl, inr, arith, ◌⊎◌}
use Rattle.std.specs.Prelude.{Contains, IsSome, is_some}
use Rattle.std.specs.Ordering.{nat_cmp}
use Rattle.std.specs.Cmp.{nat_cmp_total}
use Rattle.std.specs.FinMap.{get, find, insert, remove, empty, get-insert, get-remove, get-empty, get-from_entries, same_map, nat_cmp-IsAntisymmetric}
use Rattle.std.proofs.lemmas.Bool.{cases_eq}
use Rattle.row_model.specs.declared.row.Row.{Row}
use Rattle.row_model.specs.Table.{RowMap}
use Rattle.row_model.proofs.RowEntries.{skips, finds}
use Rattle.ordinal_set.specs.Ordinals.{bound_of, with_ordinal, without_ordinal}
use Rattle.ordinal_set.proofs.Beside.{is_member}
use Rattle.ordinal_set.proofs.Lacking.{member_without, without_member}
use Rattle.ordinal_set.proofs.Members.{Contains-with_ordinal_cases, Contains-with_ordinal_itself, Contains-with_ordinal_kept, bound_of-above, bound_of-member, first_or_other, here, no_member, there}
use Rattle.ordinal_map.specs.Assign.{IsPast}
use Rattle.ordinal_map.specs.KeptRows.{entries_of, row_under, rows_of, with_entry}

-- ---- maps of rows

pub same_rows : (m n : RowMap) → ((q : ℕ) → get m q ≡ get n q) → m ≡ n
same_rows m n same = same_map nat_cmp_total nat_cmp-IsAntisymmetric m n same

pub get_inserted : (m : RowMap) (o : ℕ) (row : Row) → get (insert m o row) o ≡ Some row
get_inserted m o row = get-insert nat_cmp_total m o row o ∙ grind arith

pub get_beside : (m : RowMap) (o q : ℕ) (row : Row) → (q ≡ o → ⊥) → get (insert m o row) q ≡ get m q
get_beside m o q row apart = get-insert nat_cmp_total m o row q ∙ grind arith

pub get_removed : (m : RowMap) (o : ℕ) → get (remove m o) o ≡ None
get_removed m o = get-remove nat_cmp_total m o o ∙ grind arith

pub get_left : (m : RowMap) (o q : ℕ) → (q ≡ o → ⊥) → get (remove m o) q ≡ get m q
get_left m o q apart = get-remove nat_cmp_total m o q ∙ grind arith

pub none_of : (row : Option Row) → ((r : Row) → row ≡ Some r → ⊥) → row ≡ None
none_of None h = refl
none_of (Some r) h = absurd (h r refl)

pub some_row : (row : Option Row) → IsSome row → (r : Row) × (row ≡ Some r)
some_row None live = absurd cc
some_row (Some r) live = (r, refl)

pub is_some_row : (row : Option Row) (r : Row) → row ≡ Some r → IsSome row
is_some_row row r e = ap is_some e

pub not_free : (row : Option Row) → row ≡ None → IsSome row → ⊥
not_free row none live = let e = sym live ∙ ap is_some none in absurd cc

-- ---- the row under an ordinal

module _ (rows : List (Option Row)) where
  passed : (q place : ℕ) (row : Option Row) (es : List (ℕ × Row)) → (q ≡ place → ⊥) → find nat_cmp q (with_entry place row es) ≡ find nat_cmp q es
  passed q place None es apart = refl
  passed q place (Some row) es apart = skips q (place, row) es apart

  first : (place : ℕ) (row : Option Row) (es : List (ℕ × Row)) → (row ≡ None → find nat_cmp place es ≡ None) → find nat_cmp place (with_entry place row es) ≡ row
  first place None es none = none refl
  first place (Some row) es none = finds (place, row) es

  none_found : (set : List ℕ) (o : ℕ) → row_under rows o ≡ None → find nat_cmp o (entries_of rows set) ≡ None
  none_found [] o none = refl
  none_found (m ∷ set) o none =
      elim (cases_eq o m) [
        | inl same ↦ subst (λ n. find nat_cmp n (entries_of rows (m ∷ set)) ≡ None) (sym same)
            (first m (row_under rows m) (entries_of rows set) (λ e. subst (λ n. find nat_cmp n (entries_of rows set) ≡ None) same (none_found set o none)) ∙ ap (row_under rows) (sym same) ∙ none)
        | inr apart ↦ passed o m (row_under rows m) (entries_of rows set) apart ∙ none_found set o none
      ]

  found : (set : List ℕ) (o : ℕ) → Contains set o → find nat_cmp o (entries_of rows set) ≡ row_under rows o
  found [] o h = absurd (no_member o h)
  found (m ∷ set) o h =
      elim (cases_eq o m) [
        | inl same ↦ subst (λ n. find nat_cmp n (entries_of rows (m ∷ set)) ≡ row_under rows n) (sym same) (first m (row_under rows m) (entries_of rows set) (λ none. none_found set m none))
        | inr apart ↦
            elim (first_or_other m set o h) [
              | inl is ↦ absurd (apart (sym is))
              | inr other ↦ passed o m (row_under rows m) (entries_of rows set) apart ∙ found set o other
            ]
      ]

  not_found : (set : List ℕ) (o : ℕ) → (Contains set o → ⊥) → find nat_cmp o (entries_of rows set) ≡ None
  not_found [] o none = refl
  not_found (m ∷ set) o none = passed o m (row_under rows m) (entries_of rows set) (λ e. none (here_first e)) ∙ not_found set o (λ h. none (behind h))
    where
      here_first : o ≡ m → Contains (m ∷ set) o
      here_first e = subst (λ n. Contains (m ∷ set) n) (sym e) (here m set)

      behind : Contains set o → Contains (m ∷ set) o
      behind h = there m set o h

  pub get_member : (set : List ℕ) (o : ℕ) → Contains set o → get (rows_of rows set) o ≡ row_under rows o
  unfolding rows_of
  get_member set o h = get-from_entries nat_cmp_total (entries_of rows set) o ∙ found set o h

  pub get_other : (set : List ℕ) (o : ℕ) → (Contains set o → ⊥) → get (rows_of rows set) o ≡ None
  unfolding rows_of
  get_other set o none = get-from_entries nat_cmp_total (entries_of rows set) o ∙ not_found set o none

  -- a row of a state is that under the ordinal, which is in the set
  pub row_held : (set : List ℕ) (o : ℕ) (row : Row) → get (rows_of rows set) o ≡ Some row → row_under rows o ≡ Some row
  row_held set o row is =
      elim (is_member set o) [
        | inl member ↦ sym (get_member set o member) ∙ is
        | inr none ↦ let e = sym is ∙ get_other set o none in absurd cc
      ]

  pub member_of : (set : List ℕ) (o : ℕ) → IsSome (get (rows_of rows set) o) → Contains set o
  member_of set o live =
      elim (is_member set o) [
        | inl member ↦ member
        | inr none ↦ absurd (not_free (get (rows_of rows set) o) (get_other set o none) live)
      ]

pub no_members : (rows : List (Option Row)) → rows_of rows [] ≡ empty
no_members rows = same_rows (rows_of rows []) empty (λ q. get_other rows [] q (no_member q) ∙ sym (get-empty nat_cmp q))

-- ---- the rows or the set change

module _ (rows rows' : List (Option Row)) (set : List ℕ) where
  pub rows_kept : ((o : ℕ) → Contains set o → row_under rows' o ≡ row_under rows o) → rows_of rows' set ≡ rows_of rows set
  rows_kept same = same_rows (rows_of rows' set) (rows_of rows set) (λ o.
      elim (is_member set o) [
        | inl member ↦ get_member rows' set o member ∙ same o member ∙ sym (get_member rows set o member)
        | inr none ↦ get_other rows' set o none ∙ sym (get_other rows set o none)
      ])

  pub rows_put : (o : ℕ) (row : Row) → row_under rows' o ≡ Some row → ((q : ℕ) → (q ≡ o → ⊥) → Contains set q → row_under rows' q ≡ row_under rows q)
      → rows_of rows' (with_ordinal o set) ≡ insert (rows_of rows set) o row
  rows_put o row is same = same_rows (rows_of rows' (with_ordinal o set)) (insert (rows_of rows set) o row) (λ q.
      elim (cases_eq q o) [
        | inl e ↦ subst (λ n. get (rows_of rows' (with_ordinal o set)) n ≡ get (insert (rows_of rows set) o row) n) (sym e)
            (get_member rows' (with_ordinal o set) o (Contains-with_ordinal_itself o set) ∙ is ∙ sym (get_inserted (rows_of rows set) o row))
        | inr apart ↦ beside q apart (is_member set q) ∙ sym (get_beside (rows_of rows set) o q row apart)
      ])
    where
      beside : (q : ℕ) → (q ≡ o → ⊥) → Contains set q ⊎ (Contains set q → ⊥) → get (rows_of rows' (with_ordinal o set)) q ≡ get (rows_of rows set) q
      beside q apart (inl member) = get_member rows' (with_ordinal o set) q (Contains-with_ordinal_kept o set q member) ∙ same q apart member ∙ sym (get_member rows set q member)
      beside q apart (inr none) = get_other rows' (with_ordinal o set) q (λ h. only_itself q apart none (Contains-with_ordinal_cases o set q h)) ∙ sym (get_other rows set q none)
        where
          only_itself : (q : ℕ) → (q ≡ o → ⊥) → (Contains set q → ⊥) → Contains set q ⊎ (o ≡ q) → ⊥
          only_itself q apart none (inl member) = none member
          only_itself q apart none (inr e) = apart (sym e)

  pub rows_without : (o : ℕ) → ((q : ℕ) → (q ≡ o → ⊥) → Contains set q → row_under rows' q ≡ row_under rows q) → rows_of rows' (without_ordinal o set) ≡ remove (rows_of rows set) o
  rows_without o same = same_rows (rows_of rows' (without_ordinal o set)) (remove (rows_of rows set) o) (λ q.
      elim (cases_eq q o) [
        | inl e ↦ get_other rows' (without_ordinal o set) q (λ h. (member_without set o q h).1 e) ∙ sym (ap (get (remove (rows_of rows set) o)) e ∙ get_removed (rows_of rows set) o)
        | inr apart ↦ beside q apart (is_member set q) ∙ sym (get_left (rows_of rows set) o q apart)
      ])
    where
      beside : (q : ℕ) → (q ≡ o → ⊥) → Contains set q ⊎ (Contains set q → ⊥) → get (rows_of rows' (without_ordinal o set)) q ≡ get (rows_of rows set) q
      beside q apart (inl member) = get_member rows' (without_ordinal o set) q (without_member set o q member apart) ∙ same q apart member ∙ sym (get_member rows set q member)
      beside q apart (inr none) = get_other rows' (without_ordinal o set) q (λ h. none (member_without set o q h).0) ∙ sym (get_other rows set q none)

-- one past the greatest ordinal of a set whose ordinals have rows
pub rows_past : (rows : List (Option Row)) (set : List ℕ) → ((o : ℕ) → Contains set o → IsSome (row_under rows o)) → IsPast (rows_of rows set) (bound_of set)
rows_past rows set live = record {
  above = λ o is. bound_of-above set o (member_of rows set o is);
  least = elim (bound_of-member set) [
    | inl none ↦ inl none
    | inr greatest ↦ inr (greatest.0, greatest.1, subst IsSome (sym (get_member rows set greatest.0 greatest.2)) (live greatest.0 greatest.2))
  ];
}
