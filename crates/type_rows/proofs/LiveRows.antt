-- The rows of a section are those that are computed of its live ordinals.
use Rattle.std.proofs.Common.{◌≡◌, ℕ, zero, suc, ◌<◌, List, [], ◌∷◌, map, None, Some, T, refl, sym, ap, subst, ◌∙◌, arith, inl, inr}
use Rattle.std.specs.Prelude.{All, Contains}
use Rattle.std.specs.Cmp.{nat_cmp_total}
use Rattle.std.specs.Ordering.{nat_cmp}
use Rattle.std.specs.FinMap.{entries, find, from_entries, get, get-from_entries, keys}
use Rattle.std.specs.FinMap.Entries.{is_sorted}
use Rattle.std.specs.List.Sorted.{IsStrictlyIncreasing, IsStrictlySortedBy}
use Rattle.std.specs.Map.{keys_of}
use Rattle.std.proofs.lemmas.Bool.{cases_eq}
use Rattle.std.proofs.lemmas.List.Elements.{All-cons, All-head, All-nil, All-tail}
use Rattle.std.proofs.lemmas.Map.Keys.{sorted_from_strictly_increasing}
use Rattle.schema_model.specs.declared.schema.Shape.{Shape}
use Rattle.row_model.specs.declared.row.Row.{Row}
use Rattle.row_model.specs.Table.{RowMap}
use Rattle.row_model.proofs.RowEntries.{Entry, finds, skips}
use Rattle.type_rows.specs.Layout.{places_of}
use Rattle.type_rows.specs.Loads.{IsSpelledIn, SectionIs, Spells}
use Rattle.type_rows.specs.declared.section.Section.{Section}
use Rattle.type_rows.specs.Rows.{row_in, rows_in}
use Rattle.type_rows.proofs.Keyed.{entries_back, map_back, sorted_from}
use Rattle.type_rows.proofs.Rows.{spelled}

-- Some ordinals with a row each.
abbrev with_rows : (ℕ → Row) → List ℕ → List Entry
with_rows row live = map (λ ordinal. (ordinal, row ordinal)) live

keys_with : (row : ℕ → Row) (live : List ℕ) → keys_of (with_rows row live) ≡ live
keys_with row [] = refl
keys_with row (o ∷ live) = ap (λ os. o ∷ os) (keys_with row live)

sorted_with : (row : ℕ → Row) (live : List ℕ) → IsStrictlyIncreasing live → T (is_sorted nat_cmp (with_rows row live))
sorted_with row live rise = sorted_from (with_rows row live) (subst (IsStrictlySortedBy nat_cmp) (sym (keys_with row live)) (sorted_from_strictly_increasing live rise))

-- What is found among them.
found_live : (row : ℕ → Row) (live : List ℕ) (o : ℕ) → Contains live o → find nat_cmp o (with_rows row live) ≡ Some (row o)
found_live row [] o (k, below, is) = absurd (omega arith)
found_live row (first ∷ live) o (zero, below, is) = subst (λ q. find nat_cmp q (with_rows row (first ∷ live)) ≡ Some (row q)) is (finds (first, row first) (with_rows row live))
found_live row (first ∷ live) o (suc k, below, is) = elim (cases_eq o first) [
  | inl same ↦ subst (λ q. find nat_cmp q (with_rows row (first ∷ live)) ≡ Some (row q)) (sym same) (finds (first, row first) (with_rows row live))
  | inr other ↦ skips o (first, row first) (with_rows row live) other ∙ found_live row live o (k, omega arith, is)
]

found_none : (row : ℕ → Row) (live : List ℕ) (o : ℕ) → (Contains live o → ⊥) → find nat_cmp o (with_rows row live) ≡ None
found_none row [] o absent = refl
found_none row (first ∷ live) o absent =
    skips o (first, row first) (with_rows row live) (λ same. absent (zero, omega arith, sym same))
    ∙ found_none row live o (λ h. absent (suc h.0, omega (arith, h.1), h.2))

pub live_found : (shape : Shape) (section : Section) (o : ℕ) → Contains section.live o → get (rows_in shape section) o ≡ Some (row_in shape section o)
unfolding rows_in
live_found shape section o live = get-from_entries nat_cmp_total (with_rows (row_in shape section) section.live) o ∙ found_live (row_in shape section) section.live o live

pub none_found : (shape : Shape) (section : Section) (o : ℕ) → (Contains section.live o → ⊥) → get (rows_in shape section) o ≡ None
unfolding rows_in
none_found shape section o absent = get-from_entries nat_cmp_total (with_rows (row_in shape section) section.live) o ∙ found_none (row_in shape section) section.live o absent

entries_in : (shape : Shape) (section : Section) → IsStrictlyIncreasing section.live → entries (rows_in shape section) ≡ with_rows (row_in shape section) section.live
unfolding rows_in
entries_in shape section rise = entries_back (with_rows (row_in shape section) section.live) (sorted_with (row_in shape section) section.live rise)

pub keys_in : (shape : Shape) (section : Section) → IsStrictlyIncreasing section.live → keys (rows_in shape section) ≡ section.live
keys_in shape section rise = ap keys_of (entries_in shape section rise) ∙ keys_with (row_in shape section) section.live

-- The rows that a section spells are those with its ordinals.
with_spelled : (shape : Shape) (section : Section) (es : List Entry) → All (IsSpelledIn shape section) es → with_rows (row_in shape section) (keys_of es) ≡ es
with_spelled shape section [] all = refl
with_spelled shape section (e ∷ es) all =
    let row : row_in shape section e.0 ≡ e.1 = spelled shape section e.0 e.1 (All-head (IsSpelledIn shape section) e es all) in
    let rest = with_spelled shape section es (All-tail (IsSpelledIn shape section) e es all) in
    λ i. (e.0, row i) ∷ rest i

pub rows_are : (shape : Shape) (section : Section) (rows : RowMap) → SectionIs shape section rows → rows_in shape section ≡ rows
unfolding rows_in
rows_are shape section rows is =
    ap (λ live. from_entries (with_rows (row_in shape section) live)) (sym is.live) ∙ ap (λ es. from_entries es) (with_spelled shape section (entries rows) is.spelled) ∙ map_back rows

all_spelled : (shape : Shape) (section : Section) (live : List ℕ) → All (λ ordinal. (row : Row) × Spells shape section ordinal row) live → All (IsSpelledIn shape section) (with_rows (row_in shape section) live)
all_spelled shape section [] all = All-nil (IsSpelledIn shape section)
all_spelled shape section (o ∷ live) all =
    let given = All-head (λ ordinal. (row : Row) × Spells shape section ordinal row) o live all in
    let here : Spells shape section o (row_in shape section o) = subst (Spells shape section o) (sym (spelled shape section o given.0 given.1)) given.1 in
    All-cons (IsSpelledIn shape section) (o, row_in shape section o) (with_rows (row_in shape section) live) here
    (all_spelled shape section live (All-tail (λ ordinal. (row : Row) × Spells shape section ordinal row) o live all))

pub section_is : (shape : Shape) (section : Section) → IsStrictlyIncreasing section.live → All (λ ordinal. ordinal < places_of section.max) section.live
    → All (λ ordinal. (row : Row) × Spells shape section ordinal row) section.live → SectionIs shape section (rows_in shape section)
section_is shape section rise placed all = record {
  live = keys_in shape section rise;
  places = placed;
  spelled = subst (All (IsSpelledIn shape section)) (sym (entries_in shape section rise)) (all_spelled shape section section.live all);
}
