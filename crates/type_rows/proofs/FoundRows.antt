-- The rows that the places of a section spell.
use Rattle.std.proofs.Common.{inl, inr, ◌≡◌, ℕ, ◌<◌, ◌&&◌, List, [], ◌∷◌, zero, suc, true, false, Bool, Some, ap, sym, ◌∙◌, subst, refl, arith, length, get_or}
use Rattle.std.specs.Prelude.{All, Contains, T, slice_get}
use Rattle.std.specs.List.{AllByRecursion}
use Rattle.std.specs.List.Sorted.{IsStrictlyIncreasing, IsStrictlySortedBy}
use Rattle.std.specs.Ordering.{is_lt, nat_cmp}
use Rattle.std.specs.declared.cmp.Ordering.{Ordering}
use Rattle.std.specs.declared.cmp.Ordering.TheVariants.{Less}
use Rattle.std.specs.FinMap.{entries, entries-from_sorted, from_sorted, is_sorted, values}
use Rattle.std.specs.FinMap.Entries.{below_all}
use Rattle.std.specs.Map.{keys_of, values_of}
use Rattle.std.proofs.lemmas.Bool.{cases_lt}
use Rattle.std.proofs.lemmas.Option.{slice_get-get_or, slice_get_within}
use Rattle.std.proofs.lemmas.List.Elements.{All-cons, All-contains_itself}
use Rattle.std.proofs.lemmas.Map.Keys.{sorted_from_strictly_increasing}
use Rattle.schema_model.specs.declared.schema.Shape.{Shape}
use Rattle.row_model.specs.declared.row.Row.{Row}
use Rattle.row_model.specs.Table.{RowMap}
use Rattle.type_rows.specs.declared.section.Section.{Section}
use Rattle.type_rows.specs.Layout.{places_of}
use Rattle.type_rows.specs.Loads.{IsSpelledIn, SectionIs, Spells}
use Rattle.type_rows.specs.Ordinals.{HasNoPlace, HoldsNowhere}
use Rattle.type_rows.specs.Places.{SpellsSome}
use Rattle.type_rows.specs.Sums.{IsOfRows}
use Rattle.type_rows.proofs.OnceFirst.{some_once}

abbrev pub Entry : Type 0
Entry = ℕ × Row

-- Where each of some places spells a row, these are the entries.
spelled_entries : (shape : Shape) (section : Section) (places : List ℕ) → ((index place : ℕ) → slice_get places index ≡ Some place → SpellsSome shape section place)
    → (found : List Entry) × (keys_of found ≡ places) × All (IsSpelledIn shape section) found
spelled_entries shape section [] some = ([], refl, λ k d l. absurd (omega (arith, l)))
spelled_entries shape section (place ∷ places) some =
    let first = some 0 place refl in
    let rest = spelled_entries shape section places (λ k other at. some (suc k) other at) in
    ((place, first.0) ∷ rest.0, ap (λ os. place ∷ os) rest.1, All-cons (IsSpelledIn shape section) (place, first.0) rest.0 first.1 rest.2)

less_test : (order : Ordering) → order ≡ Less → (b : Bool) → T b → T (is_lt order && b)
less_test order e b h = subst (λ s. T (is_lt s && b)) (sym e) h

both : (a b : Bool) → T a → T b → T (a && b)
both true b h k = k
both false b h k = absurd h

below_keys : (ordinal : ℕ) (found : List Entry) → AllByRecursion (λ other. nat_cmp ordinal other ≡ Less) (keys_of found) → T (below_all nat_cmp ordinal found)
below_keys ordinal [] all = tt
below_keys ordinal (entry ∷ rest) all = less_test (nat_cmp ordinal entry.0) all.0 _ (below_keys ordinal rest all.1)

sorted_entries : (found : List Entry) → IsStrictlySortedBy nat_cmp (keys_of found) → T (is_sorted nat_cmp found)
unfolding IsStrictlySortedBy
sorted_entries [] s = tt
sorted_entries (entry ∷ rest) s = both _ _ (below_keys entry.0 rest s.0) (sorted_entries rest s.1)

pub below_places : (section : Section) (ordinal : ℕ) → HoldsNowhere (HasNoPlace section.live (places_of section.max)) → Contains section.live ordinal → ordinal < places_of section.max
below_places section ordinal placed at = elim (cases_lt ordinal (places_of section.max)) [ inl low ↦ low | inr high ↦ absurd (placed ordinal (at, high)) ]

-- A section whose live ordinals all have a place that spells a row is that of some rows.
pub rows_found : (shape : Shape) (section : Section) → IsStrictlyIncreasing section.live → HoldsNowhere (HasNoPlace section.live (places_of section.max))
    → ((index place : ℕ) → slice_get section.live index ≡ Some place → SpellsSome shape section place) → IsOfRows shape section
rows_found shape section rise placed some =
    let found = spelled_entries shape section section.live some in
    let sorted = sorted_entries found.0 (subst (IsStrictlySortedBy nat_cmp) (sym found.1) (sorted_from_strictly_increasing section.live rise)) in
    let same = entries-from_sorted nat_cmp found.0 sorted in (
      from_sorted found.0,
      record {
        live = ap keys_of same ∙ found.1;
        places = λ k d inside. below_places section (get_or section.live k d) placed (All-contains_itself section.live k d inside);
        spelled = subst (All (IsSpelledIn shape section)) (sym same) found.2;
      },
    )

-- The entry of a key at an index.
entry_at : (P : Entry → Type 0) (found : List Entry) (index ordinal : ℕ) → All P found → slice_get (keys_of found) index ≡ Some ordinal
    → (row : Row) × (slice_get (values_of found) index ≡ Some row) × P (ordinal, row)
entry_at P [] index ordinal all at = absurd cc
entry_at P (entry ∷ rest) zero ordinal all at =
    (entry.1, refl, subst (λ o. P (o, entry.1)) (some_once entry.0 ordinal at) (all 0 entry (omega arith)))
entry_at P (entry ∷ rest) (suc index) ordinal all at = entry_at P rest index ordinal (λ k d l. all (suc k) d (omega (arith, l))) at

-- The row at an index of the rows of a section is that at the place of the live ordinal there.
pub row_there : (shape : Shape) (section : Section) (rows : RowMap) (index ordinal : ℕ) → SectionIs shape section rows → slice_get section.live index ≡ Some ordinal
    → (row : Row) × (slice_get (values rows) index ≡ Some row) × Spells shape section ordinal row
row_there shape section rows index ordinal is at =
    entry_at (IsSpelledIn shape section) (entries rows) index ordinal is.spelled (ap (λ live. slice_get live index) is.live ∙ at)

-- A listed live ordinal has a place, which spells a row.
pub listed_below : (section : Section) (live : List ℕ) (index place : ℕ) → live ≡ section.live → HoldsNowhere (HasNoPlace section.live (places_of section.max)) → slice_get live index ≡ Some place → place < places_of section.max
listed_below section live index place same placed at =
    let inside = slice_get_within live index place at in
    let is : get_or live index place ≡ place = some_once (get_or live index place) place (sym (slice_get-get_or live index place inside) ∙ at) in
    below_places section place placed (subst (λ list. Contains list place) same (index, inside, is))

pub listed_spells : (shape : Shape) (section : Section) (live : List ℕ) (index place : ℕ) → live ≡ section.live → IsOfRows shape section → slice_get live index ≡ Some place → SpellsSome shape section place
listed_spells shape section live index place same leads at =
    let there = row_there shape section leads.0 index place leads.1 (subst (λ list. slice_get list index ≡ Some place) same at) in (there.0, there.2)

-- What is read at an index of a slice stands there.
pub read_there : (numbers : List ℕ) (index number : ℕ) → index < length numbers → number ≡ get_or numbers index 0 → slice_get numbers index ≡ Some number
read_there numbers index number inside is = slice_get-get_or numbers index 0 inside ∙ ap Some (sym is)
