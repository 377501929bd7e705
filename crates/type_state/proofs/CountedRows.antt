-- Differences that are counted one after another.
use Rattle.std.proofs.Common.{◌≡◌, ℕ, zero, suc, ◌+◌, ◌<◌, ◌≤◌, inl, inr, List, [], ◌∷◌, length, get_or, take, Option, None, Some, refl, ap, sym, subst, ◌∙◌, arith}
use Rattle.std.specs.Prelude.{is_some, All, IsSome, slice_index}
use Rattle.std.specs.Ordering.{nat_cmp}
use Rattle.std.specs.FinMap.{find, get, values}
use Rattle.std.specs.List.Sorted.{IsStrictlySortedBy}
use Rattle.std.specs.Map.{keys_of}
use Rattle.std.proofs.lemmas.Bool.{cases_eq, cases_lt}
use Rattle.std.proofs.lemmas.List.{get_or_past, get_or-take, length-take, take_all}
use Rattle.schema_model.specs.declared.schema.Shape.{Shape}
use Rattle.row_model.specs.declared.row.Row.{Row}
use Rattle.row_model.specs.Table.{RowMap}
use Rattle.type_rows.specs.declared.totals.Totals.{Totals}
use Rattle.type_rows.specs.Differing.{Difference, differ_at}
use Rattle.type_rows.specs.Layout.{items_of_row}
use Rattle.type_rows.specs.WordsHeld.{part_bytes}
use Rattle.type_rows.specs.Totals.{AreLess, AreMore, AreTotals}
use Rattle.type_rows.proofs.Rising.{from_sorted}
use Rattle.type_state.specs.Differences.{differing}
use Rattle.type_state.specs.Counted.{AgreeAt, AreFitting, AreNothing, Comes, FitsSomewhere, IsCounted}
use Rattle.type_state.proofs.Lookups.{found, found_at, keys_rise, skipped}
use Rattle.type_state.proofs.RowSums.{differing_more, get_apart, totals_differ}

-- Zeros are 0 everywhere.
all_zero : (xs : List ℕ) → All (λ x. x ≡ 0) xs → (k : ℕ) → slice_index xs k ≡ 0
all_zero xs zeros k = elim (cases_lt k (length xs)) [
  | inl inside ↦ zeros k 0 inside
  | inr past ↦ get_or_past xs k 0 past
]

-- Of nothing nothing is taken off, whatever stood there.
pub nothing_less : (totals : Totals) (stood : Option Row) → AreNothing totals → AreLess totals stood totals
nothing_less totals stood nothing = record {
  ends = λ field. (let zero = all_zero totals.ends.offsets.items nothing.0 field in omega (arith, zero));
  items = omega (arith, nothing.1);
  bytes = omega (arith, nothing.2);
  long = refl;
}

-- Where no row stands nothing is taken off.
none_less : (totals : Totals) (stood : Option Row) → stood ≡ None → AreLess totals stood totals
none_less totals None none = record { ends = λ field. omega arith; items = omega arith; bytes = omega arith; long = refl }
none_less totals (Some row) none = absurd cc

-- Nothing is added to totals.
pub nothing_more : (totals : Totals) → AreMore totals None totals
nothing_more totals = record { ends = λ field. omega arith; items = omega arith; bytes = omega arith; long = refl }

-- The differences below an index are counted.
pub record Counting (rows : RowMap) (ds : List Difference) (initial now : Totals) (index : ℕ) : Type 0 where
  pub totals : (others : RowMap) → AreTotals (values others) initial → AgreeAt others rows ds → AreTotals (values (differing others (take index ds))) now
  pub long : length now.ends.offsets.items ≡ length initial.ends.offsets.items

-- What comes by them fits.
abbrev pub Fitting : Shape → List ℕ → List Difference → ℕ → Type 0
Fitting shape widths ds index = (k : ℕ) (row : Row) → k < index → (get_or ds k (0, None)).1 ≡ Some row → FitsSomewhere shape widths row

pub begun : (rows : RowMap) (ds : List Difference) (initial : Totals) → Counting rows ds initial initial 0
unfolding differing
begun rows ds initial = record { totals = λ others are agree. are; long = refl }

same_there : (ds : List Difference) (k : ℕ) (d e : Difference) → k < length ds → get_or ds k d ≡ get_or ds k e
same_there [] k d e inside = absurd (omega arith)
same_there (f ∷ ds) zero d e inside = refl
same_there (f ∷ ds) (suc k) d e inside = same_there ds k d e (omega arith)

-- Under the next ordinal stands what stood, by the differences before.
stands : (rows : RowMap) (ds : List Difference) (index : ℕ) (e : Difference) → IsStrictlySortedBy nat_cmp (keys_of ds) → index < length ds → get (differing rows (take index ds)) (get_or ds index e).0 ≡ get rows (get_or ds index e).0
stands rows ds index e sorted inside = get_apart rows (take index ds) (get_or ds index e).0 (λ k d below same.
    let short = length-take index ds in
    let taken : get_or (take index ds) k d ≡ get_or ds k d = get_or-take index ds k d (omega (arith, short, below)) in
    let key = ap (λ (f : Difference). f.0) (sym taken) in
    let mine = ap (λ (f : Difference). f.0) (same_there ds index d e inside) in
    let rise = keys_rise ds k index d sorted (omega (arith, short, below)) inside in
    omega (arith, rise, key, same, mine))

-- One more is counted.
pub counted_more : (rows : RowMap) (ds : List Difference) (initial now middle after : Totals) (index : ℕ) (d : Difference) → Counting rows ds initial now index → IsStrictlySortedBy nat_cmp (keys_of ds) → index < length ds
    → d ≡ get_or ds index d → AreLess now (get rows d.0) middle → AreMore middle d.1 after → Counting rows ds initial after (index + 1)
counted_more rows ds initial now middle after index d c sorted inside is less more = record {
  totals = λ others are agree.
      (let at : find nat_cmp d.0 ds ≡ Some (get_or ds index d).1 = found_at 0 ds d.0 index d (from_sorted (keys_of ds) sorted) inside (ap (λ (f : Difference). f.0) (sym is)) in
      let live : IsSome (find nat_cmp d.0 ds) = ap is_some at in
      let there : get rows d.0 ≡ get (differing others (take index ds)) d.0 =
      sym (agree d.0 live) ∙ ap (get others) (ap (λ (f : Difference). f.0) is) ∙ sym (stands others ds index d sorted inside) ∙ ap (get (differing others (take index ds))) (ap (λ (f : Difference). f.0) (sym is)) in
      let step = totals_differ (differing others (take index ds)) d (get rows d.0) now middle after there (c.totals others are agree) less more in
      subst (λ (m : RowMap). AreTotals (values m) after) (sym (differing_more others ds index d inside ∙ ap (differ_at (differing others (take index ds))) (sym is))) step);
  long = more.long ∙ less.long ∙ c.long;
}

-- One more is counted that comes under an ordinal of no row.
pub come_more : (rows : RowMap) (ds : List Difference) (initial now after : Totals) (index : ℕ) (d : Difference) → Counting rows ds initial now index → IsStrictlySortedBy nat_cmp (keys_of ds) → index < length ds → d ≡ get_or ds index d → get rows d.0 ≡ None
    → AreMore now d.1 after → Counting rows ds initial after (index + 1)
come_more rows ds initial now after index d c sorted inside is none more = counted_more rows ds initial now now after index d c sorted inside is (none_less now (get rows d.0) none) more

-- What comes by one more fits too.
pub fits_more : (shape : Shape) (widths : List ℕ) (ds : List Difference) (index : ℕ) (d : Difference) → Fitting shape widths ds index → index < length ds → d ≡ get_or ds index d → ((row : Row) → d.1 ≡ Some row → FitsSomewhere shape widths row)
    → Fitting shape widths ds (index + 1)
fits_more shape widths ds index d fit inside is comes k row below at = elim (cases_lt k index) [
  | inl before ↦ fit k row before at
  | inr last ↦
      (let same : k ≡ index = omega arith in
      let key = ap (λ i. (get_or ds i (0, None)).1) same in
      let mine = ap (λ (f : Difference). f.1) (is ∙ same_there ds index d (0, None) inside) in
      comes row (mine ∙ sym key ∙ at))
]

-- All are counted.
pub all_counted : (rows : RowMap) (ds : List Difference) (initial now : Totals) (index : ℕ) → Counting rows ds initial now index → length ds ≤ index → IsCounted rows ds initial now
all_counted rows ds initial now index c past = record {
  counted = λ others are agree. subst (λ (xs : List Difference). AreTotals (values (differing others xs)) now) (take_all index ds past) (c.totals others are agree);
}

-- What is found under an ordinal stands at some place.
record IsAt (ds : List Difference) (o : ℕ) (slot : Option Row) : Type 0 where
  place : ℕ
  inside : place < length ds
  is : (get_or ds place (0, None)).1 ≡ slot

place_of : (ds : List Difference) (o : ℕ) (slot : Option Row) → find nat_cmp o ds ≡ Some slot → IsAt ds o slot
place_of [] o slot at = absurd cc
place_of (d ∷ ds) o slot at = elim (cases_eq o d.0) [
  | inl same ↦ (let is : Some d.1 ≡ Some slot = sym (found o d ds same) ∙ at in record { place = 0; inside = omega arith; is = cc })
  | inr other ↦ (let rest = place_of ds o slot (sym (skipped o d ds other) ∙ at) in record { place = suc rest.place; inside = omega (arith, rest.inside); is = rest.is })
]

pub all_fit : (shape : Shape) (widths : List ℕ) (ds : List Difference) (index : ℕ) → Fitting shape widths ds index → length ds ≤ index → AreFitting shape widths ds
all_fit shape widths ds index fit past o row at =
    let there = place_of ds o (Some row) at in fit there.place row (omega (arith, there.inside)) there.is

-- A row that comes behind others fits.
pub fits_so : (shape : Shape) (widths : List ℕ) (before after : Totals) (made row : Row) → Some made ≡ Some row → Comes shape widths made before after → FitsSomewhere shape widths row
fits_so shape widths before after made row same comes =
    let is : made ≡ row = cc in
    subst (FitsSomewhere shape widths) is record { ends = λ f. slice_index before.ends.offsets.items f + part_bytes f made; items = before.ends.items + items_of_row made; fits = comes.fits }
