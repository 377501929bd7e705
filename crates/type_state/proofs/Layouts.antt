-- Rows that are laid out one behind the other, and what a layout holds.
use Rattle.std.proofs.Common.{◌≡◌, ℕ, ◌+◌, ◌-◌, ◌^◌, ◌≤◌, inl, inr, min, List, [], ◌∷◌, ◌++◌, length, take, Option, None, Some, refl, ap, sym, ◌∙◌, subst, arith, append_assoc, add-zero}
use Rattle.std.specs.Prelude.{IsSome, is_some, slice_get, slice_index}
use Rattle.std.specs.Ordering.{nat_cmp}
use Rattle.std.specs.FinMap.{find, entries, get, get-entries, keys, values}
use Rattle.std.specs.Map.{keys_of, values_of}
use Rattle.std.proofs.lemmas.Bool.{cases_eq}
use Rattle.std.proofs.lemmas.List.{append-nil, map-append}
use Rattle.std.proofs.lemmas.List.Sums.{sum_by-append}
use Rattle.ordinal_set.specs.Ordinals.{bound_of}
use Rattle.schema_model.specs.Parts.{shape_fields}
use Rattle.schema_model.specs.declared.reason.Reason.{Reason}
use Rattle.row_model.specs.Table.{RowMap}
use Rattle.schema_model.specs.declared.schema.Shape.{Shape}
use Rattle.row_model.specs.declared.row.Row.{Row}
use Rattle.type_rows.specs.WordsHeld.{row_bytes, part_bytes}
use Rattle.type_rows.specs.Layout.{Layout, items_of_row}
use Rattle.type_rows.specs.Ends.{FitsBehind}
use Rattle.type_rows.proofs.Reading.{held_more, more_bytes, more_items, holds_row}
use Rattle.type_rows.proofs.Entries.{below_bound, entries_rise}
use Rattle.type_rows.proofs.Rising.{RiseFrom, none_is_not}
use Rattle.type_rows.specs.declared.ends.Ends.{Ends}
use Rattle.type_rows.specs.declared.fault.RowFault.{RowFault}
use Rattle.type_rows.specs.Sums.{AreLaid}
use Rattle.type_rows.specs.Widths.{FirstUnheld}
use Rattle.type_rows.proofs.Laying.{first_unheld}
use Rattle.type_state.specs.FirstFaults.{FailsHeld, FailsSlot}
use Rattle.type_state.specs.Moving.{AreLaidOut, FitsSlot, LaysSlot}
use Rattle.type_state.proofs.Lookups.{found, none_below, skipped}

abbrev pub Entry : Type 0
Entry = ℕ × Row

-- The rows are parted at an ordinal: those below it, and the others, among which it is looked up.
pub record Parted (rows : RowMap) (o : ℕ) (done rest : List Entry) : Type 0 where
  pub whole : entries rows ≡ done ++ rest
  pub rising : RiseFrom o (keys_of rest)
  pub found : (q : ℕ) → o ≤ q → get rows q ≡ find nat_cmp q rest

at_first : (rows : RowMap) → Parted rows 0 [] (entries rows)
at_first rows = record { whole = refl; rising = entries_rise rows; found = λ q l. get-entries rows q }

-- Where no row is under the ordinal, the rows are parted at the next one too.
past : (rows : RowMap) (o : ℕ) (done rest : List Entry) → Parted rows o done rest → get rows o ≡ None → Parted rows (o + 1) done rest
past rows o done rest p none = record { whole = p.whole; rising = higher rest p.rising (sym (p.found o (omega arith)) ∙ none); found = λ q l. p.found q (omega arith) }
  where
    higher : (es : List Entry) → RiseFrom o (keys_of es) → find nat_cmp o es ≡ None → RiseFrom (o + 1) (keys_of es)
    higher [] rise none = tt
    higher (e ∷ es) rise none = elim (cases_eq o e.0) [
      | inl same ↦ absurd (none_is_not (find nat_cmp o (e ∷ es)) none (ap is_some (found o e es same)))
      | inr other ↦ (omega (arith, rise.0, λ (eq : o ≡ e.0). other eq), rise.1)
    ]

-- Where one is, it is the first of the others.
pub record Comes (rows : RowMap) (o : ℕ) (row : Row) (done rest : List Entry) : Type 0 where
  pub behind : List Entry
  pub is : rest ≡ (o, row) ∷ behind
  pub parted : Parted rows (o + 1) (done ++ (o, row) ∷ []) behind

comes : (rows : RowMap) (o : ℕ) (row : Row) (done rest : List Entry) → Parted rows o done rest → get rows o ≡ Some row → Comes rows o row done rest
comes rows o row done [] p at = absurd (let none : None ≡ Some row = sym (p.found o (omega arith)) ∙ at in cc)
comes rows o row done (e ∷ rest) p at = elim (cases_eq o e.0) [
  | inl same ↦
      let row_is : Some e.1 ≡ Some row = sym (found o e rest same) ∙ sym (p.found o (omega arith)) ∙ at in
      let value : e.1 ≡ row = cc in
      let is : e ≡ (o, row) = λ i. (sym same i, value i) in
      record {
        behind = rest;
        is = ap (λ (f : Entry). f ∷ rest) is;
        parted = record {
          whole = p.whole ∙ ap (λ (f : Entry). done ++ f ∷ rest) is ∙ sym (append_assoc done ((o, row) ∷ []) rest);
          rising = subst (λ n. RiseFrom (n + 1) (keys_of rest)) (sym same) p.rising.1;
          found = λ q l. p.found q (omega arith) ∙ skipped q e rest (λ eq. omega (arith, eq, same));
        };
      }
  | inr other ↦
      let high : RiseFrom (o + 1) (keys_of (e ∷ rest)) = (omega (arith, p.rising.0, λ (eq : o ≡ e.0). other eq), p.rising.1) in
      let none : None ≡ Some row = sym (none_below o (o + 1) (e ∷ rest) (omega arith) high) ∙ sym (p.found o (omega arith)) ∙ at in
      absurd cc
]

-- At the bound no other is left.
all_done : (rows : RowMap) (o : ℕ) (done rest : List Entry) → Parted rows o done rest → bound_of (keys rows) ≤ o → entries rows ≡ done
all_done rows o done [] p high = p.whole ∙ append-nil done
all_done rows o done (e ∷ rest) p high =
    let low = p.rising.0 in
    let below = below_bound rows e.0 (subst IsSome (sym (p.found e.0 low)) (ap is_some (found e.0 e rest refl))) in
    absurd (omega (arith, low, below, high))

-- The rows below an ordinal are laid out.
pub record Laid (shape : Shape) (widths : List ℕ) (rows : RowMap) (o : ℕ) (ends : List ℕ) (items bytes : ℕ) : Type 0 where
  pub done : List Entry
  pub rest : List Entry
  pub parted : Parted rows o done rest
  pub out : AreLaidOut shape widths (values_of done) ends items bytes

-- At first none are.
pub begun : (shape : Shape) (widths : List ℕ) (rows : RowMap) (ends : List ℕ) (items : ℕ) → ((f : ℕ) → slice_index ends f ≡ 0) → items ≡ 0 → length ends ≡ length (shape_fields shape) → Laid shape widths rows 0 ends items 0
begun shape widths rows ends items zeros zero long = record {
  done = [];
  rest = entries rows;
  parted = at_first rows;
  out = record { held = tt; reached = zeros; counted = zero; long = long; total = refl };
}

-- No row is under the ordinal.
pub passed : (shape : Shape) (widths : List ℕ) (rows : RowMap) (o : ℕ) (ends : List ℕ) (items bytes : ℕ) → Laid shape widths rows o ends items bytes → get rows o ≡ None → Laid shape widths rows (o + 1) ends items bytes
passed shape widths rows o ends items bytes l none = record { done = l.done; rest = l.rest; parted = past rows o l.done l.rest l.parted none; out = l.out }

-- The row under the ordinal is laid out.
pub laid_more : (shape : Shape) (widths : List ℕ) (rows : RowMap) (o : ℕ) (row : Row) (ends after : List ℕ) (items more bytes total : ℕ) → Laid shape widths rows o ends items bytes → get rows o ≡ Some row
    → FitsBehind shape widths ends items row → ((f : ℕ) → slice_index after f ≡ slice_index ends f + part_bytes f row) → more ≡ items + items_of_row row → length after ≡ length ends
    → total ≡ min (bytes + min (row_bytes row) (2 ^ 64 - 1)) (2 ^ 64 - 1) → Laid shape widths rows (o + 1) after more total
laid_more shape widths rows o row ends after items more bytes total l at fits grown up long sum =
    let c = comes rows o row l.done l.rest l.parted at in
    let before = values_of l.done in
    let values : values_of (l.done ++ (o, row) ∷ []) ≡ before ++ row ∷ [] = map-append (λ (e : Entry). e.1) l.done ((o, row) ∷ []) in
    let out : AreLaidOut shape widths (before ++ row ∷ []) after more total = record {
      held = held_more shape widths [] before row l.out.held (holds_row shape widths ends items before row l.out.reached l.out.counted fits);
      reached = λ f. grown f ∙ ap (λ n. n + part_bytes f row) (l.out.reached f) ∙ sym (more_bytes f before row);
      counted = up ∙ ap (λ n. n + items_of_row row) l.out.counted ∙ sym (more_items before row);
      long = long ∙ l.out.long;
      total = (let whole = sum_by-append row_bytes before (row ∷ []) in let was = l.out.total in grind (arith, whole, was, sum));
    } in
    record { done = l.done ++ (o, row) ∷ []; rest = c.behind; parted = c.parted; out = subst (λ rs. AreLaidOut shape widths rs after more total) (sym values) out }

-- Behind some entries their number is the index of the next one, and the front of so many is theirs.
key_behind : (done rest : List Entry) (o : ℕ) (row : Row) → slice_get (keys_of (done ++ (o, row) ∷ rest)) (length done) ≡ Some o
key_behind [] rest o row = refl
key_behind (e ∷ done) rest o row = key_behind done rest o row

row_behind : (done rest : List Entry) (o : ℕ) (row : Row) → slice_get (values_of (done ++ (o, row) ∷ rest)) (length done) ≡ Some row
row_behind [] rest o row = refl
row_behind (e ∷ done) rest o row = row_behind done rest o row

rows_before : (done rest : List Entry) → take (length done) (values_of (done ++ rest)) ≡ values_of done
rows_before [] rest = refl
rows_before (e ∷ done) rest = ap (λ rows. e.1 ∷ rows) (rows_before done rest)

-- A row that does not fit is the first such, where those before it are laid out.
first_misfit : (shape : Shape) (widths : List ℕ) (rows : RowMap) (o : ℕ) (row : Row) (ends : List ℕ) (items bytes : ℕ) → Laid shape widths rows o ends items bytes → get rows o ≡ Some row
    → (FitsBehind shape widths ends items row → ⊥) → FirstUnheld shape widths (keys rows) (values rows) o
first_misfit shape widths rows o row ends items bytes l at wide =
    let c = comes rows o row l.done l.rest l.parted at in
    let whole : entries rows ≡ l.done ++ (o, row) ∷ c.behind = l.parted.whole ∙ ap (λ (es : List Entry). l.done ++ es) c.is in
    let out : AreLaid shape widths (values_of l.done) items ends bytes = record { held = l.out.held; counted = l.out.counted; reached = l.out.reached; total = l.out.total } in
    subst (λ (es : List Entry). FirstUnheld shape widths (keys_of es) (values_of es) o) (sym whole)
    (first_unheld shape widths (keys_of (l.done ++ (o, row) ∷ c.behind)) (values_of (l.done ++ (o, row) ∷ c.behind)) (length l.done) o row items ends bytes
    (subst (λ front. AreLaid shape widths front items ends bytes) (sym (rows_before l.done ((o, row) ∷ c.behind))) out)
    (key_behind l.done c.behind o row) (row_behind l.done c.behind o row) wide)

-- What stands under the ordinal is laid out, if a row does.
pub laid_slot : (shape : Shape) (widths : List ℕ) (rows : RowMap) (o : ℕ) (slot : Option Row) (before after : Ends) (bytes more total : ℕ) → Laid shape widths rows o before.offsets.items before.items bytes → slot ≡ get rows o
    → LaysSlot shape widths slot before after more → total ≡ min (bytes + more) (2 ^ 64 - 1) → Laid shape widths rows (o + 1) after.offsets.items after.items total
laid_slot shape widths rows o None before after bytes more total l is h sum = record {
  done = l.done;
  rest = l.rest;
  parted = past rows o l.done l.rest l.parted (sym is);
  out = record {
    held = l.out.held;
    reached = λ f. h.ends f ∙ add-zero (slice_index before.offsets.items f) ∙ l.out.reached f;
    counted = h.items ∙ add-zero before.items ∙ l.out.counted;
    long = h.long ∙ l.out.long;
    total = (let was = l.out.total in let none = h.own in omega (arith, was, none, sum));
  };
}
laid_slot shape widths rows o (Some row) before after bytes more total l is h sum =
    laid_more shape widths rows o row before.offsets.items after.offsets.items before.items after.items bytes total l (sym is) h.fits h.ends h.items h.long (let own = h.own in omega (arith, own, sum))

-- What does not fit is the first fault of the rows.
first_slot : (shape : Shape) (widths : List ℕ) (rows : RowMap) (o : ℕ) (slot : Option Row) (ends : Ends) (bytes : ℕ) → Laid shape widths rows o ends.offsets.items ends.items bytes → slot ≡ get rows o → (FitsSlot shape widths slot ends → ⊥)
    → FirstUnheld shape widths (keys rows) (values rows) o
first_slot shape widths rows o None ends bytes l is bad = absurd (bad tt)
first_slot shape widths rows o (Some row) ends bytes l is bad = first_misfit shape widths rows o row ends.offsets.items ends.items bytes l (sym is) bad

pub fails_slot : (shape : Shape) (own : ℕ) (layout : Layout) (rows : RowMap) (o : ℕ) (slot : Option Row) (ends : Ends) (bytes : ℕ) (fault : RowFault) → Laid shape layout.widths rows o ends.offsets.items ends.items bytes → slot ≡ get rows o
    → FailsSlot shape layout.widths o slot ends fault → FailsHeld shape own layout rows fault
fails_slot shape own layout rows o slot ends bytes (RowFault.At Reason.BadWidth at) l is f =
    subst (λ n. FirstUnheld shape layout.widths (keys rows) (values rows) n) (sym f.0) (first_slot shape layout.widths rows o slot ends bytes l is f.1)
fails_slot shape own layout rows o slot ends bytes (RowFault.At _ at) l is f = absurd f
fails_slot shape own layout rows o slot ends bytes (RowFault.Limit limit) l is f = absurd f
fails_slot shape own layout rows o slot ends bytes RowFault.Memory l is f = absurd f

-- All rows are laid out.
pub all_laid : (shape : Shape) (widths : List ℕ) (rows : RowMap) (o : ℕ) (ends : List ℕ) (items bytes : ℕ) → Laid shape widths rows o ends items bytes → bound_of (keys rows) ≤ o → AreLaidOut shape widths (values_of (entries rows)) ends items bytes
all_laid shape widths rows o ends items bytes l high =
    subst (λ es. AreLaidOut shape widths (values_of es) ends items bytes) (sym (all_done rows o l.done l.rest l.parted high)) l.out
