-- The half of a section: its rows can be laid out in it.
use Rattle.std.proofs.Common.{◌≡◌, ℕ, suc, ◌+◌, List, [], ◌∷◌, length, map, get_or, refl, sym, ap, ◌∙◌, subst, add-zero, arith}
use Rattle.std.specs.Prelude.{slice_index}
use Rattle.std.specs.List.{range_with_len}
use Rattle.std.specs.FinMap.{values}
use Rattle.schema_model.specs.declared.schema.Shape.{Shape}
use Rattle.schema_model.specs.Parts.{shape_fields}
use Rattle.row_model.specs.Row.{stored_row}
use Rattle.row_model.specs.Table.{RowMap}
use Rattle.packed_half.specs.declared.half.HalfShape.{HalfShape}
use Rattle.packed_half.specs.Half.{layout_in}
use Rattle.packed_half.specs.LaidOut.{IsLaidOut, lengths_of}
use Rattle.packed_half.specs.Laying.{CanLay, EachRowOf}
use Rattle.packed_half.proofs.Parted.{words_few}
use Rattle.packed_half.proofs.RowPlaces.{entry_of}
use Rattle.type_rows.specs.LoadFault.{FailsLoad}
use Rattle.type_rows.specs.Sums.{AreSums}
use Rattle.type_rows.specs.declared.sums.Sums.{Sums}
use Rattle.type_rows.proofs.LoadFaults.{load_or_fault}
use Rattle.type_rows.specs.Rows.{rows_in}
use Rattle.type_rows.proofs.LiveRows.{rows_are}
use Rattle.type_rows.specs.declared.section.Section.{Section}
use Rattle.type_rows.specs.declared.fault.RowFault.{RowFault}
use Rattle.type_rows.specs.Holds.{Holds, KeepsLimits}
use Rattle.type_rows.specs.Layout.{Layout, places_of, record_bits}
use Rattle.type_rows.specs.Loads.{IsSpelledIn, Loads, RefusesLoad, SectionIs, layout_of}
use Rattle.type_rows.specs.WellFormed.{AreWidths, IsReadable}
use Rattle.type_rows.specs.WordsHeld.{field_bytes}
use Rattle.type_rows.proofs.SectionRows.{rows_fit, rows_of_kind}
use Rattle.type_state.specs.SectionRows.{HasRows}
use Rattle.type_state.proofs.StoredPlaces.{stored_place}

-- The rows of a section hold no least INT or LONG.
pub section_stored : (shape : Shape) (section : Section) (rows : RowMap) → IsReadable shape section → SectionIs shape section rows → EachRowOf rows (λ row. stored_row row ≡ row)
section_stored shape section rows h is = λ o row found.
    stored_place shape section.max section o row h.well.wide (entry_of (IsSpelledIn shape section) rows o row is.spelled found)

-- Numbers that are those of a function are its list.
from_function : (g : ℕ → ℕ) (from : ℕ) (numbers : List ℕ) → ((k : ℕ) → get_or numbers k 0 ≡ g (from + k)) → numbers ≡ map g (range_with_len from (length numbers))
from_function g from [] are = refl
from_function g from (n ∷ numbers) are =
    let first : n ≡ g from = are 0 ∙ ap g (add-zero from) in
    let rest = from_function g (from + 1) numbers (λ k. are (suc k) ∙ ap g (let same : from + suc k ≡ from + 1 + k = omega arith in same)) in
    λ i. first i ∷ rest i

-- The numbers of bytes of the fields are the lengths.
lengths_are : (shape : Shape) (rows : RowMap) (lengths : List ℕ) → length lengths ≡ length (shape_fields shape) → ((f : ℕ) → slice_index lengths f ≡ field_bytes f (values rows)) → lengths ≡ lengths_of shape (values rows)
lengths_are shape rows lengths long are =
    from_function (λ (f : ℕ). field_bytes f (values rows)) 0 lengths (λ k. are k ∙ ap (λ (f : ℕ). field_bytes f (values rows)) (let same : k ≡ 0 + k = omega arith in same))
    ∙ ap (λ n. map (λ (f : ℕ). field_bytes f (values rows)) (range_with_len 0 n)) long

pub can_lay : (shape : Shape) (section : Section) (half : HalfShape) (sums : Sums) (rows : RowMap) → IsReadable shape section → Loads shape section rows → layout_in half ≡ layout_of section → half.live ≡ section.live
    → half.total ≡ sums.items → half.lengths ≡ sums.lengths → AreSums rows sums → length sums.lengths ≡ length (shape_fields shape) → CanLay shape half rows
can_lay shape section half sums rows h l layout live total lengths are long = record {
  live = l.is.live ∙ sym live;
  held = subst (λ (layout : Layout). Holds shape layout rows) (sym layout) l.held;
  total = total ∙ are.items;
  lengths = lengths ∙ lengths_are shape rows sums.lengths long are.lengths;
  wide = subst (λ (layout : Layout). AreWidths shape layout.max layout.widths) (sym layout) h.well.wide;
  fits = λ o row found. rows_fit shape section rows o row l.is found;
  kinds = rows_of_kind shape section rows h l.is;
  stored = section_stored shape section rows h l.is;
  many = h.many;
  few = (let same = ap (λ (layout : Layout). places_of layout.max) layout in omega (arith, same, h.few));
  bytes = l.within.bytes;
  room = words_few shape (record_bits shape section.widths) half rows (subst (λ (layout : Layout). AreWidths shape layout.max layout.widths) (sym layout) h.well.wide) h.many
      (let same = ap (λ (layout : Layout). places_of layout.max) layout in omega (arith, same, h.few)) (total ∙ are.items) (lengths ∙ lengths_are shape rows sums.lengths long are.lengths)
      (subst (λ (layout : Layout). KeepsLimits shape (record_bits shape section.widths) layout rows) (sym layout) l.within);
}

-- ---- a section that is refused

-- A section with a fault loads no rows.
pub refused : (shape : Shape) (section : Section) (fault : RowFault) → FailsLoad shape section fault → RefusesLoad shape section fault
refused shape section RowFault.Memory fails = tt
refused shape section (RowFault.At reason o) fails = λ rows l. load_or_fault shape section rows (RowFault.At reason o) (λ same. absurd cc) l fails
refused shape section (RowFault.Limit limit) fails = λ rows l. load_or_fault shape section rows (RowFault.Limit limit) (λ same. absurd cc) l fails

-- ---- rows that are laid out

-- The rows that a section loads are those that are read at its places.
pub loaded_rows : (shape : Shape) (section : Section) (rows : RowMap) → Loads shape section rows → rows_in shape section ≡ rows
loaded_rows shape section rows l = rows_are shape section rows l.is

pub has_rows : (shape : Shape) (section : Section) (half : HalfShape) → IsReadable shape section → ((rows : RowMap) × Loads shape section rows × CanLay shape half rows) → HasRows shape section
has_rows shape section half h given = record {
  readable = h;
  is = subst (SectionIs shape section) (sym (loaded_rows shape section given.0 given.1)) given.1.is;
}

pub rows_lay : (shape : Shape) (section : Section) (half : HalfShape) → ((rows : RowMap) × Loads shape section rows × CanLay shape half rows) → CanLay shape half (rows_in shape section)
rows_lay shape section half given = subst (CanLay shape half) (sym (loaded_rows shape section given.0 given.1)) given.2

pub all_laid : (shape : Shape) (section : Section) (half : HalfShape) (words : List ℕ) → IsLaidOut shape half words (rows_in shape section) → (rows : RowMap) → Loads shape section rows → IsLaidOut shape half words rows
all_laid shape section half words laid rows l = subst (IsLaidOut shape half words) (loaded_rows shape section rows l) laid
