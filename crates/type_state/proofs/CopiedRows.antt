-- Rows of a section that are copied as they stand.
use Rattle.std.proofs.Common.{◌≡◌, ℕ, zero, suc, ◌+◌, ◌*◌, ◌^◌, ◌<◌, ◌≤◌, inl, inr, List, [], ◌∷◌, ◌++◌, length, get_or, map, Option, None, Some, refl, ap, sym, ◌∙◌, subst, arith}
use Rattle.std.specs.Prelude.{Contains, is_some}
use Rattle.std.specs.FinMap.{get}
use Rattle.std.proofs.lemmas.Bool.{cases_eq, false≢true}
use Rattle.std.proofs.lemmas.List.{length-replicate}
use Rattle.bit_array.specs.Element.{words_of}
use Rattle.schema_model.specs.declared.schema.Shape.{Shape}
use Rattle.row_model.specs.declared.row.Row.{Row}
use Rattle.row_model.specs.Table.{RowMap}
use Rattle.packed_half.specs.declared.half.HalfShape.{HalfShape}
use Rattle.packed_half.specs.Half.{areas_in, byte_words, item_words, place_words}
use Rattle.packed_half.specs.LaidOut.{IsLaidOut, IsTight}
use Rattle.packed_half.specs.Laying.{ArePlaced, CanLay, parts_in}
use Rattle.packed_half.proofs.Parted.{IsCut, whole}
use Rattle.packed_half.proofs.RowPlaces.{entry_of, key_of, key_there, placed_in}
use Rattle.type_rows.specs.Rows.{rows_in}
use Rattle.type_rows.specs.declared.section.Section.{Section}
use Rattle.type_rows.specs.Layout.{Layout, item_bits, places_of}
use Rattle.type_rows.specs.Loads.{IsSpelledIn, Loads, SectionIs, Spells}
use Rattle.type_rows.specs.WellFormed.{AreWidths}
use Rattle.type_state.specs.SectionRows.{IsWithin, StandAlike, with_total}
use Rattle.type_state.proofs.MovedItems.{AreSameUpTo, row_moved, with_items}
use Rattle.type_state.proofs.SectionHalves.{all_laid, loaded_rows, rows_lay}

-- ---- fields of so many bytes, up to one

-- The first fields have so many bytes.
abbrev pub HaveLengths : List (List ℕ) → List ℕ → ℕ → Type 0
HaveLengths areas lengths count = (field : ℕ) → field < count → length (get_or areas field []) ≡ get_or lengths field 0

pub length_more : (areas : List (List ℕ)) (lengths : List ℕ) (count : ℕ) → HaveLengths areas lengths count → length (get_or areas count []) ≡ get_or lengths count 0 → HaveLengths areas lengths (count + 1)
length_more areas lengths count so one field below = elim (cases_eq field count) [
  | inl same ↦ subst (λ (k : ℕ). length (get_or areas k []) ≡ get_or lengths k 0) (sym same) one
  | inr other ↦ so field (omega (arith, below, λ (e : field ≡ count). other e))
]

pub all_lengths : (areas : List (List ℕ)) (lengths : List ℕ) (count : ℕ) → length areas ≡ length lengths → length areas ≤ count → HaveLengths areas lengths count → map (λ (area : List ℕ). length area) areas ≡ lengths
all_lengths [] [] count same past so = refl
all_lengths [] (l ∷ lengths) count same past so = absurd (omega (arith, same))
all_lengths (area ∷ areas) [] count same past so = absurd (omega (arith, same))
all_lengths (area ∷ areas) (l ∷ lengths) zero same past so = absurd (omega (arith, past))
all_lengths (area ∷ areas) (l ∷ lengths) (suc count) same past so =
    let first : length area ≡ l = so 0 (omega arith) in
    let rest = all_lengths areas lengths count (omega (arith, same)) (omega (arith, past)) (λ field below. so (suc field) (omega (arith, below))) in
    λ i. first i ∷ rest i

-- ---- the room that a place takes

-- It is told by the pointers and the records alone.
tight_moved : (shape : Shape) (section : Section) (total : ℕ) (second : List ℕ) (place : ℕ) (row : Option Row) → IsTight shape section place row → IsTight shape (with_items section total second) place row
tight_moved (Shape.Object key fields) section total second place None tight = tight
tight_moved (Shape.Object key fields) section total second place (Some row) tight = tight
tight_moved (Shape.List element) section total second place None tight = tight
tight_moved (Shape.List element) section total second place (Some row) tight = tight
tight_moved (Shape.Set element) section total second place None tight = tight
tight_moved (Shape.Set element) section total second place (Some row) tight = tight
tight_moved (Shape.Map key value) section total second place None tight = tight
tight_moved (Shape.Map key value) section total second place (Some row) tight = tight

-- ---- rows that are copied so are placed

module _ (shape : Shape) (section : Section) (half : HalfShape) (rows : RowMap) (second : List ℕ) (alike : StandAlike shape section half) (is : SectionIs shape section rows) (can : CanLay shape half rows)
    (copied : AreSameUpTo section.second second (64 * item_words shape half)) (long : length second ≡ item_words shape half) where
  -- the parts of the half are those of the section, with these items
  same_section : parts_in half section.first second section.areas ≡ with_items section half.total second
  same_section =
      let max = ap (λ (l : Layout). l.max) alike.layout in
      let widths = ap (λ (l : Layout). l.widths) alike.layout in
      let live = sym can.live ∙ is.live in
      λ i. record { max = max i; widths = widths i; total = half.total; first = section.first; second = second; areas = section.areas; live = live i }

  wide : AreWidths shape half.max section.widths
  wide = subst (λ (ws : List ℕ). AreWidths shape half.max ws) (ap (λ (l : Layout). l.widths) alike.layout) can.wide

  words_are : words_of (half.total * item_bits shape section.widths) ≡ item_words shape half
  words_are = ap (λ (ws : List ℕ). words_of (half.total * item_bits shape ws)) (sym (ap (λ (l : Layout). l.widths) alike.layout))

  moved : (place : ℕ) (row : Row) → Spells shape (with_total section half.total) place row → Spells shape (with_items section half.total second) place row
  moved place row =
      row_moved shape section half.total second half.max place row wide (λ bit width below. copied bit width (omega (arith, below, words_are))) (omega (arith, words_are, long))

  within_there : (place : ℕ) (row : Row) → get rows place ≡ Some row → place < places_of section.max → IsWithin shape section half.total place row
  within_there place row found inside =
      (alike.tight place inside).row (subst (λ ks. Contains ks place) is.live (key_there rows place (ap is_some found))) row (entry_of (IsSpelledIn shape section) rows place row is.spelled found)

  tight_there : (place : ℕ) (row : Option Row) → get rows place ≡ row → place < places_of section.max → IsTight shape section place row
  tight_there place (Some row) found inside = (within_there place row found inside).tight
  tight_there place None found inside =
      (alike.tight place inside).gap (λ at. false≢true (sym (ap is_some found) ∙ key_of rows place (subst (λ ks. Contains ks place) (sym is.live) at)))

  rows_placed : ArePlaced shape half rows section.first second section.areas
  rows_placed =
      let same = sym same_section in
      let places : places_of half.max ≡ places_of section.max = ap (λ (l : Layout). places_of l.max) alike.layout in
      record {
        spelled = λ ordinal row found.
            let inside : ordinal < places_of half.max = placed_in rows (places_of half.max) ordinal row can.held.places found in
            subst (λ (s : Section). Spells shape s ordinal row) same (moved ordinal row (within_there ordinal row found (omega (arith, inside, places))).spelled);
        tight = λ place inside.
            subst (λ (s : Section). IsTight shape s place (get rows place)) same (tight_moved shape section half.total second place (get rows place) (tight_there place (get rows place) refl (omega (arith, inside, places))));
      }

-- ---- the words

-- The parts of the words are as long as those of the section, but for the items, which are no more.
pub record AreLong (section : Section) (first second bytes : List ℕ) : Type 0 where
  pub first_long : length section.first ≡ length first
  pub second_long : length second ≤ length section.second
  pub second_short : length second < 2 ^ 58
  pub bytes_long : length bytes ≡ byte_words (map (λ (area : List ℕ). length area) section.areas)

pub are_long : (shape : Shape) (section : Section) (half : HalfShape) (first second bytes : List ℕ) → StandAlike shape section half → IsCut shape half first second bytes
    → ((rows : RowMap) × Loads shape section rows × CanLay shape half rows) → AreLong section first second bytes
are_long shape section half first second bytes alike parts loads =
    let second_is : length second ≡ item_words shape half = ap (λ (ws : List ℕ). length ws) parts.second_zeros ∙ length-replicate (item_words shape half) 0 in
    record {
      first_long = alike.first ∙ sym (ap (λ (ws : List ℕ). length ws) parts.first_zeros ∙ length-replicate (place_words shape half) 0);
      second_long = omega (arith, second_is, alike.second);
      second_short = omega (arith, second_is, loads.2.room);
      bytes_long = parts.bytes_long ∙ ap byte_words (sym alike.lengths);
    }

pub rows_laid : (shape : Shape) (section : Section) (half : HalfShape) (first second bytes second' bytes' : List ℕ) → StandAlike shape section half
    → (loads : (rows : RowMap) × Loads shape section rows × CanLay shape half rows) → IsCut shape half first second bytes → length second' ≡ length second
    → AreSameUpTo section.second second' (64 * length second) → length bytes' ≡ length bytes
    → areas_in bytes' (map (λ (area : List ℕ). length area) section.areas) ≡ section.areas → (rows : RowMap) → Loads shape section rows → IsLaidOut shape half (section.first ++ (second' ++ bytes')) rows
rows_laid shape section half first second bytes second' bytes' alike loads parts second_same copied long put =
    let can = rows_lay shape section half loads in
    let is = subst (SectionIs shape section) (sym (loaded_rows shape section loads.0 loads.1)) loads.1.is in
    let longs = are_long shape section half first second bytes alike parts loads in
    let second_is : length second ≡ item_words shape half = ap (λ (ws : List ℕ). length ws) parts.second_zeros ∙ length-replicate (item_words shape half) 0 in
    let areas : section.areas ≡ areas_in bytes' half.lengths = sym put ∙ ap (areas_in bytes') alike.lengths in
    all_laid shape section half (section.first ++ (second' ++ bytes'))
    (whole shape half (rows_in shape section) first second bytes section.first second' bytes' can parts longs.first_long second_same long
    (subst (λ (read : List (List ℕ)). ArePlaced shape half (rows_in shape section) section.first second' read) areas
    (rows_placed shape section half (rows_in shape section) second' alike is can (subst (λ n. AreSameUpTo section.second second' (64 * n)) second_is copied) (second_same ∙ second_is))))
