-- Lemmas on rows that are looked at in the words of a half: what the codec of their kind needs, and which row a place has.
use Rattle.std.proofs.Common.{◌≡◌, ℕ, suc, ◌+◌, ◌*◌, ◌^◌, ◌<◌, ◌≤◌, inl, inr, List, [], ◌∷◌, length, drop, Option, Some, None, Result, Ok, Err, refl, sym, ap, ◌∙◌, subst, arith}
use Rattle.std.specs.Prelude.{All, Contains, IsSome, sum}
use Rattle.std.specs.List.{AllZip}
use Rattle.std.specs.FinMap.{get, values}
use Rattle.std.proofs.Math.Nat.{mul-le-mul_right}
use Rattle.std.proofs.lemmas.List.{length-drop, length-take, length-take-le}
use Rattle.std.proofs.lemmas.List.FromFn.{length-map-range_with_len}
use Rattle.bit_array.specs.Element.{words_of}
use Rattle.hol_varint.specs.Yields.{Yields}
use Rattle.schema_model.specs.declared.reason.Reason.{Reason}
use Rattle.schema_model.specs.declared.schema.Field.{Field}
use Rattle.schema_model.specs.declared.schema.Shape.{Shape}
use Rattle.schema_model.specs.Parts.{shape_fields}
use Rattle.row_model.specs.declared.packed.PlaceFault.{PlaceFault}
use Rattle.row_model.specs.declared.row.Row.{Row}
use Rattle.row_model.specs.Table.{RowMap}
use Rattle.object_codec.specs.ObjectPlace as object
use Rattle.list_codec.specs.ListPlace as list
use Rattle.bucket_codec.specs.BucketPlace as bucket
use Rattle.type_rows.specs.declared.section.Section.{Section}
use Rattle.type_rows.specs.Layout.{places_of}
use Rattle.type_rows.specs.Loads.{Spells, TellsPlace}
use Rattle.type_rows.specs.WellFormed.{IsWellFormed, IsWidth}
use Rattle.type_rows.specs.WordsHeld.{field_bytes}
use Rattle.type_rows.proofs.Loading.{buckets_tell, one_row}
use Rattle.packed_half.specs.declared.half.HalfShape.{HalfShape}
use Rattle.packed_half.specs.Half.{place_words, item_words, words_for_bytes, areas_in, behind_places, behind_items, section_in}
use Rattle.packed_half.specs.LaidOut.{IsLaidOut, HasRowUnder}
use Rattle.packed_half.specs.Laying.{HasRuns}
use Rattle.packed_half.proofs.PlacedLists.{list_bits}
use Rattle.packed_half.proofs.PlacedRuns.{RunWidths, set_widths, map_widths}
use Rattle.packed_half.proofs.RowPlaces.{entry_of, key_of, key_there, placed_in}

-- ---- what a codec needs at a place

-- the places up to one have no more bits than the words
within : (places size words place : ℕ) → words ≡ words_of (places * size) → place < places → (place + 1) * size ≤ 64 * words
within places size words place enough inside =
    let below : (place + 1) * size ≤ places * size = mul-le-mul_right size (omega arith) in
    omega arith

module _ (shape : Shape) (half : HalfShape) (words : List ℕ) (rows : RowMap) (laid : IsLaidOut shape half words rows) where
  first_long : length (section_in shape half words).first ≡ place_words shape half
  first_long = length-take-le (place_words shape half) words (omega (arith, laid.long))

  pub second_few : 64 * length (section_in shape half words).second < 2 ^ 64
  second_few =
      let cut = length-take (item_words shape half) (behind_places shape half words) in
      let behind = length-drop (place_words shape half) words in
      omega (arith, cut, behind, laid.short)

-- the areas are as many as the fields
areas_long : (lengths words : List ℕ) → length (areas_in words lengths) ≡ length lengths
areas_long [] words = refl
areas_long (count ∷ rest) words = ap suc (areas_long rest (drop (words_for_bytes count) words))

pub object_holds : (shape : Shape) (half : HalfShape) (words : List ℕ) (rows : RowMap) (place : ℕ) → object.IsObject shape → IsLaidOut shape half words rows → place < places_of half.max → place < 2 ^ 32
    → object.HoldsPlace (shape_fields shape) half.widths (section_in shape half words).first (section_in shape half words).areas place
object_holds (Shape.Object key fields) half words rows place is laid inside small = record {
  few = laid.many;
  wide = wide_of half.max inside laid.wide;
  filled = areas_long half.lengths (behind_items (Shape.Object key fields) half words) ∙ ap (λ (ls : List ℕ). length ls) laid.lengths
      ∙ length-map-range_with_len (λ field. field_bytes field (values rows)) 0 (length fields);
  within = within (places_of half.max) (sum half.widths) (length (section_in (Shape.Object key fields) half words).first) place (first_long (Shape.Object key fields) half words rows laid) inside;
  below = small;
}
  where
    wide_of : (max : Option ℕ) → place < places_of max → AllZip (λ (field : Field) width. IsWidth max field.kind width) fields half.widths → AllZip object.IsFieldWidth fields half.widths
    wide_of None inside h = absurd (omega arith)
    wide_of (Some max) inside h = h
object_holds (Shape.List element) half words rows place is laid inside small = absurd is
object_holds (Shape.Set element) half words rows place is laid inside small = absurd is
object_holds (Shape.Map key value) half words rows place is laid inside small = absurd is

pub list_holds : (shape : Shape) (half : HalfShape) (words : List ℕ) (rows : RowMap) (place : ℕ) → list.IsList shape → IsLaidOut shape half words rows → place < places_of half.max
    → list.HoldsListPlace half.widths (section_in shape half words).first place
list_holds (Shape.List element) half words rows place is laid inside =
    let bits = (list_bits element half.widths laid.wide.0).0 in
    record {
      two = laid.wide.0;
      narrow = laid.wide.1;
      within = within (places_of half.max) (list.pointer_width half.widths) (length (section_in (Shape.List element) half words).first) place
          (first_long (Shape.List element) half words rows laid ∙ ap (λ (n : ℕ). words_of (places_of half.max * n)) bits) inside;
    }
list_holds (Shape.Object key fields) half words rows place is laid inside = absurd is
list_holds (Shape.Set element) half words rows place is laid inside = absurd is
list_holds (Shape.Map key value) half words rows place is laid inside = absurd is

pub widths_of_runs : (shape : Shape) (half : HalfShape) (words : List ℕ) (rows : RowMap) → HasRuns shape → IsLaidOut shape half words rows → RunWidths shape half.widths
widths_of_runs (Shape.Set element) half words rows runs laid = set_widths element half.widths laid.wide.0 laid.wide.1
widths_of_runs (Shape.Map key value) half words rows runs laid = map_widths key value half.widths laid.wide.0 laid.wide.1
widths_of_runs (Shape.List element) half words rows runs laid = absurd runs
widths_of_runs (Shape.Object key fields) half words rows runs laid = absurd runs

pub runs_hold : (shape : Shape) (half : HalfShape) (words : List ℕ) (rows : RowMap) (place : ℕ) → HasRuns shape → IsLaidOut shape half words rows → place < places_of half.max → place < 2 ^ 32
    → bucket.HoldsPlace shape half.widths (section_in shape half words).first (section_in shape half words).second place
runs_hold shape half words rows place runs laid inside small =
    let widths = widths_of_runs shape half words rows runs laid in
    record {
      counted = widths.counted;
      pointers = record {
        narrow = widths.narrow;
        within = within (places_of half.max) (bucket.place_width half.widths) (length (section_in shape half words).first) place
            (first_long shape half words rows laid ∙ ap (λ (n : ℕ). words_of (places_of half.max * n)) widths.place) inside;
        below = small;
      };
      few = second_few shape half words rows laid;
    }

-- ---- the row of a place

-- a row that is found is spelled at its place, within the places
pub spelled_there : (shape : Shape) (half : HalfShape) (words : List ℕ) (rows : RowMap) (ordinal : ℕ) (row : Row) → IsLaidOut shape half words rows → get rows ordinal ≡ Some row
    → Spells shape (section_in shape half words) ordinal row
spelled_there shape half words rows ordinal row laid found = entry_of (λ entry. Spells shape (section_in shape half words) entry.0 entry.1) rows ordinal row laid.is.spelled found

pub live_inside : (shape : Shape) (half : HalfShape) (words : List ℕ) (ordinal : ℕ) → HasRowUnder shape half words ordinal → ordinal < places_of half.max
live_inside shape half words ordinal has = by_row (get has.0 ordinal) refl has.2
  where
    by_row : (row : Option Row) → get has.0 ordinal ≡ row → IsSome row → ordinal < places_of half.max
    by_row None is some = absurd cc
    by_row (Some row) is some = placed_in has.0 (places_of half.max) ordinal row (subst (All (λ o. o < places_of half.max)) (sym has.1.is.live) has.1.is.places) is

-- what is told of the place of a live ordinal is its row
row_told : (shape : Shape) (half : HalfShape) (words : List ℕ) (rows : RowMap) (ordinal : ℕ) (row : Row) → IsLaidOut shape half words rows → IsSome (get rows ordinal) → Spells shape (section_in shape half words) ordinal row
    → get rows ordinal ≡ Some row
row_told shape half words rows ordinal row laid live spells = by_row (get rows ordinal) refl live
  where
    by_row : (found : Option Row) → get rows ordinal ≡ found → IsSome found → found ≡ Some row
    by_row None is some = absurd cc
    by_row (Some found) is some =
        ap Some ((one_row shape (section_in shape half words)).once ordinal found row (spelled_there shape half words rows ordinal found laid is) spells)

-- an ordinal is live in all rows that the words are those of
pub same_live : (shape : Shape) (half : HalfShape) (words : List ℕ) (a b : RowMap) (ordinal : ℕ) → IsLaidOut shape half words a → IsLaidOut shape half words b → IsSome (get a ordinal) → IsSome (get b ordinal)
same_live shape half words a b ordinal first second live =
    key_of b ordinal (subst (λ (ks : List ℕ). Contains ks ordinal) (first.is.live ∙ sym second.is.live) (key_there a ordinal live))

pub row_is : (shape : Shape) (half : HalfShape) (words : List ℕ) (ordinal : ℕ) (row : Row) → HasRowUnder shape half words ordinal → Spells shape (section_in shape half words) ordinal row
    → (rows : RowMap) → IsLaidOut shape half words rows → get rows ordinal ≡ Some row
row_is shape half words ordinal row has spells rows laid = row_told shape half words rows ordinal row laid (same_live shape half words has.0 rows ordinal has.1 laid has.2) spells

pub never_bad : (shape : Shape) (half : HalfShape) (words : List ℕ) (ordinal : ℕ) → HasRowUnder shape half words ordinal → ((row : Row) → Spells shape (section_in shape half words) ordinal row → ⊥) → ⊥
never_bad shape half words ordinal has none = by_row (get has.0 ordinal) refl has.2
  where
    by_row : (found : Option Row) → get has.0 ordinal ≡ found → IsSome found → ⊥
    by_row None is some = absurd cc
    by_row (Some found) is some = none found (spelled_there shape half words has.0 ordinal found has.1 is)

-- what the codec of sets and maps tells
pub runs_tell : (shape : Shape) (section : Section) (place : ℕ) (result : Result Row PlaceFault) → HasRuns shape → bucket.TellsBucketRow shape section.widths section.total section.first section.second place result
    → TellsPlace shape section place result
runs_tell (Shape.Set element) section place result runs told = buckets_tell (Shape.Set element) section place result tt told
runs_tell (Shape.Map key value) section place result runs told = buckets_tell (Shape.Map key value) section place result tt told
runs_tell (Shape.List element) section place result runs told = absurd runs
runs_tell (Shape.Object key fields) section place result runs told = absurd runs

-- ---- parts that are cut

pub same_first : (shape other : Shape) (half : HalfShape) (words first : List ℕ) → other ≡ shape → first ≡ (section_in other half words).first → first ≡ (section_in shape half words).first
same_first shape other half words first same is = is ∙ ap (λ (s : Shape). (section_in s half words).first) same

pub same_second : (shape other : Shape) (half : HalfShape) (words second : List ℕ) → other ≡ shape → second ≡ (section_in other half words).second → second ≡ (section_in shape half words).second
same_second shape other half words second same is = is ∙ ap (λ (s : Shape). (section_in s half words).second) same

pub same_areas : (shape other : Shape) (half : HalfShape) (words bytes lengths : List ℕ) → other ≡ shape → bytes ≡ behind_items other half words → lengths ≡ half.lengths
    → areas_in bytes lengths ≡ (section_in shape half words).areas
same_areas shape other half words bytes lengths same is long =
    ap (λ (ws : List ℕ). areas_in ws lengths) is ∙ ap (areas_in (behind_items other half words)) long ∙ ap (λ (s : Shape). (section_in s half words).areas) same

-- an answer that is exact tells of the place
yields_told : (shape : Shape) (section : Section) (place : ℕ) (free : PlaceFault → Type 0) → ((reason : Reason) → free (PlaceFault.Bad reason) → ⊥) → (result : Result Row PlaceFault)
    → ((row : Row) → Yields free result (Ok row) (Spells shape section place row)) → TellsPlace shape section place result
yields_told shape section place free never (Ok row) exact = (exact row).0 refl
yields_told shape section place free never (Err PlaceFault.Memory) exact = tt
yields_told shape section place free never (Err (PlaceFault.Bad reason)) exact = λ row h. elim ((exact row).1 h) [ inl is ↦ absurd cc | inr fault ↦ absurd (never reason fault) ]

-- what the codecs of records and of lists tell
pub records_tell : (shape : Shape) (section : Section) (place : ℕ) (result : Result Row PlaceFault) → object.IsObject shape
    → ((row : Row) → Yields object.IsFreePlace result (Ok row) (object.SpellsObjectRow shape section.widths section.first section.areas place row)) → TellsPlace shape section place result
records_tell (Shape.Object key fields) section place result is exact = yields_told (Shape.Object key fields) section place object.IsFreePlace (λ reason fault. fault) result exact
records_tell (Shape.List element) section place result is exact = absurd is
records_tell (Shape.Set element) section place result is exact = absurd is
records_tell (Shape.Map key value) section place result is exact = absurd is

pub lists_tell : (shape : Shape) (section : Section) (place : ℕ) (result : Result Row PlaceFault) → list.IsList shape
    → ((row : Row) → Yields list.IsFreePlace result (Ok row) (list.SpellsListRow section.widths section.total section.first section.second place row)) → TellsPlace shape section place result
lists_tell (Shape.List element) section place result is exact = yields_told (Shape.List element) section place list.IsFreePlace (λ reason fault. fault) result exact
lists_tell (Shape.Object key fields) section place result is exact = absurd is
lists_tell (Shape.Set element) section place result is exact = absurd is
lists_tell (Shape.Map key value) section place result is exact = absurd is

-- ---- a half as a section that can be read

pub well_formed : (shape : Shape) (half : HalfShape) (words : List ℕ) (rows : RowMap) → IsLaidOut shape half words rows → IsWellFormed shape (section_in shape half words)
well_formed shape half words rows laid =
    let first = first_long shape half words rows laid in
    let cut = length-take (item_words shape half) (behind_places shape half words) in
    let behind = length-drop (place_words shape half) words in
    record {
      wide = laid.wide;
      filled =
          areas_long half.lengths (behind_items shape half words) ∙ ap (λ (ls : List ℕ). length ls) laid.lengths
          ∙ length-map-range_with_len (λ field. field_bytes field (values rows)) 0 (length (shape_fields shape));
      enough = omega (arith, first);
      short = omega (arith, cut, behind, laid.short);
    }
