-- Lemmas on sections as they are written: their rows are those of the state, they can be read, and their layouts hold the rows of both states.
use Rattle.std.proofs.Common.{◌≡◌, ℕ, zero, suc, ◌+◌, ◌*◌, ◌^◌, ◌<◌, ◌≤◌, inl, inr, List, [], length, Option, Some, None, refl, sym, ap, ◌∙◌, subst, arith}
use Rattle.std.specs.Prelude.{All, is_some, option_map, slice_get, sum_by}
use Rattle.std.specs.List.{enumerate_from, range_with_len}
use Rattle.std.specs.FinMap.{entries, values}
use Rattle.std.proofs.Math.Nat.{mul-le-mul}
use Rattle.std.proofs.lemmas.List.{length-map}
use Rattle.std.proofs.lemmas.List.Elements.{All-map}
use Rattle.std.proofs.lemmas.List.FromFn.{length-enumerate_from, length-range_with_len}
use Rattle.std.proofs.lemmas.Option.{slice_get-map}
use Rattle.bit_array.specs.Element.{words_of}
use Rattle.schema_model.specs.Parts.{shape_fields}
use Rattle.row_model.specs.Table.{RowMap, Table, row_at}
use Rattle.row_model.specs.declared.row.Row.{Row}
use Rattle.schema_model.specs.declared.schema.Field.{Field}
use Rattle.schema_model.specs.declared.schema.Shape.{Shape}
use Rattle.row_model.specs.BothStates.{rows_in, rows_from, rows_of_both}
use Rattle.row_model.proofs.RowsFrom.{get_in}
use Rattle.object_codec.specs.ObjectPlace.{SpellsObjectRow}
use Rattle.list_codec.specs.ListPlace.{SpellsListRow}
use Rattle.list_codec.specs.Packing.{elements_of_places}
use Rattle.bucket_codec.specs.Packed.{bucket_total}
use Rattle.type_rows.specs.declared.section.Section.{Section}
use Rattle.type_rows.specs.Holds.{FitsRow, HoldsRows, Holds}
use Rattle.type_rows.specs.Layout.{places_of, place_bits, items_of_row, item_count, fixed_words}
use Rattle.type_rows.specs.Loads.{Spells, SectionIs, Loads, layout_of}
use Rattle.type_rows.specs.WellFormed.{AreWidths, IsReadable}
use Rattle.type_rows.specs.WordsHeld.{part_bytes, field_bytes, bytes_held}
use Rattle.type_rows.proofs.CountedWords.{all_words}
use Rattle.row_packing.specs.declared.chosen.Chosen.{Chosen}
use Rattle.row_packing.specs.Chosen.{IsGreatestOrdinal, IsLiveInEither, chosen_widths, chosen_total, IsRowOf, KeepsCounts}
use Rattle.row_packing.specs.Packs.{PacksPlaces}
use Rattle.row_packing.specs.Places.{places_under, snapshot_places, Agree, AreAdded}
use Rattle.row_packing.specs.Written.{IsStored, IsWritten, CanBeWritten, ArePacked}
use Rattle.row_packing.proofs.Greatest.{all_left}
use Rattle.row_packing.proofs.RowsUnder.{RiseFrom, rise_all, all_found, all_in, each_both, sum_new, sum_old, values_all}
use Rattle.row_packing.proofs.ListPlaces as list
use Rattle.row_packing.proofs.ObjectPlaces as object
use Rattle.row_packing.proofs.BucketPlaces as buckets
use Rattle.row_packing.proofs.FitsBoth.{fits_object, fits_list, fits_set, fits_map}
use Rattle.row_packing.proofs.Fitting.{laid_out}
use Rattle.row_packing.proofs.Suiting.{bytes_few, list_few, buckets_few, no_live, places_few, rise_from}

-- ---- what is known of the rows of both states

-- what was chosen, and the rows that it was chosen for
pub record AreBoth (shape : Shape) (old new : Table) (type_index : ℕ) : Type 0 where
  pub agree : Agree old new type_index
  pub keeps : KeepsCounts shape old new type_index
  pub rows : All (IsRowOf shape) (rows_of_both old new type_index)
  pub few : length (shape_fields shape) ≤ 1024

records : (key : Option (List (List ℕ))) (fields : List Field) (old new : Table) (type_index : ℕ) → AreBoth (Shape.Object key fields) old new type_index → object.AreRecords key fields old new type_index
records key fields old new type_index are =
    record { agree = are.agree; rows = are.rows; bytes = omega (arith, bytes_few (Shape.Object key fields) old new type_index are.keeps); few = are.few }

elements : (element : List ℕ) (old new : Table) (type_index : ℕ) → AreBoth (Shape.List element) old new type_index → list.AreElements element old new type_index
elements element old new type_index are = record { agree = are.agree; rows = are.rows; few = list_few element (rows_of_both old new type_index) are.keeps.items }

sets : (element : List ℕ) (old new : Table) (type_index : ℕ) → AreBoth (Shape.Set element) old new type_index → buckets.AreRuns (Shape.Set element) old new type_index
sets element old new type_index are = record { agree = are.agree; rows = are.rows; few = buckets_few (rows_of_both old new type_index) are.keeps.items }

maps : (key value : List ℕ) (old new : Table) (type_index : ℕ) → AreBoth (Shape.Map key value) old new type_index → buckets.AreRuns (Shape.Map key value) old new type_index
maps key value old new type_index are = record { agree = are.agree; rows = are.rows; few = buckets_few (rows_of_both old new type_index) are.keeps.items }

-- ---- a place spells its row

-- the places have no more elements or buckets than the total
abbrev pub AreCounted : Shape → List (Option Row) → ℕ → Type 0
AreCounted (Shape.Object key fields) places total = Unit {0}
AreCounted (Shape.List element) places total = length (elements_of_places places) ≤ total
AreCounted (Shape.Set element) places total = bucket_total places ≤ total
AreCounted (Shape.Map key value) places total = bucket_total places ≤ total

pub counted : (shape : Shape) (old new : Table) (type_index : ℕ) (ordinals : List ℕ) → AreBoth shape old new type_index → RiseFrom 0 ordinals
    → AreCounted shape (places_under new type_index ordinals) (chosen_total shape (rows_of_both old new type_index))
counted (Shape.Object key fields) old new type_index ordinals are rise = tt
counted (Shape.List element) old new type_index ordinals are rise =
    omega (arith, list.count_places element old new type_index (elements element old new type_index are) ordinals rise, are.keeps.items)
counted (Shape.Set element) old new type_index ordinals are rise =
    omega (arith, buckets.count_places (Shape.Set element) old new type_index (sets element old new type_index are) ordinals rise, are.keeps.items)
counted (Shape.Map key value) old new type_index ordinals are rise =
    omega (arith, buckets.count_places (Shape.Map key value) old new type_index (maps key value old new type_index are) ordinals rise, are.keeps.items)

-- a list that is spelled within a total is spelled within a larger one
list_within : (widths : List ℕ) (total more : ℕ) (first second : List ℕ) (place : ℕ) (row : Row) → total ≤ more → SpellsListRow widths total first second place row → SpellsListRow widths more first second place row
list_within widths total more first second place (Row.List ordinals) le spells =
    record { has = record { rises = spells.has.rises; within = omega (arith, le, spells.has.within); held = spells.has.held }; are = spells.are; small = spells.small }
list_within widths total more first second place (Row.Object values) le spells = absurd spells
list_within widths total more first second place (Row.Set ordinals) le spells = absurd spells
list_within widths total more first second place (Row.Map pairs) le spells = absurd spells

pub spells_place : (shape : Shape) (section : Section) (places : List (Option Row)) (place : ℕ) (row : Row) → PacksPlaces shape section.widths places section.first section.second section.areas
    → AreCounted shape places section.total → slice_get places place ≡ Some (Some row) → IsStored row → Spells shape section place row
spells_place (Shape.Object key fields) section places place row packs counts at stored =
    subst (SpellsObjectRow (Shape.Object key fields) section.widths section.first section.areas place) stored (packs.0.spelled place (Some row) at)
spells_place (Shape.List element) section places place row packs counts at stored =
    list_within section.widths (length (elements_of_places places)) section.total section.first section.second place row counts (packs.0.spelled place (Some row) at)
spells_place (Shape.Set element) section places place row packs counts at stored = (packs.0.packs place section.total (Some row) at counts).1
spells_place (Shape.Map key value) section places place row packs counts at stored = (packs.0.packs place section.total (Some row) at counts).1

-- the place of an ordinal in a snapshot
range_at : (from count index : ℕ) → index < count → slice_get (range_with_len from count) index ≡ Some (from + index)
range_at from zero index inside = absurd (omega arith)
range_at from (suc count) zero inside = let e : from ≡ from + 0 = omega arith in ap Some e
range_at from (suc count) (suc index) inside = let e : from + 1 + index ≡ from + suc index = omega arith in range_at (from + 1) count index (omega arith) ∙ ap Some e

place_at : (table : Table) (type_index ordinal : ℕ) (max : Option ℕ) → ordinal < places_of max → slice_get (snapshot_places table type_index max) ordinal ≡ Some (row_at table type_index ordinal)
place_at table type_index ordinal max inside =
    let e : 0 + ordinal ≡ ordinal = omega arith in
    slice_get-map (row_at table type_index) (range_with_len 0 (places_of max)) ordinal
    ∙ ap (option_map (row_at table type_index)) (range_at 0 (places_of max) ordinal inside ∙ ap Some e)

pub has_place : (old new : Table) (type_index ordinal : ℕ) (max : Option ℕ) → IsGreatestOrdinal old new type_index max → IsLiveInEither old new type_index ordinal → ordinal < places_of max
has_place old new type_index ordinal None greatest live = absurd (greatest ordinal live)
has_place old new type_index ordinal (Some max) greatest live = omega (arith, greatest.1 ordinal live)

-- ---- the section

module _ (shape : Shape) (new : Table) (type_index : ℕ) (chosen : Chosen) (section : Section) (can : CanBeWritten shape new type_index chosen) (written : IsWritten shape new type_index chosen section) where
  both : AreBoth shape can.suits.old new type_index
  both = record { agree = can.suits.agree; keeps = can.suits.keeps; rows = can.suits.is.rows; few = can.few }

  live_place : (ordinal : ℕ) → IsLiveInEither can.suits.old new type_index ordinal → ordinal < places_of section.max
  live_place ordinal live = subst (λ (max : Option ℕ). ordinal < places_of max) (sym written.max) (has_place can.suits.old new type_index ordinal chosen.max can.suits.is.max live)

  packs : PacksPlaces shape section.widths (snapshot_places new type_index section.max) section.first section.second section.areas
  packs =
      subst (λ (widths : List ℕ). PacksPlaces shape widths (snapshot_places new type_index section.max) section.first section.second section.areas) (sym written.widths)
      (subst (λ (max : Option ℕ). PacksPlaces shape chosen.widths (snapshot_places new type_index max) section.first section.second section.areas) (sym written.max) written.packed)

  counts : AreCounted shape (snapshot_places new type_index section.max) section.total
  counts =
      subst (AreCounted shape (snapshot_places new type_index section.max)) (sym (written.total ∙ can.suits.is.total))
      (counted shape can.suits.old new type_index (range_with_len 0 (places_of section.max)) both (rise_all (places_of section.max)))

  pub section_is : SectionIs shape section (rows_in new type_index)
  section_is =
      record {
        live = sym written.live;
        places = subst (All (λ ordinal. ordinal < places_of section.max)) (sym written.live)
            (All-map (λ ordinal. ordinal < places_of section.max) (λ entry. entry.0) (entries (rows_in new type_index))
            (all_found (λ entry. entry.0 < places_of section.max) (rows_in new type_index) (λ ordinal row found. live_place ordinal (inr (ap is_some (sym (get_in new type_index ordinal) ∙ found))))));
        spelled = all_found (λ entry. Spells shape section entry.0 entry.1) (rows_in new type_index)
            (λ ordinal row found.
            let at = sym (get_in new type_index ordinal) ∙ found in
            let inside = live_place ordinal (inr (ap is_some at)) in
            spells_place shape section (snapshot_places new type_index section.max) ordinal row packs counts
            (place_at new type_index ordinal section.max inside ∙ ap Some at) (each_both can.suits.old new type_index can.suits.agree IsStored ordinal row can.stored at));
      }

-- ---- it can be read

wide : (shape : Shape) (old new : Table) (type_index : ℕ) (max : Option ℕ) → AreBoth shape old new type_index → IsGreatestOrdinal old new type_index max
    → AreWidths shape max (chosen_widths shape (rows_of_both old new type_index))
wide (Shape.Object key fields) old new type_index None are greatest = object.object_narrow key fields old new type_index (records key fields old new type_index are)
wide (Shape.Object key fields) old new type_index (Some max) are greatest =
    object.object_wide key fields old new type_index (records key fields old new type_index are) (λ empty. no_live old new type_index max are.agree empty greatest.0)
wide (Shape.List element) old new type_index max are greatest = (refl, list.narrow_list element old new type_index (elements element old new type_index are))
wide (Shape.Set element) old new type_index max are greatest = (refl, buckets.narrow_set (Shape.Set element) old new type_index (sets element old new type_index are))
wide (Shape.Map key value) old new type_index max are greatest = (refl, buckets.map_narrow key value old new type_index (maps key value old new type_index are))

filled : (shape : Shape) (widths : List ℕ) (places : List (Option Row)) (first second : List ℕ) (areas : List (List ℕ)) → PacksPlaces shape widths places first second areas → length areas ≡ length (shape_fields shape)
filled (Shape.Object key fields) widths places first second areas packs =
    ap (λ (a : List (List ℕ)). length a) packs.0.bytes ∙ length-map (enumerate_from 0 fields) _ ∙ length-enumerate_from 0 fields
filled (Shape.List element) widths places first second areas packs = ap (λ (a : List (List ℕ)). length a) packs.1
filled (Shape.Set element) widths places first second areas packs = ap (λ (a : List (List ℕ)). length a) packs.1
filled (Shape.Map key value) widths places first second areas packs = ap (λ (a : List (List ℕ)). length a) packs.1

enough : (shape : Shape) (rows : List Row) (places : List (Option Row)) (first second : List ℕ) (areas : List (List ℕ)) → PacksPlaces shape (chosen_widths shape rows) places first second areas
    → words_of (length places * place_bits shape (chosen_widths shape rows)) ≡ length first
enough (Shape.Object key fields) rows places first second areas packs = sym packs.0.words
enough (Shape.List element) rows places first second areas packs = sym packs.0.pointer_words
enough (Shape.Set element) rows places first second areas packs = sym packs.0.first_bits.long
enough (Shape.Map key value) rows places first second areas packs = sym packs.0.first_bits.long

few_words : (count width words : ℕ) → count ≤ 2 ^ 25 → width ≤ 128 → words ≡ words_of (count * width) → words < 2 ^ 58
few_words count width words few narrow is = let le : count * width ≤ 2 ^ 25 * 128 = mul-le-mul few narrow in omega arith

short : (shape : Shape) (old new : Table) (type_index : ℕ) (places : List (Option Row)) (first second : List ℕ) (areas : List (List ℕ)) → AreBoth shape old new type_index
    → AreCounted shape places (chosen_total shape (rows_of_both old new type_index)) → PacksPlaces shape (chosen_widths shape (rows_of_both old new type_index)) places first second areas → length second < 2 ^ 58
short (Shape.Object key fields) old new type_index places first second areas are counts packs = let none = ap (λ (ws : List ℕ). length ws) packs.1 in omega (arith, none)
short (Shape.List element) old new type_index places first second areas are counts packs =
    let narrow = list.narrow_list element old new type_index (elements element old new type_index are) 1 0 (omega arith) in
    few_words (length (elements_of_places places)) _ (length second) (omega (arith, counts, are.keeps.items)) (omega (arith, narrow)) packs.0.element_words
short (Shape.Set element) old new type_index places first second areas are counts packs =
    let narrow = buckets.narrow_set (Shape.Set element) old new type_index (sets element old new type_index are) 2 0 (omega arith) in
    few_words (bucket_total places) _ (length second) (omega (arith, counts, are.keeps.items)) (omega (arith, narrow)) packs.0.second_bits.long
short (Shape.Map key value) old new type_index places first second areas are counts packs =
    let narrow = buckets.map_narrow key value old new type_index (maps key value old new type_index are) in
    let third = narrow 2 0 (omega arith) in
    let fourth = narrow 3 0 (omega arith) in
    few_words (bucket_total places) _ (length second) (omega (arith, counts, are.keeps.items)) (omega (arith, third, fourth)) packs.0.second_bits.long

module _ (shape : Shape) (new : Table) (type_index : ℕ) (chosen : Chosen) (section : Section) (can : CanBeWritten shape new type_index chosen) (written : IsWritten shape new type_index chosen section) where
  chosen_here : section.widths ≡ chosen_widths shape (rows_of_both can.suits.old new type_index)
  chosen_here = written.widths ∙ can.suits.is.widths

  packs_here : PacksPlaces shape (chosen_widths shape (rows_of_both can.suits.old new type_index)) (snapshot_places new type_index section.max) section.first section.second section.areas
  packs_here =
      subst (λ (widths : List ℕ). PacksPlaces shape widths (snapshot_places new type_index section.max) section.first section.second section.areas) chosen_here
      (packs shape new type_index chosen section can written)

  places_long : length (snapshot_places new type_index section.max) ≡ places_of section.max
  places_long = length-map (range_with_len 0 (places_of section.max)) (row_at new type_index) ∙ length-range_with_len 0 (places_of section.max)

  pub section_readable : IsReadable shape section
  section_readable =
      let old = can.suits.old in
      let are = both shape new type_index chosen section can written in
      let rows = rows_of_both old new type_index in
      record {
        well = record {
          wide = subst (AreWidths shape section.max) (sym chosen_here)
              (subst (λ (max : Option ℕ). AreWidths shape max (chosen_widths shape rows)) (sym written.max) (wide shape old new type_index chosen.max are can.suits.is.max));
          filled = filled shape (chosen_widths shape rows) (snapshot_places new type_index section.max) section.first section.second section.areas packs_here;
          enough = subst (λ (widths : List ℕ). words_of (places_of section.max * place_bits shape widths) ≤ length section.first) (sym chosen_here)
              (subst (λ (count : ℕ). words_of (count * place_bits shape (chosen_widths shape rows)) ≤ length section.first) places_long
              (let is = enough shape rows (snapshot_places new type_index section.max) section.first section.second section.areas packs_here in omega (arith, is)));
          short = short shape old new type_index (snapshot_places new type_index section.max) section.first section.second section.areas are
              (counted shape old new type_index (range_with_len 0 (places_of section.max)) are (rise_all (places_of section.max))) packs_here;
        };
        many = can.few;
        few = subst (λ (max : Option ℕ). places_of max ≤ 2 ^ 22) (sym written.max) (places_few shape new type_index chosen can.suits);
        items = subst (λ (total : ℕ). total ≤ 2 ^ 25) (sym (written.total ∙ can.suits.is.total)) can.suits.keeps.items;
      }

-- ---- it holds the rows of both states

fits : (shape : Shape) (old new : Table) (type_index : ℕ) → AreBoth shape old new type_index → All IsStored (rows_of_both old new type_index)
    → All (FitsRow shape (chosen_widths shape (rows_of_both old new type_index)) (λ f. field_bytes f (rows_of_both old new type_index)) (item_count (rows_of_both old new type_index))) (rows_of_both old new type_index)
fits (Shape.Object key fields) old new type_index are stored = fits_object key fields old new type_index (records key fields old new type_index are) stored
fits (Shape.List element) old new type_index are stored = fits_list element old new type_index (elements element old new type_index are) (λ f. field_bytes f (rows_of_both old new type_index))
fits (Shape.Set element) old new type_index are stored = fits_set element old new type_index (sets element old new type_index are) (λ f. field_bytes f (rows_of_both old new type_index))
fits (Shape.Map key value) old new type_index are stored = fits_map key value old new type_index (maps key value old new type_index are) (λ f. field_bytes f (rows_of_both old new type_index))

-- rows that fit, and are no more than those of both
holds_rows : (shape : Shape) (widths : List ℕ) (all : List Row) (rows : RowMap) → All (FitsRow shape widths (λ f. field_bytes f all) (item_count all)) (rows_from 0 rows)
    → ((f : Row → ℕ) → sum_by f (rows_from 0 rows) ≤ sum_by f all) → HoldsRows shape widths [] (values rows)
holds_rows shape widths all rows fit le =
    subst (HoldsRows shape widths []) (values_all rows)
    (laid_out shape widths (λ f. field_bytes f all) (item_count all) [] (rows_from 0 rows) fit (λ f. le (part_bytes f)) (le items_of_row))

module _ (shape : Shape) (new : Table) (type_index : ℕ) (chosen : Chosen) (section : Section) (can : CanBeWritten shape new type_index chosen) (written : IsWritten shape new type_index chosen section) where
  fit_both : All (FitsRow shape section.widths (λ f. field_bytes f (rows_of_both can.suits.old new type_index)) (item_count (rows_of_both can.suits.old new type_index))) (rows_of_both can.suits.old new type_index)
  fit_both =
      subst (λ (widths : List ℕ). All (FitsRow shape widths (λ f. field_bytes f (rows_of_both can.suits.old new type_index)) (item_count (rows_of_both can.suits.old new type_index))) (rows_of_both can.suits.old new type_index))
      (sym (chosen_here shape new type_index chosen section can written))
      (fits shape can.suits.old new type_index (both shape new type_index chosen section can written) can.stored)

  pub section_holds : Holds shape (layout_of section) (rows_in new type_index)
  section_holds =
      let all = rows_of_both can.suits.old new type_index in
      record {
        parts = holds_rows shape section.widths all (rows_in new type_index)
            (all_in (FitsRow shape section.widths (λ f. field_bytes f all) (item_count all)) (rows_in new type_index)
            (λ ordinal row found. each_both can.suits.old new type_index can.suits.agree (FitsRow shape section.widths (λ f. field_bytes f all) (item_count all)) ordinal row fit_both (sym (get_in new type_index ordinal) ∙ found)))
            (λ f. sum_new f can.suits.old new type_index (2 ^ 22) can.suits.agree (λ ordinal row at. can.suits.keeps.ordinals ordinal (inr (ap is_some at))));
        places = All-map (λ ordinal. ordinal < places_of section.max) (λ entry. entry.0) (entries (rows_in new type_index))
            (all_found (λ entry. entry.0 < places_of section.max) (rows_in new type_index)
            (λ ordinal row found. live_place shape new type_index chosen section can written ordinal (inr (ap is_some (sym (get_in new type_index ordinal) ∙ found)))));
      }

  -- within the limit on words it loads
  pub section_loads : fixed_words shape (layout_of section) (values (rows_in new type_index)) ≤ 2 ^ 22 → Loads shape section (rows_in new type_index)
  section_loads few =
      record {
        is = section_is shape new type_index chosen section can written;
        held = section_holds;
        within = record { words = (let same = all_words shape (layout_of section) (values (rows_in new type_index)) in omega (arith, same, few)); bytes = subst (λ (rows : List Row). bytes_held rows ≤ 2 ^ 25) (values_all (rows_in new type_index)) can.suits.keeps.new_bytes };
      }

  pub section_holds_before : Holds shape (layout_of section) (rows_in can.suits.old type_index)
  section_holds_before =
      let old = can.suits.old in
      let all = rows_of_both old new type_index in
      record {
        parts = holds_rows shape section.widths all (rows_in old type_index)
            (all_left (FitsRow shape section.widths (λ f. field_bytes f all) (item_count all)) (rows_from 0 (rows_in old type_index)) _ fit_both)
            (λ f. sum_old f old new type_index);
        places = All-map (λ ordinal. ordinal < places_of section.max) (λ entry. entry.0) (entries (rows_in old type_index))
            (all_found (λ entry. entry.0 < places_of section.max) (rows_in old type_index)
            (λ ordinal row found. live_place shape new type_index chosen section can written ordinal (inl (ap is_some (sym (get_in old type_index ordinal) ∙ found)))));
      }

-- ---- the places of a delta

pub places_spell : (shape : Shape) (new : Table) (type_index : ℕ) (chosen : Chosen) (added : List ℕ) (section : Section) (place ordinal : ℕ) (row : Row) → CanBeWritten shape new type_index chosen
    → AreAdded new type_index added → ArePacked shape new type_index chosen added section → slice_get added place ≡ Some ordinal → row_at new type_index ordinal ≡ Some row → Spells shape section place row
places_spell shape new type_index chosen added section place ordinal row can are packed listed at =
    let old = can.suits.old in
    let known : AreBoth shape old new type_index = record { agree = can.suits.agree; keeps = can.suits.keeps; rows = can.suits.is.rows; few = can.few } in
    let there = slice_get-map (row_at new type_index) added place ∙ ap (option_map (row_at new type_index)) listed ∙ ap Some at in
    spells_place shape section (places_under new type_index added) place row
    (subst (λ (widths : List ℕ). PacksPlaces shape widths (places_under new type_index added) section.first section.second section.areas) (sym packed.widths) packed.packed)
    (subst (AreCounted shape (places_under new type_index added)) (sym (packed.total ∙ can.suits.is.total)) (counted shape old new type_index added known (rise_from added are.rising)))
    there (each_both old new type_index can.suits.agree IsStored ordinal row can.stored at)
