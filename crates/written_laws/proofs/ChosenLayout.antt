-- Lemmas on the layout that is chosen for a type: its kind may have the widths, packed places have words for them, and it holds the rows of the new state.
use Rattle.std.proofs.Common.{◌≡◌, ◌<◌, ◌*◌, ◌^◌, ℕ, List, [], length, Option, Some, None, refl, sym, ap, ◌∙◌, subst, inr, arith}
use Rattle.std.specs.Prelude.{All, is_some}
use Rattle.std.specs.FinMap.{keys}
use Rattle.bit_array.specs.Element.{words_of}
use Rattle.row_model.specs.declared.row.Row.{Row}
use Rattle.schema_model.specs.declared.schema.Field.{Field}
use Rattle.schema_model.specs.declared.schema.Shape.{Shape}
use Rattle.row_model.specs.Table.{Table, IsLive}
use Rattle.row_model.specs.BothStates.{rows_from, rows_in, rows_of_both}
use Rattle.row_model.proofs.RowsFrom.{get_in}
use Rattle.type_rows.specs.Holds.{FitsRow, Holds, HoldsRows}
use Rattle.type_rows.specs.Layout.{item_count, items_of_row, place_bits, places_of}
use Rattle.type_rows.specs.WellFormed.{AreWidths}
use Rattle.type_rows.specs.WordsHeld.{field_bytes, part_bytes}
use Rattle.row_packing.specs.Chosen.{IsGreatestOrdinal, chosen_widths}
use Rattle.row_packing.specs.Packs.{PacksPlaces}
use Rattle.row_packing.specs.Written.{IsStored}
use Rattle.row_packing.proofs.BucketPlaces.{AreRuns, narrow_set, map_narrow}
use Rattle.row_packing.proofs.FitsBoth.{fits_object, fits_list, fits_set, fits_map}
use Rattle.row_packing.proofs.Fitting.{laid_out}
use Rattle.row_packing.proofs.ListPlaces.{AreElements, narrow_list}
use Rattle.row_packing.proofs.LiveRows.{is_live}
use Rattle.row_packing.proofs.ObjectPlaces.{AreRecords, object_narrow, object_wide}
use Rattle.row_packing.proofs.RowsUnder.{all_in, each_both, sum_new, values_all}
use Rattle.row_packing.proofs.Suiting.{bytes_few, buckets_few, list_few, no_live}
use Rattle.row_packing.proofs.WrittenSections.{AreBoth}
use Rattle.blob_writing.proofs.OneDelta.{all_of}

-- ---- what the codecs know of the rows of both states

module _ (old new : Table) (index : ℕ) where
  records : (key : Option (List (List ℕ))) (fields : List Field) → AreBoth (Shape.Object key fields) old new index → AreRecords key fields old new index
  records key fields are = record { agree = are.agree; rows = are.rows; bytes = omega (arith, bytes_few (Shape.Object key fields) old new index are.keeps); few = are.few }

  elements : (element : List ℕ) → AreBoth (Shape.List element) old new index → AreElements element old new index
  elements element are = record { agree = are.agree; rows = are.rows; few = list_few element (rows_of_both old new index) are.keeps.items }

  sets : (element : List ℕ) → AreBoth (Shape.Set element) old new index → AreRuns (Shape.Set element) old new index
  sets element are = record { agree = are.agree; rows = are.rows; few = buckets_few (rows_of_both old new index) are.keeps.items }

  maps : (key value : List ℕ) → AreBoth (Shape.Map key value) old new index → AreRuns (Shape.Map key value) old new index
  maps key value are = record { agree = are.agree; rows = are.rows; few = buckets_few (rows_of_both old new index) are.keeps.items }

  -- ---- the widths

  pub chosen_wide : (shape : Shape) (max : Option ℕ) → AreBoth shape old new index → IsGreatestOrdinal old new index max → AreWidths shape max (chosen_widths shape (rows_of_both old new index))
  chosen_wide (Shape.Object key fields) None are greatest = object_narrow key fields old new index (records key fields are)
  chosen_wide (Shape.Object key fields) (Some max) are greatest = object_wide key fields old new index (records key fields are) (λ empty. no_live old new index max are.agree empty greatest.0)
  chosen_wide (Shape.List element) max are greatest = (refl, narrow_list element old new index (elements element are))
  chosen_wide (Shape.Set element) max are greatest = (refl, narrow_set (Shape.Set element) old new index (sets element are))
  chosen_wide (Shape.Map key value) max are greatest = (refl, map_narrow key value old new index (maps key value are))

  -- ---- the rows

  fits : (shape : Shape) → AreBoth shape old new index → All IsStored (rows_of_both old new index)
      → All (FitsRow shape (chosen_widths shape (rows_of_both old new index)) (λ f. field_bytes f (rows_of_both old new index)) (item_count (rows_of_both old new index))) (rows_of_both old new index)
  fits (Shape.Object key fields) are stored = fits_object key fields old new index (records key fields are) stored
  fits (Shape.List element) are stored = fits_list element old new index (elements element are) (λ f. field_bytes f (rows_of_both old new index))
  fits (Shape.Set element) are stored = fits_set element old new index (sets element are) (λ f. field_bytes f (rows_of_both old new index))
  fits (Shape.Map key value) are stored = fits_map key value old new index (maps key value are) (λ f. field_bytes f (rows_of_both old new index))

  -- a live ordinal of the new state has a place
  pub has_place : (max : Option ℕ) → IsGreatestOrdinal old new index max → (ordinal : ℕ) → IsLive new index ordinal → ordinal < places_of max
  has_place None greatest ordinal live = absurd (greatest ordinal (inr live))
  has_place (Some last) greatest ordinal live = let low = greatest.1 ordinal (inr live) in omega (arith, low)

  pub chosen_holds : (shape : Shape) (max : Option ℕ) → AreBoth shape old new index → All IsStored (rows_of_both old new index) → IsGreatestOrdinal old new index max
      → Holds shape (record { max = max; widths = chosen_widths shape (rows_of_both old new index) }) (rows_in new index)
  chosen_holds shape max are stored greatest =
      let both = rows_of_both old new index in
      let widths = chosen_widths shape both in
      let Fit = FitsRow shape widths (λ f. field_bytes f both) (item_count both) in
      let fit = all_in Fit (rows_in new index) (λ ordinal row found. each_both old new index are.agree Fit ordinal row (fits shape are stored) (sym (get_in new index ordinal) ∙ found)) in
      let no_more = λ (f : Row → ℕ). sum_new f old new index (2 ^ 22) are.agree (λ ordinal row at. are.keeps.ordinals ordinal (inr (ap is_some at))) in
      record {
        parts = subst (HoldsRows shape widths []) (values_all (rows_in new index))
            (laid_out shape widths (λ f. field_bytes f both) (item_count both) [] (rows_from 0 (rows_in new index)) fit (λ f. no_more (part_bytes f)) (no_more items_of_row));
        places = all_of (λ ordinal. ordinal < places_of max) (keys (rows_in new index)) (λ ordinal among. has_place max greatest ordinal (is_live new index ordinal among));
      }

-- ---- the words of packed places

pub packed_enough : (shape : Shape) (rows : List Row) (places : List (Option Row)) (first second : List ℕ) (areas : List (List ℕ)) → PacksPlaces shape (chosen_widths shape rows) places first second areas
    → words_of (length places * place_bits shape (chosen_widths shape rows)) ≡ length first
packed_enough (Shape.Object key fields) rows places first second areas packs = sym packs.0.words
packed_enough (Shape.List element) rows places first second areas packs = sym packs.0.pointer_words
packed_enough (Shape.Set element) rows places first second areas packs = sym packs.0.first_bits.long
packed_enough (Shape.Map key value) rows places first second areas packs = sym packs.0.first_bits.long
