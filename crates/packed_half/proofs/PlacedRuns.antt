-- Lemmas on sets and maps that are laid out: the widths hold those of all places, and what is written of them are the rows of the half.
use Rattle.std.proofs.Common.{◌≡◌, ℕ, ◌+◌, ◌-◌, ◌*◌, ◌^◌, ◌<◌, ◌≤◌, List, [], ◌∷◌, length, get_or, Option, Some, None, refl, sym, ap, ◌∙◌, subst, arith}
use Rattle.std.specs.Prelude.{All, sum_by, replicate}
use Rattle.std.specs.FinMap.{get, values}
use Rattle.std.proofs.Math.Nat.{mul-le-mul_right}
use Rattle.std.proofs.lemmas.List.{length-map, length-replicate}
use Rattle.std.proofs.lemmas.List.Elements.{All-map}
use Rattle.bit_array.specs.Element.{words_of}
use Rattle.schema_model.specs.declared.schema.Shape.{Shape}
use Rattle.row_model.specs.declared.row.Row.{Row}
use Rattle.row_model.specs.Row.{FitsShape}
use Rattle.row_model.specs.Table.{RowMap}
use Rattle.bucket_codec.specs.BucketCount.{bucket_count}
use Rattle.bucket_codec.specs.BucketPlace.{pointer_width, size_width, key_width, value_width, place_width, bucket_width, start_at, IsWidthCount}
use Rattle.bucket_codec.specs.Packed.{set_pair, pairs_of, buckets_of, bucket_total, HoldsRow as HoldsParts, IsPackableRow, PacksPairs, PacksPlace}
use Rattle.type_rows.specs.Ends.{IsOfKind}
use Rattle.type_rows.specs.Holds.{FitsRow, HoldsRow}
use Rattle.type_rows.specs.Layout.{places_of, place_bits, item_bits, items_of_row, item_count}
use Rattle.type_rows.specs.Loads.{Spells}
use Rattle.packed_half.specs.declared.half.HalfShape.{HalfShape}
use Rattle.packed_half.specs.LaidOut.{IsTight}
use Rattle.packed_half.specs.Laying.{CanLay, ArePlaced, HasRuns, HasRunRoom, places_in, parts_in}
use Rattle.packed_half.proofs.Holding.{each_held, all_held, none_below}
use Rattle.packed_half.proofs.RowPlaces.{all_values, at_place, place_or, placed_in, places_long, row_of, sum_places, sum_where, values_places}
use Rattle.packed_half.proofs.RunsKept.{IsBegun, begun_all, packs_place, within_total, writable}

-- ---- the widths

-- what the widths of a kind with runs are
pub record RunWidths (shape : Shape) (widths : List ℕ) : Type 0 where
  pub counted : IsWidthCount shape (length widths)
  pub three : 3 ≤ length widths
  pub narrow : All (λ width. width ≤ 64) widths
  pub place : place_bits shape widths ≡ place_width widths
  pub item : item_bits shape widths ≡ bucket_width widths

pub set_widths : (element : List ℕ) (widths : List ℕ) → length widths ≡ 3 → All (λ width. width ≤ 64) widths → RunWidths (Shape.Set element) widths
set_widths element (pointer ∷ size ∷ key ∷ []) three narrow = record { counted = refl; three = omega arith; narrow = narrow; place = refl; item = omega arith }
set_widths element (pointer ∷ size ∷ key ∷ value ∷ rest) three narrow = absurd (omega arith)
set_widths element (pointer ∷ size ∷ []) three narrow = absurd (omega arith)
set_widths element (pointer ∷ []) three narrow = absurd (omega arith)
set_widths element [] three narrow = absurd (omega arith)

pub map_widths : (key value : List ℕ) (widths : List ℕ) → length widths ≡ 4 → All (λ width. width ≤ 64) widths → RunWidths (Shape.Map key value) widths
map_widths key value (p ∷ s ∷ k ∷ v ∷ []) four narrow = record { counted = refl; three = omega arith; narrow = narrow; place = refl; item = refl }
map_widths key value (p ∷ s ∷ k ∷ v ∷ w ∷ rest) four narrow = absurd (omega arith)
map_widths key value (p ∷ s ∷ k ∷ []) four narrow = absurd (omega arith)
map_widths key value (p ∷ s ∷ []) four narrow = absurd (omega arith)
map_widths key value (p ∷ []) four narrow = absurd (omega arith)
map_widths key value [] four narrow = absurd (omega arith)

pub run_widths : (shape : Shape) (half : HalfShape) (rows : RowMap) → HasRuns shape → CanLay shape half rows → RunWidths shape half.widths
run_widths (Shape.Set element) half rows runs can = set_widths element half.widths can.wide.0 can.wide.1
run_widths (Shape.Map key value) half rows runs can = map_widths key value half.widths can.wide.0 can.wide.1
run_widths (Shape.List element) half rows runs can = absurd runs
run_widths (Shape.Object key fields) half rows runs can = absurd runs

-- ---- what the widths hold of a row

pub row_items : (shape : Shape) (row : Row) → HasRuns shape → FitsShape shape row → bucket_count (length (pairs_of row)) ≡ items_of_row row
row_items (Shape.Set element) (Row.Set ordinals) runs fits = ap bucket_count (length-map ordinals set_pair)
row_items (Shape.Map key value) (Row.Map pairs) runs fits = refl
row_items (Shape.Set element) (Row.Object values) runs fits = absurd fits
row_items (Shape.Set element) (Row.List ordinals) runs fits = absurd fits
row_items (Shape.Set element) (Row.Map pairs) runs fits = absurd fits
row_items (Shape.Map key value) (Row.Object values) runs fits = absurd fits
row_items (Shape.Map key value) (Row.List ordinals) runs fits = absurd fits
row_items (Shape.Map key value) (Row.Set ordinals) runs fits = absurd fits
row_items (Shape.List element) row runs fits = absurd runs
row_items (Shape.Object key fields) row runs fits = absurd runs

parts_hold : (shape : Shape) (widths : List ℕ) (ends : ℕ → ℕ) (items : ℕ) (row : Row) → HasRuns shape → FitsRow shape widths ends items row → IsOfKind shape row → HoldsParts widths row
parts_hold (Shape.Set element) widths ends items (Row.Set ordinals) runs held kind =
    record {
      keys = All-map (λ (pair : ℕ × ℕ). pair.0 < 2 ^ key_width widths - 1) set_pair ordinals held.elements;
      values = All-map (λ (pair : ℕ × ℕ). pair.1 < 2 ^ value_width widths) set_pair ordinals (λ k d inside. none_below (value_width widths));
      size = subst (λ (n : ℕ). n < 2 ^ size_width widths) (sym (length-map ordinals set_pair)) held.size;
      few = subst (λ (n : ℕ). n < 2 ^ 32) (sym (length-map ordinals set_pair)) kind;
    }
parts_hold (Shape.Map key value) widths ends items (Row.Map pairs) runs held kind =
    record { keys = λ k d inside. (held.parts k d inside).0; values = λ k d inside. (held.parts k d inside).1; size = held.size; few = kind }
parts_hold (Shape.Set element) widths ends items (Row.Object values) runs held kind = absurd held
parts_hold (Shape.Set element) widths ends items (Row.List ordinals) runs held kind = absurd held
parts_hold (Shape.Set element) widths ends items (Row.Map pairs) runs held kind = absurd held
parts_hold (Shape.Map key value) widths ends items (Row.Object values) runs held kind = absurd held
parts_hold (Shape.Map key value) widths ends items (Row.List ordinals) runs held kind = absurd held
parts_hold (Shape.Map key value) widths ends items (Row.Set ordinals) runs held kind = absurd held
parts_hold (Shape.List element) widths ends items row runs held kind = absurd runs
parts_hold (Shape.Object key fields) widths ends items row runs held kind = absurd runs

pointer_holds : (shape : Shape) (widths : List ℕ) (rows : List Row) (row : Row) → HasRuns shape → FitsShape shape row → HoldsRow shape widths rows row → item_count rows < 2 ^ pointer_width widths
pointer_holds (Shape.Set element) widths rows (Row.Set ordinals) runs fits held = held.pointer
pointer_holds (Shape.Map key value) widths rows (Row.Map pairs) runs fits held = held.pointer
pointer_holds (Shape.Set element) widths rows (Row.Object values) runs fits held = absurd fits
pointer_holds (Shape.Set element) widths rows (Row.List ordinals) runs fits held = absurd fits
pointer_holds (Shape.Set element) widths rows (Row.Map pairs) runs fits held = absurd fits
pointer_holds (Shape.Map key value) widths rows (Row.Object values) runs fits held = absurd fits
pointer_holds (Shape.Map key value) widths rows (Row.List ordinals) runs fits held = absurd fits
pointer_holds (Shape.Map key value) widths rows (Row.Set ordinals) runs fits held = absurd fits
pointer_holds (Shape.List element) widths rows row runs fits held = absurd runs
pointer_holds (Shape.Object key fields) widths rows row runs fits held = absurd runs

abbrev row_buckets : Row → ℕ
row_buckets row = bucket_count (length (pairs_of row))

buckets_here : (row : Option Row) → buckets_of row ≡ at_place row_buckets row
buckets_here None = refl
buckets_here (Some row) = refl

module _ (shape : Shape) (half : HalfShape) (rows : RowMap) (runs : HasRuns shape) (can : CanLay shape half rows) where
  pub buckets_are : bucket_total (places_in rows (places_of half.max)) ≡ half.total
  buckets_are =
      sum_places row_buckets buckets_of buckets_here (places_in rows (places_of half.max))
      ∙ ap (λ (rs : List Row). sum_by row_buckets rs) (sym (values_places rows (places_of half.max) can.held.places))
      ∙ sum_where (FitsShape shape) row_buckets items_of_row (values rows) (λ row fits. row_items shape row runs fits) (all_values (FitsShape shape) rows can.fits)
      ∙ sym can.total

  widths_are : RunWidths shape half.widths
  widths_are = run_widths shape half rows runs can

  packable_row : (o : ℕ) (row : Option Row) → get rows o ≡ row → IsPackableRow shape half.widths row
  packable_row o None is = tt
  packable_row o (Some row) is = (
    can.fits o row is,
    row_of (λ r. IsOfKind shape r → HoldsParts half.widths r) rows o row
        (each_held shape half.widths (λ r. IsOfKind shape r → HoldsParts half.widths r) (λ ends items r held kind. parts_hold shape half.widths ends items r runs held kind) [] (values rows) can.held.parts)
        is (can.kinds o row is),
  )

  pointers : half.total < 2 ^ pointer_width half.widths
  pointers =
      subst (λ (n : ℕ). n < 2 ^ pointer_width half.widths) (sym can.total)
      (all_held shape half.widths (FitsShape shape) (λ rs. item_count rs < 2 ^ pointer_width half.widths) (λ rs row fits held. pointer_holds shape half.widths rs row runs fits held) [] (values rows)
      (none_below (pointer_width half.widths)) (all_values (FitsShape shape) rows can.fits) can.held.parts)

  -- the words are so many
  run_words : (first second : List ℕ) → first ≡ replicate (words_of (places_of half.max * place_width half.widths)) 0 → second ≡ replicate (words_of (half.total * bucket_width half.widths)) 0
      → (length first ≡ words_of (places_of half.max * place_width half.widths)) × (length second ≡ words_of (half.total * bucket_width half.widths)) × (length second < 2 ^ 58)
  run_words first second zeros second_zeros =
      let long = ap (λ (ws : List ℕ). length ws) zeros ∙ length-replicate (words_of (places_of half.max * place_width half.widths)) 0 in
      let second_long = ap (λ (ws : List ℕ). length ws) second_zeros ∙ length-replicate (words_of (half.total * bucket_width half.widths)) 0 in
      let there = ap (λ (n : ℕ). words_of (half.total * n)) widths_are.item in
      (long, second_long, omega (arith, can.room, second_long, there))

  -- a place can be written
  pub run_room : (first0 second0 first second : List ℕ) (place end : ℕ) → first0 ≡ replicate (words_of (places_of half.max * place_width half.widths)) 0
      → second0 ≡ replicate (words_of (half.total * bucket_width half.widths)) 0 → IsBegun half.widths (places_in rows (places_of half.max)) first0 second0 first second place end → place < places_of half.max
      → HasRunRoom half.widths first second place end (get rows place)
  run_room first0 second0 first second place end zeros second_zeros begun inside =
      let places = places_in rows (places_of half.max) in
      let all = places_long rows (places_of half.max) in
      let row = get rows place in
      let at : row ≡ get_or places place None = place_or rows (places_of half.max) place None inside in
      let long = run_words first0 second0 zeros second_zeros in
      let within : end + buckets_of row ≤ bucket_total places = within_total places place end row (omega arith) at begun.ends in
      let few = can.few in
      let first_long = begun.long in
      let second_long = begun.wide in
      let below = pointers in
      let total = buckets_are in
      let up : (place + 1) * place_width half.widths ≤ places_of half.max * place_width half.widths = mul-le-mul_right (place_width half.widths) (let h : place + 1 ≤ places_of half.max = omega arith in h) in
      let bits = ap (λ (n : ℕ). n * bucket_width half.widths) buckets_are in
      record {
        three = widths_are.three;
        holds = record { narrow = widths_are.narrow; within = omega (arith, up, long.0, first_long); below = omega arith };
        writable = writable shape half.widths (length half.widths) row widths_are.counted (packable_row place row refl);
        starts = begun.starts;
        pointer = omega arith;
        inside =
            let up : (end + buckets_of row) * bucket_width half.widths ≤ bucket_total places * bucket_width half.widths = mul-le-mul_right (bucket_width half.widths) within in
            omega (arith, up, bits, long.1, second_long);
        bits = omega (arith, long.2, second_long);
      }

  -- all places are written
  pub runs_done : (first0 second0 first second : List ℕ) (place end : ℕ) → IsBegun half.widths (places_in rows (places_of half.max)) first0 second0 first second place end → place ≡ places_of half.max
      → (o : ℕ) → o < places_of half.max → PacksPairs half.widths half.total first second o (get rows o)
  runs_done first0 second0 first second place end begun all o inside =
      let places = places_in rows (places_of half.max) in
      let long = places_long rows (places_of half.max) in
      let total : end ≡ half.total = begun_all half.widths places first0 second0 first second place end (omega arith) begun ∙ buckets_are in
      subst (λ (n : ℕ). PacksPairs half.widths n first second o (get rows o)) total
      (subst (λ (r : Option Row). PacksPairs half.widths end first second o r) (sym (place_or rows (places_of half.max) o None inside)) (begun.packs o (omega arith)))

  pub place_packed : (first second : List ℕ) → ((o : ℕ) → o < places_of half.max → PacksPairs half.widths half.total first second o (get rows o)) → (place : ℕ) → place < places_of half.max
      → PacksPlace shape half.widths half.total first second place (get rows place)
  place_packed first second pairs place inside =
      packs_place shape half.widths (length half.widths) half.total first second place (get rows place) widths_are.counted (packable_row place (get rows place) refl) (pairs place inside)

runs_spelled : (shape : Shape) (half : HalfShape) (rows : RowMap) → HasRuns shape → (first second : List ℕ) (areas : List (List ℕ)) (place : ℕ) (row : Row)
    → PacksPlace shape half.widths half.total first second place (Some row) → Spells shape (parts_in half first second areas) place row
runs_spelled (Shape.Set element) half rows runs first second areas place row h = h.1
runs_spelled (Shape.Map key value) half rows runs first second areas place row h = h.1
runs_spelled (Shape.List element) half rows runs first second areas place row h = absurd runs
runs_spelled (Shape.Object key fields) half rows runs first second areas place row h = absurd runs

runs_tight : (shape : Shape) (half : HalfShape) (rows : RowMap) → HasRuns shape → (first second : List ℕ) (areas : List (List ℕ)) (place : ℕ) (row : Option Row)
    → ((found : Row) → row ≡ Some found → FitsShape shape found) → PacksPlace shape half.widths half.total first second place row → IsTight shape (parts_in half first second areas) place row
runs_tight (Shape.Set element) half rows runs first second areas place None fits h = h
runs_tight (Shape.Set element) half rows runs first second areas place (Some row) fits h = h.0 ∙ ap (λ (n : ℕ). start_at half.widths first place + n) (row_items (Shape.Set element) row runs (fits row refl))
runs_tight (Shape.Map key value) half rows runs first second areas place None fits h = h
runs_tight (Shape.Map key value) half rows runs first second areas place (Some row) fits h = h.0 ∙ ap (λ (n : ℕ). start_at half.widths first place + n) (row_items (Shape.Map key value) row runs (fits row refl))
runs_tight (Shape.List element) half rows runs first second areas place row fits h = absurd runs
runs_tight (Shape.Object key fields) half rows runs first second areas place row fits h = absurd runs

-- what is written of all places are the rows of the half
pub runs_placed : (shape : Shape) (half : HalfShape) (rows : RowMap) → HasRuns shape → CanLay shape half rows → (first second : List ℕ) (areas : List (List ℕ))
    → ((o : ℕ) → o < places_of half.max → PacksPairs half.widths half.total first second o (get rows o)) → ArePlaced shape half rows first second areas
runs_placed shape half rows runs can first second areas pairs =
    record {
      spelled = λ ordinal row found.
          runs_spelled shape half rows runs first second areas ordinal row
          (subst (λ (r : Option Row). PacksPlace shape half.widths half.total first second ordinal r) found
          (place_packed shape half rows runs can first second pairs ordinal (placed_in rows (places_of half.max) ordinal row can.held.places found)));
      tight = λ place inside.
          runs_tight shape half rows runs first second areas place (get rows place) (λ row is. can.fits place row is) (place_packed shape half rows runs can first second pairs place inside);
    }
