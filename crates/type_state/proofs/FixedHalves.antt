-- Halves of OBJECT types without STRING and BYTES: their records are those of their rows, and records that are those of rows make up a half.
use Rattle.std.proofs.Common.{◌≡◌, ℕ, suc, ◌+◌, ◌-◌, ◌*◌, ◌/◌, ◌^◌, ◌<◌, ◌≤◌, ◌++◌, inl, inr, min, List, [], ◌∷◌, length, get_or, take, drop, Option, None, Some, refl, ap, sym, subst, ◌∙◌, arith}
use Rattle.std.specs.Prelude.{IsSome, is_some, replicate, sum}
use Rattle.std.specs.List.{AllZip}
use Rattle.std.specs.FinMap.{entries, get, get-entries, keys, values}
use Rattle.std.proofs.lemmas.Bool.{cases_lt}
use Rattle.std.proofs.lemmas.List.{drop-replicate, get_or-map, length-append, length-map, length-replicate, length-take-le, take-append-drop, take-replicate, take-take}
use Rattle.std.proofs.lemmas.List.Elements.{All-contains}
use Rattle.std.proofs.lemmas.List.FromFn.{length-map-range_with_len}
use Rattle.std.proofs.Math.Nat.{mul-le-mul_right}
use Rattle.std.proofs.Math.Seq.{drop-append-add, take-append-add}
use Rattle.schema_model.specs.declared.schema.Field.{Field}
use Rattle.schema_model.specs.declared.schema.Shape.{Shape}
use Rattle.schema_model.specs.Parts.{shape_fields}
use Rattle.row_model.specs.declared.row.Row.{Row}
use Rattle.row_model.specs.Table.{RowMap}
use Rattle.object_codec.specs.ObjectPlace.{IsFieldWidth, IsObject, SpellsObjectRow}
use Rattle.object_codec.specs.Packing.{PacksPlace}
use Rattle.record_copies.specs.Fixed.{AreFixed, HasFront, record_at, whole_words}
use Rattle.record_copies.proofs.RecordBits.{empty_place}
use Rattle.packed_half.specs.declared.half.HalfShape.{HalfShape}
use Rattle.packed_half.specs.Half.{areas_in, behind_items, item_words, place_words, section_in, words_for, words_for_bytes}
use Rattle.packed_half.specs.LaidOut.{IsLaidOut, IsTight, lengths_of}
use Rattle.packed_half.specs.Laying.{ArePlaced, CanLay, parts_in}
use Rattle.packed_half.proofs.Parted.{IsCut, cut_zeros, whole}
use Rattle.type_rows.specs.Layout.{places_of}
use Rattle.type_rows.specs.Loads.{Spells}
use Rattle.type_rows.specs.WellFormed.{IsWidth}
use Rattle.type_rows.proofs.Entries.{entries_rise}
use Rattle.type_rows.proofs.Places.{wide_long}
use Rattle.type_rows.proofs.Rising.{none_is_not}
use Rattle.type_state.specs.Kept.{IsHalf, IsPacked, half_rows}
use Rattle.type_state.specs.Recorded.{AreRecorded, HasPlaces, copied_words, kept_words}
use Rattle.type_state.proofs.Halves.{not_there}
use Rattle.type_state.proofs.LiveSets.{live_key}
use Rattle.type_state.proofs.Lookups.{found_at}
use Rattle.type_state.proofs.RecordedRows.{moved_place}

pub areas_long : (words lengths : List ℕ) → length (areas_in words lengths) ≡ length lengths
areas_long words [] = refl
areas_long words (count ∷ rest) = ap (λ n. suc n) (areas_long (drop (words_for_bytes count) words) rest)

-- There is an area for each field.
pub lengths_long : (shape : Shape) (half : HalfShape) (rows : RowMap) → half.lengths ≡ lengths_of shape (values rows) → length half.lengths ≡ length (shape_fields shape)
lengths_long shape half rows is = ap length is ∙ length-map-range_with_len _ 0 (length (shape_fields shape))

-- ---- the records of a half

-- The place of a row spells it.
spells_there : (shape : Shape) (half : HalfShape) (words : List ℕ) → IsPacked shape half words → (o : ℕ) (row : Row) → get (half_rows shape half words) o ≡ Some row → Spells shape (section_in shape half words) o row
spells_there shape half words p o row at =
    let rows = half_rows shape half words in
    let es = entries rows in
    let key = live_key rows o (ap is_some at) in
    let d : ℕ × Row = (o, row) in
    let long = length-map es (λ (f : ℕ × Row). f.0) in
    let inside : key.0 < length es = omega (arith, long, key.1) in
    let mapped = get_or-map (λ (f : ℕ × Row). f.0) es key.0 d o inside in
    let same : (get_or es key.0 d).0 ≡ o = sym mapped ∙ key.2 in
    let found : Some (get_or es key.0 d).1 ≡ Some row = sym (get-entries rows o ∙ found_at 0 es o key.0 d (entries_rise rows) inside same) ∙ at in
    let value : (get_or es key.0 d).1 ≡ row = cc in
    subst (λ r. Spells shape (section_in shape half words) o r) value (subst (λ q. Spells shape (section_in shape half words) q (get_or es key.0 d).1) same (p.laid.is.spelled key.0 d inside))

packed_object : (key : Option (List (List ℕ))) (fields : List Field) (half : HalfShape) (words : List ℕ) → IsPacked (Shape.Object key fields) half words → (place : ℕ) → place < places_of half.max → (slot : Option Row) → get (half_rows (Shape.Object key fields) half words) place ≡ slot
    → PacksPlace (Shape.Object key fields) half.widths (section_in (Shape.Object key fields) half words).first (section_in (Shape.Object key fields) half words).areas place slot
packed_object key fields half words p place inside None is = subst (IsTight (Shape.Object key fields) (section_in (Shape.Object key fields) half words) place) is (p.laid.tight place inside)
packed_object key fields half words p place inside (Some row) is =
    subst (SpellsObjectRow (Shape.Object key fields) half.widths (section_in (Shape.Object key fields) half words).first (section_in (Shape.Object key fields) half words).areas place) (sym (p.can.stored place row is))
    (spells_there (Shape.Object key fields) half words p place row is)

pub packed_place : (shape : Shape) (half : HalfShape) (words : List ℕ) → IsObject shape → IsPacked shape half words → (place : ℕ) → place < places_of half.max
    → PacksPlace shape half.widths (section_in shape half words).first (section_in shape half words).areas place (get (half_rows shape half words) place)
packed_place (Shape.Object key fields) half words object p place inside = packed_object key fields half words p place inside (get (half_rows (Shape.Object key fields) half words) place) refl
packed_place (Shape.List element) half words object p place inside = absurd object
packed_place (Shape.Set element) half words object p place inside = absurd object
packed_place (Shape.Map key value) half words object p place inside = absurd object

-- Records that are copied are those of the same rows.
pub copied : (shape : Shape) (half : HalfShape) (words widths from to : List ℕ) (before places : ℕ) → IsObject shape → AreFixed (shape_fields shape) → length widths ≡ length (shape_fields shape) → IsPacked shape half words → widths ≡ half.widths → before ≡ places_of half.max
    → from ≡ (section_in shape half words).first → ((place : ℕ) → place < min before places → record_at widths to place ≡ record_at widths from place) → ((place : ℕ) → min before places ≤ place → record_at widths to place ≡ 0)
    → AreRecorded shape widths to places (half_rows shape half words)
copied shape half words widths from to before places object fixed wide p is count first same clear areas long place inside =
    let rows = half_rows shape half words in
    let section = section_in shape half words in
    elim (cases_lt place (places_of half.max)) [
      | inl low ↦
          let here : PacksPlace shape widths from section.areas place (get rows place) =
          subst (λ w. PacksPlace shape w from section.areas place (get rows place)) (sym is) (subst (λ f. PacksPlace shape half.widths f section.areas place (get rows place)) (sym first) (packed_place shape half words object p place low)) in
          moved_place shape widths from to section.areas areas place (get rows place) fixed (areas_long (behind_items shape half words) half.lengths ∙ lengths_long shape half rows p.laid.lengths ∙ sym long) (sym (same place (omega (arith, count, low, inside)))) here
      | inr high ↦
          let out : get rows place ≡ None = not_there shape half words place (λ at. let low = All-contains (λ m. m < places_of half.max) half.live place p.laid.is.places at in omega (arith, low, high)) in
          subst (PacksPlace shape widths to areas place) (sym out) (empty_place shape widths to areas place fixed wide long (clear place (omega (arith, count, high))))
    ]

-- ---- a half of records

pub field_widths : (max : Option ℕ) (fields : List Field) (widths : List ℕ) → 0 < places_of max → AllZip (λ (field : Field) width. IsWidth max field.kind width) fields widths → AllZip IsFieldWidth fields widths
field_widths None fields widths some h = absurd (omega (arith, some))
field_widths (Some max) fields widths some h = h

object_places : (shape : Shape) (half : HalfShape) (rows : RowMap) (first : List ℕ) → IsObject shape → AreFixed (shape_fields shape) → CanLay shape half rows → length first ≡ place_words shape half → HasPlaces shape half.widths first (places_of half.max)
object_places (Shape.Object key fields) half rows first object fixed can long =
    let few = can.room in
    let words : place_words (Shape.Object key fields) half ≡ (places_of half.max * sum half.widths + 63) / 64 = refl in
    record {
      object = tt;
      fixed = fixed;
      few = can.many;
      long = wide_long (Shape.Object key fields) half.max half.widths can.wide;
      wide = λ some. field_widths half.max fields half.widths some can.wide;
      within = omega (arith, long, words);
      counted = omega (arith, few, words);
      below = omega (arith, can.few);
    }
object_places (Shape.List element) half rows first object fixed can long = absurd object
object_places (Shape.Set element) half rows first object fixed can long = absurd object
object_places (Shape.Map key value) half rows first object fixed can long = absurd object

pub has_places : (shape : Shape) (half : HalfShape) (rows : RowMap) (first widths : List ℕ) (places : ℕ) → IsObject shape → AreFixed (shape_fields shape) → CanLay shape half rows → length first ≡ place_words shape half → widths ≡ half.widths → places ≡ places_of half.max
    → HasPlaces shape widths first places
has_places shape half rows first widths places object fixed can long is count =
    subst (λ n. HasPlaces shape widths first n) (sym count) (subst (λ w. HasPlaces shape w first (places_of half.max)) (sym is) (object_places shape half rows first object fixed can long))

placed_object : (key : Option (List (List ℕ))) (fields : List Field) (half : HalfShape) (rows : RowMap) (first second : List ℕ) (areas : List (List ℕ)) → CanLay (Shape.Object key fields) half rows → AreRecorded (Shape.Object key fields) half.widths first (places_of half.max) rows
    → length areas ≡ length fields → ArePlaced (Shape.Object key fields) half rows first second areas
placed_object key fields half rows first second areas can are long = record {
  spelled = λ o row at.
      (let inside = All-contains (λ m. m < places_of half.max) (keys rows) o can.held.places (live_key rows o (ap is_some at)) in
      subst (SpellsObjectRow (Shape.Object key fields) half.widths first areas o) (can.stored o row at) (subst (PacksPlace (Shape.Object key fields) half.widths first areas o) at (are areas long o inside)));
  tight = λ place inside. tight (get rows place) place (are areas long place inside);
}
  where
    tight : (slot : Option Row) (place : ℕ) → PacksPlace (Shape.Object key fields) half.widths first areas place slot → IsTight (Shape.Object key fields) (parts_in half first second areas) place slot
    tight None place h = h
    tight (Some row) place h = tt

placed_records : (shape : Shape) (half : HalfShape) (rows : RowMap) (first second : List ℕ) (areas : List (List ℕ)) → IsObject shape → CanLay shape half rows → AreRecorded shape half.widths first (places_of half.max) rows → length areas ≡ length (shape_fields shape)
    → ArePlaced shape half rows first second areas
placed_records (Shape.Object key fields) half rows first second areas object can are long = placed_object key fields half rows first second areas can are long
placed_records (Shape.List element) half rows first second areas object can are long = absurd object
placed_records (Shape.Set element) half rows first second areas object can are long = absurd object
placed_records (Shape.Map key value) half rows first second areas object can are long = absurd object

-- ---- words of which the first ones stand already

-- The words of the places of such a type are as many as its records take.
place_words_of : (shape : Shape) (half : HalfShape) → IsObject shape → place_words shape half ≡ (places_of half.max * sum half.widths + 63) / 64
place_words_of (Shape.Object key fields) half object = refl
place_words_of (Shape.List element) half object = absurd object
place_words_of (Shape.Set element) half object = absurd object
place_words_of (Shape.Map key value) half object = absurd object

-- How many words are copied: no more than either half has.
pub record AreFew (shape : Shape) (before after : HalfShape) (words : List ℕ) : Type 0 where
  pub counted : places_of before.max * sum after.widths < 2 ^ 64
  pub within : kept_words before after ≤ place_words shape after
  pub standing : kept_words before after ≤ place_words shape before
  pub long : place_words shape before ≤ length words

pub few_copied : (shape : Shape) (before after : HalfShape) (words : List ℕ) → IsObject shape → IsPacked shape before words → after.widths ≡ before.widths → AreFew shape before after words
few_copied shape before after words object p same =
    let size = sum after.widths in
    let there = places_of before.max in
    let here = places_of after.max in
    let size_before : sum before.widths ≡ size = ap (λ (w : List ℕ). sum w) (sym same) in
    let bits : there * sum before.widths ≡ there * size = ap (λ n. there * n) size_before in
    let few = p.can.room in
    let words_before = place_words_of shape before object in
    let words_after = place_words_of shape after object in
    let below : min there here ≤ there = omega arith in
    let below' : min there here ≤ here = omega arith in
    let first : min there here * size ≤ there * size = mul-le-mul_right size below in
    let second : min there here * size ≤ here * size = mul-le-mul_right size below' in
    record {
      counted = omega (arith, few, words_before, bits);
      within = omega (arith, words_after, second);
      standing = omega (arith, words_before, bits, first);
      long = omega (arith, p.laid.long);
    }

-- The words of the places are zeros, as many as they take.
zeros_cut : (shape : Shape) (half : HalfShape) (words first behind : List ℕ) (count : ℕ) → words ≡ replicate (words_for shape half) 0 → count ≡ place_words shape half → first ≡ take count words → behind ≡ drop count words
    → IsCut shape half first (take (item_words shape half) behind) (drop (item_words shape half) behind)
zeros_cut shape half words first behind count zeros is front back = cut_zeros shape half words first behind (take (item_words shape half) behind) (drop (item_words shape half) behind) count (item_words shape half) zeros is refl front back refl refl

-- The words of the places, whose first ones stand already, and those behind them.
pub record IsFronted (shape : Shape) (before after : HalfShape) (words first behind : List ℕ) : Type 0 where
  pub cut : IsCut shape after (replicate (place_words shape after) 0) (take (item_words shape after) behind) (drop (item_words shape after) behind)
  pub long : length first ≡ place_words shape after
  pub front : HasFront (kept_words before after) words first

pub front_cut : (shape : Shape) (before after : HalfShape) (from words first behind : List ℕ) (count : ℕ) → AreFew shape before after from → words ≡ copied_words shape before after from → count ≡ place_words shape after → first ≡ take count words → behind ≡ drop count words
    → IsFronted shape before after from first behind
front_cut shape before after from words first behind count few is count_is front back =
    let kept = kept_words before after in
    let places = place_words shape after in
    let all = words_for shape after in
    let zeros : List ℕ = replicate (all - kept) 0 in
    let copied = take kept from in
    let more : places ≤ all = omega arith in
    let many : length copied ≡ kept = length-take-le kept from (omega (arith, few.standing, few.long)) in
    let split : places ≡ length copied + (places - kept) = omega (arith, many, few.within) in
    let cut : take count words ≡ copied ++ take (places - kept) zeros =
    (λ i. take (count_is i) (is i)) ∙ ap (λ n. take n (copied ++ zeros)) split ∙ take-append-add copied zeros (places - kept) in
    let cut_zeros : take (places - kept) zeros ≡ replicate (places - kept) 0 = take-replicate (places - kept) (all - kept) 0 (omega (arith, more)) in
    let first_is : first ≡ copied ++ replicate (places - kept) 0 = front ∙ cut ∙ ap (λ (ws : List ℕ). copied ++ ws) cut_zeros in
    let zeros_long : length {A = ℕ} (replicate (places - kept) 0) ≡ places - kept = length-replicate (places - kept) 0 in
    let all_of_them : length copied + length {A = ℕ} (replicate (places - kept) 0) ≡ places = omega (arith, zeros_long, many, few.within) in
    let long : length first ≡ places =
    ap (λ (ws : List ℕ). length ws) first_is ∙ length-append copied (replicate (places - kept) 0) ∙ all_of_them in
    let left : drop count words ≡ drop (places - kept) zeros =
    (λ i. drop (count_is i) (is i)) ∙ ap (λ n. drop n (copied ++ zeros)) split ∙ drop-append-add copied zeros (places - kept) in
    let left_zeros : drop (places - kept) zeros ≡ replicate (all - kept - (places - kept)) 0 = drop-replicate (places - kept) (all - kept) 0 in
    let as_many : all - kept - (places - kept) ≡ all - places = omega (arith, few.within, more) in
    let behind_is : behind ≡ drop places (replicate all 0) = back ∙ left ∙ left_zeros ∙ ap (λ (n : ℕ). replicate n 0) as_many ∙ sym (drop-replicate places all 0) in
    record {
      cut = zeros_cut shape after (replicate all 0) (replicate places 0) behind places refl refl (sym (take-replicate places all 0 more)) behind_is;
      long = long;
      front = first_is ∙ ap (λ (n : ℕ). copied ++ replicate (n - kept) 0) (sym long);
    }

-- The same words are the first ones of the places of the half before, at widths and a count of places that are these.
pub front_of_places : (shape : Shape) (before : HalfShape) (words widths from first : List ℕ) (count places : ℕ) → IsObject shape → IsPacked shape before words → widths ≡ before.widths → count ≡ places_of before.max → from ≡ (section_in shape before words).first
    → HasFront (whole_words widths (places_of before.max) places) words first → HasFront (whole_words widths count places) from first
front_of_places shape before words widths from first count places object p same is from_is front =
    let size = sum widths in
    let there = places_of before.max in
    let kept = whole_words widths there places in
    let bits : there * sum before.widths ≡ there * size = ap (λ (w : List ℕ). there * sum w) (sym same) in
    let words_before = place_words_of shape before object in
    let below : min there places ≤ there = omega arith in
    let product : min there places * size ≤ there * size = mul-le-mul_right size below in
    let few : kept ≤ place_words shape before = omega (arith, words_before, bits, product) in
    let cut : take kept words ≡ take kept from = sym (take-take kept (place_words shape before) words few) ∙ ap (λ (ws : List ℕ). take kept ws) (sym from_is) in
    subst (λ n. HasFront (whole_words widths n places) from first) (sym is) (front ∙ ap (λ (ws : List ℕ). ws ++ replicate (length first - kept) 0) cut)

-- Records that are those of the rows make up the half.
pub half_of_records : (shape : Shape) (half : HalfShape) (rows : RowMap) (first first' behind widths : List ℕ) (places : ℕ) → IsObject shape → CanLay shape half rows → IsCut shape half first (take (item_words shape half) behind) (drop (item_words shape half) behind)
    → length first' ≡ length first → widths ≡ half.widths → places ≡ places_of half.max → AreRecorded shape widths first' places rows → IsLaidOut shape half (first' ++ behind) rows
half_of_records shape half rows first first' behind widths places object can cut same is count are =
    let second = take (item_words shape half) behind in
    let bytes = drop (item_words shape half) behind in
    let so = subst (λ n. AreRecorded shape half.widths first' n rows) count (subst (λ w. AreRecorded shape w first' places rows) is are) in
    subst (λ (rest : List ℕ). IsLaidOut shape half (first' ++ rest) rows) (take-append-drop (item_words shape half) behind)
    (whole shape half rows first second bytes first' second bytes can cut same refl refl
    (placed_records shape half rows first' second (areas_in bytes half.lengths) object can so (areas_long bytes half.lengths ∙ lengths_long shape half rows can.lengths)))

-- A half that has places is packed.
pub packed_by : (shape : Shape) (half : HalfShape) (words : List ℕ) → IsHalf shape half words → IsSome half.max → IsPacked shape half words
packed_by shape half words (inl bare) some = absurd (none_is_not half.max bare.max some)
packed_by shape half words (inr p) some = p
