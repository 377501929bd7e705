-- Lemmas on halves whose records are copied run by run: what stands in the half before, the room for a run, and the places that are written.
use Rattle.std.proofs.Common.{◌≡◌, ℕ, zero, suc, ◌+◌, ◌-◌, ◌*◌, ◌/◌, ◌^◌, ◌<◌, ◌≤◌, ◌⊎◌, ◌++◌, inl, inr, List, [], ◌∷◌, length, take, drop, Option, None, Some, refl, ap, sym, subst, ◌∙◌, arith, eq-eqb, ne_eqb}
use Rattle.std.specs.Prelude.{is_some, IsSome, if◌then◌else◌, map, min, replicate, sum}
use Rattle.std.specs.List.{AllZip, enumerate_from, range_with_len}
use Rattle.std.specs.List.Sorted.{IsStrictlyIncreasing}
use Rattle.std.specs.Map.{keys_of}
use Rattle.std.specs.Ordering.{nat_cmp}
use Rattle.std.specs.FinMap.{find, get}
use Rattle.std.proofs.Math.Nat.{mul-le-mul_right}
use Rattle.std.proofs.Math.Seq.{take-append_seam}
use Rattle.std.proofs.lemmas.Bool.{cases_eq, cases_lt, false≢true}
use Rattle.std.proofs.lemmas.Grind.{flat_map-append}
use Rattle.std.proofs.lemmas.List.{length-append, length-take, map-append, take-append-drop}
use Rattle.std.proofs.lemmas.List.Elements.{All-contains}
use Rattle.std.proofs.lemmas.List.FromFn.{take-map-range_with_len}
use Rattle.std.proofs.lemmas.Option.{slice_get-get_or, slice_get_within}
use Rattle.std.proofs.lemmas.Map.Keys.{sorted_from_strictly_increasing}
use Rattle.schema_model.specs.declared.schema.Field.{Field}
use Rattle.schema_model.specs.declared.schema.FieldKind.{FieldKind}
use Rattle.schema_model.specs.declared.schema.Shape.{Shape}
use Rattle.schema_model.specs.Parts.{shape_fields}
use Rattle.row_model.specs.Areas.{area_of}
use Rattle.row_model.specs.declared.row.Row.{Row}
use Rattle.row_model.specs.declared.row.Value.{Value}
use Rattle.row_model.specs.Table.{RowMap}
use Rattle.object_codec.specs.ObjectPlace.{IsFieldWidth, IsObject}
use Rattle.object_codec.specs.Packing.{CanPack, HasRoom, IsPacked as ArePacked, IsRowPut, PacksPlace, areas_for, values_of_place}
use Rattle.object_codec.specs.Stored.{column, value_at, value_bytes, values_bytes}
use Rattle.object_codec.proofs.FieldWidths.{fields_small}
use Rattle.object_codec.proofs.PlacesPacked.{PackedSoFar}
use Rattle.packed_half.specs.declared.half.HalfShape.{HalfShape}
use Rattle.packed_half.specs.Half.{areas_in, behind_items, byte_words, place_words, section_in}
use Rattle.packed_half.specs.LaidOut.{IsLaidOut}
use Rattle.packed_half.specs.Laying.{ArePlaced, CanLay, places_in}
use Rattle.packed_half.proofs.Parted.{IsCut, whole}
use Rattle.packed_half.proofs.PlacedRecords.{can_pack, packed_lengths, record_more, record_room, records_begun, records_done, records_placed}
use Rattle.packed_half.proofs.RowPlaces.{place_is, places_long}
use Rattle.record_copies.specs.Run.{AreStanding, HasRunRoom, IsRunPut, rows_between, run_bytes}
use Rattle.type_rows.specs.Layout.{places_of}
use Rattle.type_rows.specs.WellFormed.{IsWidth}
use Rattle.type_rows.proofs.Removal.{has_or}
use Rattle.type_rows.proofs.Rising.{RiseFrom, from_sorted}
use Rattle.type_state.specs.declared.differences.Differences.{Differences}
use Rattle.type_state.specs.Differences.{AreApart, IsAddedAt, added_of, coming_at, removal, removed_of, rows_with}
use Rattle.type_state.specs.Kept.{IsHalf, IsPacked, half_rows}
use Rattle.type_state.specs.LeftDifferences.{behind, first_ordinal}
use Rattle.type_state.proofs.Comings.{added_at, not_added, not_removed}
use Rattle.type_state.proofs.DifferingRows.{either, get_with, with_neither}
use Rattle.type_state.proofs.FixedHalves.{areas_long, field_widths, lengths_long, packed_by, packed_place}
use Rattle.type_state.proofs.Halves.{not_there}
use Rattle.type_state.proofs.Lookups.{found, none_below, skipped}
use Rattle.type_state.proofs.Moves.{removed_found, removed_keys}

-- ---- what stands in the half before

object_width : (shape : Shape) (half : HalfShape) → IsObject shape → place_words shape half ≡ (places_of half.max * sum half.widths + 63) / 64
object_width (Shape.Object key fields) half object = refl
object_width (Shape.List element) half object = absurd object
object_width (Shape.Set element) half object = absurd object
object_width (Shape.Map key value) half object = absurd object

object_widths : (shape : Shape) (half : HalfShape) (words : List ℕ) → IsObject shape → IsPacked shape half words → 0 < places_of half.max → AllZip IsFieldWidth (shape_fields shape) half.widths
object_widths (Shape.Object key fields) half words object packed some = field_widths half.max fields half.widths some packed.can.wide
object_widths (Shape.List element) half words object packed some = absurd object
object_widths (Shape.Set element) half words object packed some = absurd object
object_widths (Shape.Map key value) half words object packed some = absurd object

some_places : (max : Option ℕ) → IsSome max → 0 < places_of max
some_places None some = absurd (false≢true some)
some_places (Some max) some = omega arith

stands_there : (shape : Shape) (half : HalfShape) (words : List ℕ) (end : ℕ) → IsObject shape → IsPacked shape half words → 0 < places_of half.max → end ≤ places_of half.max
    → AreStanding shape half.widths (section_in shape half words).first (section_in shape half words).areas end (half_rows shape half words)
stands_there shape half words end object packed some below = record {
  few = packed.can.many;
  wide = object_widths shape half words object packed some;
  filled = areas_long (behind_items shape half words) half.lengths ∙ lengths_long shape half (half_rows shape half words) packed.laid.lengths;
  within =
      (let product : end * sum half.widths ≤ places_of half.max * sum half.widths = mul-le-mul_right (sum half.widths) below in
      omega (arith, product, object_width shape half object, length-take (place_words shape half) words, packed.laid.long));
  below = omega (arith, below, packed.can.few);
  each = λ place inside. packed_place shape half words object packed place (omega (arith, inside, below));
}

-- the records of a half have few bits
is_narrow : (max : Option ℕ) (kind : FieldKind) (width : ℕ) → IsWidth max kind width → width ≤ 64
is_narrow None kind width is = is
is_narrow (Some max) kind width is = is.0

pub record_small : (shape : Shape) (half : HalfShape) (rows : RowMap) → IsObject shape → CanLay shape half rows → sum half.widths ≤ 65536
record_small (Shape.Object key fields) half rows object can =
    fields_small (λ (field : Field) width. IsWidth half.max field.kind width) (λ (field : Field) width is. is_narrow half.max field.kind width is) fields half.widths can.many can.wide
record_small (Shape.List element) half rows object can = absurd object
record_small (Shape.Set element) half rows object can = absurd object
record_small (Shape.Map key value) half rows object can = absurd object

pub kept_small : (shape given : Shape) (half : HalfShape) (words : List ℕ) → shape ≡ given → IsObject given → IsHalf shape half words → IsSome half.max → sum half.widths ≤ 65536
kept_small shape given half words same object kept some = record_small shape half (half_rows shape half words) (subst IsObject (sym same) object) (packed_by shape half words kept some).can

-- the same by what is lent of the half
pub run_stands : (shape given : Shape) (half : HalfShape) (words widths first : List ℕ) (areas : List (List ℕ)) (end : ℕ) → shape ≡ given → widths ≡ half.widths → first ≡ (section_in shape half words).first
    → areas ≡ (section_in shape half words).areas → IsObject given → IsHalf shape half words → IsSome half.max → end ≤ places_of half.max → AreStanding given widths first areas end (half_rows shape half words)
run_stands shape given half words widths first areas end same widths_are first_is areas_are object kept some below =
    subst (λ (s : Shape). AreStanding s widths first areas end (half_rows shape half words)) same
    (subst (λ (ws : List ℕ). AreStanding shape ws first areas end (half_rows shape half words)) (sym widths_are)
    (subst (λ (ws : List ℕ). AreStanding shape half.widths ws areas end (half_rows shape half words)) (sym first_is)
    (subst (λ (bytes : List (List ℕ)). AreStanding shape half.widths (section_in shape half words).first bytes end (half_rows shape half words)) (sym areas_are)
    (stands_there shape half words end (subst IsObject (sym same) object) (packed_by shape half words kept some) (some_places half.max some) below))))

-- behind the places of the half no row stands
pub none_behind : (shape : Shape) (half : HalfShape) (words : List ℕ) (place : ℕ) → IsHalf shape half words → IsSome half.max → places_of half.max ≤ place → get (half_rows shape half words) place ≡ None
none_behind shape half words place kept some past =
    let packed = packed_by shape half words kept some in
    not_there shape half words place (λ at. let low = All-contains (λ m. m < places_of half.max) half.live place packed.laid.is.places at in omega (arith, low, past))

-- ---- the bytes of a field at some places

bytes_at : (n : ℕ) (fields : List Field) (places : List (Option Row)) (k : ℕ) → k < length fields
    → area_of (map (λ (part : ℕ × Field). values_bytes (column part.0 (map values_of_place places))) (enumerate_from n fields)) k ≡ values_bytes (column (n + k) (map values_of_place places))
bytes_at n [] places k inside = absurd (omega arith)
bytes_at n (field ∷ fields) places zero inside = let e : n ≡ n + 0 = omega arith in ap (λ (i : ℕ). values_bytes (column i (map values_of_place places))) e
bytes_at n (field ∷ fields) places (suc k) inside =
    let e : n + 1 + k ≡ n + suc k = omega arith in
    bytes_at (n + 1) fields places k (omega arith) ∙ ap (λ (i : ℕ). values_bytes (column i (map values_of_place places))) e

field_bytes_at : (fields : List Field) (places : List (Option Row)) (k : ℕ) → k < length fields → area_of (areas_for fields places) k ≡ values_bytes (column k (map values_of_place places))
field_bytes_at fields places k inside = let e : 0 + k ≡ k = omega arith in bytes_at 0 fields places k inside ∙ ap (λ (i : ℕ). values_bytes (column i (map values_of_place places))) e

counted : (n : ℕ) (fields : List Field) (f : ℕ × Field → List ℕ) → length (map f (enumerate_from n fields)) ≡ length fields
counted n [] f = refl
counted n (field ∷ fields) f = ap suc (counted (n + 1) fields f)

same_areas : (xs ys : List (List ℕ)) → length xs ≡ length ys → ((k : ℕ) → k < length xs → area_of xs k ≡ area_of ys k) → xs ≡ ys
same_areas [] [] long each = refl
same_areas [] (y ∷ ys) long each = absurd (omega arith)
same_areas (x ∷ xs) [] long each = absurd (omega arith)
same_areas (x ∷ xs) (y ∷ ys) long each =
    let here : x ≡ y = each 0 (omega arith) in
    ap (λ (a : List ℕ). a ∷ xs) here ∙ ap (λ (rest : List (List ℕ)). y ∷ rest) (same_areas xs ys (omega arith) (λ k inside. each (suc k) (omega arith)))

bytes_joined : (k : ℕ) (xs ys : List (Option Row)) → values_bytes (column k (map values_of_place (xs ++ ys))) ≡ values_bytes (column k (map values_of_place xs)) ++ values_bytes (column k (map values_of_place ys))
bytes_joined k xs ys =
    ap (λ (records : List (List Value)). values_bytes (column k records)) (map-append values_of_place xs ys)
    ∙ ap values_bytes (flat_map-append (value_at k) (map values_of_place xs) (map values_of_place ys))
    ∙ flat_map-append value_bytes (column k (map values_of_place xs)) (column k (map values_of_place ys))

parted : {X : Type 0} (f : ℕ → X) (a n m : ℕ) → map f (range_with_len a (n + m)) ≡ map f (range_with_len a n) ++ map f (range_with_len (a + n) m)
parted f a zero m =
    let none : zero + m ≡ m = omega arith in
    let same : a ≡ a + zero = omega arith in
    ap (λ k. map f (range_with_len a k)) none ∙ ap (λ k. map f (range_with_len k m)) same
parted f a (suc n) m =
    let more : suc n + m ≡ suc (n + m) = omega arith in
    let same : a + 1 + n ≡ a + suc n = omega arith in
    ap (λ k. map f (range_with_len a k)) more
    ∙ ap (λ rest. f a ∷ rest) (parted f (a + 1) n m ∙ ap (λ k. map f (range_with_len (a + 1) n) ++ map f (range_with_len k m)) same)

same_images : {X : Type 0} (f g : ℕ → X) (a n : ℕ) → ((p : ℕ) → a ≤ p → p < a + n → f p ≡ g p) → map f (range_with_len a n) ≡ map g (range_with_len a n)
same_images f g a zero same = refl
same_images f g a (suc n) same =
    ap (λ x. x ∷ map f (range_with_len (a + 1) n)) (same a (omega arith) (omega arith)) ∙ ap (λ rest. g a ∷ rest) (same_images f g (a + 1) n (λ p least below. same p (omega arith) (omega arith)))

-- the places up to an end are those up to one before it and those between
places_parted : (rows : RowMap) (count place end : ℕ) → place ≤ end → end ≤ count → take end (places_in rows count) ≡ take place (places_in rows count) ++ rows_between rows place end
places_parted rows count place end rises below =
    let whole : end ≡ place + (end - place) = omega arith in
    let from : 0 + place ≡ place = omega arith in
    take-map-range_with_len (get rows) 0 count end below
    ∙ ap (λ n. map (get rows) (range_with_len 0 n)) whole
    ∙ parted (get rows) 0 place (end - place)
    ∙ ap (λ n. map (get rows) (range_with_len 0 place) ++ map (get rows) (range_with_len n (end - place))) from
    ∙ ap (λ (front : List (Option Row)). front ++ rows_between rows place end) (sym (take-map-range_with_len (get rows) 0 count place (omega arith)))

-- rows that are the same at some places have the same bytes there
same_bytes : (old new : RowMap) (place end k : ℕ) → place ≤ end → ((p : ℕ) → place ≤ p → p < end → get new p ≡ get old p) → run_bytes old place end k ≡ run_bytes new place end k
same_bytes old new place end k rises same =
    ap (λ (places : List (Option Row)). values_bytes (column k (map values_of_place places)))
    (same_images (get old) (get new) place (end - place) (λ p least below. sym (same p least (let h : p < end = omega arith in h))))

-- ---- a run

-- the bytes of all places up to the end of a run
bytes_up_to : (fields : List Field) (old new : RowMap) (count place end k : ℕ) → place ≤ end → end ≤ count → k < length fields → ((p : ℕ) → place ≤ p → p < end → get new p ≡ get old p) → (areas : List (List ℕ))
    → areas ≡ areas_for fields (take place (places_in new count)) → area_of areas k ++ run_bytes old place end k ≡ values_bytes (column k (map values_of_place (take end (places_in new count))))
bytes_up_to fields old new count place end k rises below inside same areas are =
    ap (λ (a : List (List ℕ)). area_of a k ++ run_bytes old place end k) are
    ∙ ap (λ (bytes : List ℕ). bytes ++ run_bytes old place end k) (field_bytes_at fields (take place (places_in new count)) k inside)
    ∙ ap (λ (bytes : List ℕ). values_bytes (column k (map values_of_place (take place (places_in new count)))) ++ bytes) (same_bytes old new place end k rises same)
    ∙ sym (bytes_joined k (take place (places_in new count)) (rows_between new place end))
    ∙ ap (λ (places : List (Option Row)). values_bytes (column k (map values_of_place places))) (sym (places_parted new count place end rises below))

-- some of the places have no more bytes than all
few_bytes : (k count : ℕ) (places : List (Option Row)) → length (values_bytes (column k (map values_of_place (take count places)))) ≤ length (values_bytes (column k (map values_of_place places)))
few_bytes k count places =
    let all = ap (λ (bytes : List ℕ). length bytes) (ap (λ (ps : List (Option Row)). values_bytes (column k (map values_of_place ps))) (sym (take-append-drop count places)) ∙ bytes_joined k (take count places) (drop count places)) in
    omega (arith, all, length-append (values_bytes (column k (map values_of_place (take count places)))) (values_bytes (column k (map values_of_place (drop count places)))))

-- there is room for a run of rows that are as they were
pub run_room : (shape : Shape) (half : HalfShape) (widths first : List ℕ) (areas : List (List ℕ)) (place end : ℕ) (old new : RowMap) → IsObject shape → CanLay shape half new → widths ≡ half.widths
    → PackedSoFar shape widths (places_in new (places_of half.max)) first areas place → place ≤ end → end ≤ places_of half.max → ((p : ℕ) → place ≤ p → p < end → get new p ≡ get old p)
    → HasRunRoom shape widths first areas place end old
run_room shape half widths first areas place end old new object can widths_are done rises below same =
    let count = places_of half.max in
    let pack : CanPack shape widths (places_in new count) = subst (λ (ws : List ℕ). CanPack shape ws (places_in new count)) (sym widths_are) (can_pack shape half new object can) in
    let product : end * sum widths ≤ count * sum widths = mul-le-mul_right (sum widths) below in
    record {
      rises = rises;
      filled = ap (λ (a : List (List ℕ)). length a) done.bytes ∙ counted 0 (shape_fields shape) (λ part. values_bytes (column part.0 (map values_of_place (take place (places_in new count)))));
      within = omega (arith, product, done.words, ap (λ n. n * sum widths) (places_long new count));
      follows = done.follows;
      ends = λ index field at has.
          (let inside = slice_get_within (shape_fields shape) index field at in
          let all = pack.ends index field at has in
          let some = few_bytes index end (places_in new count) in
          let here = ap (λ (bytes : List ℕ). length bytes) (bytes_up_to (shape_fields shape) old new count place end index rises below inside same areas done.bytes) in
          omega (arith, all, some, here, length-append (area_of areas index) (run_bytes old place end index)));
    }

-- the places of a run are written
pub run_packed : (shape : Shape) (widths first first' : List ℕ) (areas areas' : List (List ℕ)) (count place end : ℕ) (old new : RowMap) → PackedSoFar shape widths (places_in new count) first areas place
    → place ≤ end → end ≤ count → ((p : ℕ) → place ≤ p → p < end → get new p ≡ get old p) → IsRunPut shape widths first areas first' areas' place end old → length first' ≡ length first
    → PackedSoFar shape widths (places_in new count) first' areas' end
run_packed shape widths first first' areas areas' count place end old new done rises below same put long =
    let fields = shape_fields shape in
    let filled = ap (λ (a : List (List ℕ)). length a) done.bytes ∙ counted 0 fields (λ part. values_bytes (column part.0 (map values_of_place (take place (places_in new count))))) in
    record {
      spelled = λ before row earlier there.
          elim (cases_lt before place) [
            | inl less ↦ put.earlier before row less (done.spelled before row less there)
            | inr from ↦
                let is : row ≡ get old before = place_is new count before row there ∙ same before from earlier in
                subst (λ r. PacksPlace shape widths first' areas' before r) (sym is) (put.packed before from earlier)
          ];
      bytes = same_areas areas' (areas_for fields (take end (places_in new count)))
          (put.filled ∙ filled ∙ sym (counted 0 fields (λ part. values_bytes (column part.0 (map values_of_place (take end (places_in new count)))))))
          (λ k inside.
          let there : k < length fields = omega (arith, inside, put.filled, filled) in
          put.grown k there ∙ bytes_up_to fields old new count place end k rises below there same areas done.bytes ∙ sym (field_bytes_at fields (take end (places_in new count)) k there));
      words = long ∙ done.words;
      follows = put.follows;
      bits = put.bits done.bits;
    }

-- ---- ordinals that are left

-- they are those of all from a place on
pub record AreLeft (place : ℕ) (all left : List ℕ) : Type 0 where
  pub rise : RiseFrom place left
  pub same : (o : ℕ) → place ≤ o → find nat_cmp o (map removal left) ≡ find nat_cmp o (map removal all)

pub all_left : (all : List ℕ) → IsStrictlyIncreasing all → AreLeft 0 all all
all_left all rise = record { rise = from_sorted all (sorted_from_strictly_increasing all rise); same = λ o from. refl }

keys_from : (low : ℕ) (os : List ℕ) → RiseFrom low os → RiseFrom low (keys_of (map removal os))
keys_from low os rise = subst (RiseFrom low) (sym (removed_keys os)) rise

none_before : (place o : ℕ) (left : List ℕ) → RiseFrom place left → o < first_ordinal left → find nat_cmp o (map removal left) ≡ None
none_before place o [] rise before = refl
none_before place o (d ∷ ds) rise before = none_below o d (map removal (d ∷ ds)) before (omega arith, keys_from (d + 1) ds rise.1)

-- up to the first one there is none
none_till : (place o : ℕ) (all left : List ℕ) → AreLeft place all left → place ≤ o → o < first_ordinal left → find nat_cmp o (map removal all) ≡ None
none_till place o all left are from before = sym (are.same o from) ∙ none_before place o left are.rise before

pub left_up : (place end : ℕ) (all left : List ℕ) → AreLeft place all left → place ≤ end → end ≤ first_ordinal left → AreLeft end all left
left_up place end all left are from before = record { rise = rise left are.rise before; same = λ o more. are.same o (omega arith) }
  where
    rise : (left : List ℕ) → RiseFrom place left → end ≤ first_ordinal left → RiseFrom end left
    rise [] h before = tt
    rise (d ∷ ds) h before = (before, h.1)

pub left_behind : (place : ℕ) (all left : List ℕ) → AreLeft place all left → AreLeft (place + 1) all (behind place left)
left_behind place all [] are = record { rise = tt; same = λ o from. are.same o (omega arith) }
left_behind place all (d ∷ ds) are =
    elim (cases_eq d place) [
      | inl at ↦
          let rest : behind place (d ∷ ds) ≡ ds = ap (λ b. if b then ds else d ∷ ds) (eq-eqb d place at) in
          subst (λ (left : List ℕ). AreLeft (place + 1) all left) (sym rest)
          record {
            rise = subst (λ n. RiseFrom (n + 1) ds) at are.rise.1;
            same = λ o from. sym (skipped o (removal d) (map removal ds) (λ e. omega (arith, e, at, from))) ∙ are.same o (omega arith);
          }
      | inr other ↦
          let rest : behind place (d ∷ ds) ≡ d ∷ ds = ap (λ b. if b then ds else d ∷ ds) (ne_eqb d place other) in
          subst (λ (left : List ℕ). AreLeft (place + 1) all left) (sym rest)
          record {
            rise = (omega (arith, other, are.rise.0), are.rise.1);
            same = λ o from. are.same o (omega arith);
          }
    ]

-- where the first one is not behind the place, it is the place
left_there : (place : ℕ) (all left : List ℕ) → AreLeft place all left → place < 2 ^ 64 - 1 → first_ordinal left ≤ place → find nat_cmp place (map removal all) ≡ Some None
left_there place all [] are small first = absurd (omega (arith, small, first))
left_there place all (d ∷ ds) are small first = sym (are.same place (omega arith)) ∙ found place (removal d) (map removal ds) (omega (arith, first, are.rise.0))

-- a row comes under the ordinals that are added, and under no others
come_none : (ds : Differences) (o : ℕ) → find nat_cmp o (map removal ds.patch.now.added) ≡ None → find nat_cmp o (added_of ds) ≡ None
come_none ds o none = elim (has_or ds.patch.now.added o) [
  | inl at ↦ absurd (false≢true (ap is_some (sym none ∙ removed_found ds.patch.now.added o at)))
  | inr out ↦ not_added ds o out
]

come_some : (ds : Differences) (o : ℕ) → AreApart ds → find nat_cmp o (map removal ds.patch.now.added) ≡ Some None → (place : ℕ) × IsAddedAt ds o place
come_some ds o a some = elim (has_or ds.patch.now.added o) [
  | inl at ↦ (at.0, added_at ds o at.0 a (slice_get-get_or ds.patch.now.added at.0 o at.1 ∙ ap Some at.2))
  | inr out ↦ absurd (false≢true (ap is_some (sym (not_removed ds.patch.now.added o out) ∙ some)))
]

-- the row that stands at a place, where a difference is of it or none stood there
pub row_is : (place : ℕ) (rows : RowMap) (ds : Differences) (removed added : List ℕ) → AreApart ds → AreLeft place ds.patch.now.removed removed → AreLeft place ds.patch.now.added added → place < 2 ^ 64 - 1
    → (first_ordinal removed ≤ place) ⊎ ((first_ordinal added ≤ place) ⊎ (get rows place ≡ None)) → coming_at ds place ≡ get (rows_with rows ds) place
row_is place rows ds removed added apart left_removed left_added small why = told why ∙ sym (get_with rows ds apart place)
  where
    gone : find nat_cmp place (removed_of ds) ≡ Some None → either (find nat_cmp place (added_of ds)) None ≡ either (find nat_cmp place (added_of ds)) (either (find nat_cmp place (removed_of ds)) (get rows place))
    gone at = sym (ap (λ f. either (find nat_cmp place (added_of ds)) (either f (get rows place))) at)

    told : (first_ordinal removed ≤ place) ⊎ ((first_ordinal added ≤ place) ⊎ (get rows place ≡ None))
        → either (find nat_cmp place (added_of ds)) None ≡ either (find nat_cmp place (added_of ds)) (either (find nat_cmp place (removed_of ds)) (get rows place))
    told (inl first) = gone (left_there place ds.patch.now.removed removed left_removed small first)
    told (inr (inl first)) =
        let at = come_some ds place apart (left_there place ds.patch.now.added added left_added small first) in
        ap (λ f. either f None) at.1.found ∙ sym (ap (λ f. either f (either (find nat_cmp place (removed_of ds)) (get rows place))) at.1.found)
    told (inr (inr none)) = elim (has_or ds.patch.now.removed place) [
      | inl at ↦ gone (removed_found ds.patch.now.removed place at)
      | inr out ↦ sym (ap (λ f. either (find nat_cmp place (added_of ds)) (either f (get rows place))) (not_removed ds.patch.now.removed place out) ∙ ap (either (find nat_cmp place (added_of ds))) none)
    ]

-- where none of both is of a place, the row is the one that stood there
pub row_stays : (place o : ℕ) (rows : RowMap) (ds : Differences) (removed added : List ℕ) → AreApart ds → AreLeft place ds.patch.now.removed removed → AreLeft place ds.patch.now.added added → place ≤ o
    → o < first_ordinal removed → o < first_ordinal added → get (rows_with rows ds) o ≡ get rows o
row_stays place o rows ds removed added apart left_removed left_added from below less =
    with_neither rows ds o apart (come_none ds o (none_till place o ds.patch.now.added added left_added from less)) (none_till place o ds.patch.now.removed removed left_removed from below)

-- ---- the places that are written

-- the places below one are written, and the differences that are left are those from it on
pub record WrittenSoFar (shape : Shape) (half : HalfShape) (old : RowMap) (ds : Differences) (removed added : List ℕ) (first : List ℕ) (areas : List (List ℕ)) (place : ℕ) : Type 0 where
  pub packed : PackedSoFar shape half.widths (places_in (rows_with old ds) (places_of half.max)) first areas place
  pub within : place ≤ places_of half.max
  pub removed_left : AreLeft place ds.patch.now.removed removed
  pub added_left : AreLeft place ds.patch.now.added added

pub written_none : (shape : Shape) (half : HalfShape) (old : RowMap) (ds : Differences) (removed added : List ℕ) (first : List ℕ) (areas : List (List ℕ)) → IsObject shape → CanLay shape half (rows_with old ds) → AreApart ds
    → removed ≡ ds.patch.now.removed → added ≡ ds.patch.now.added → first ≡ replicate (place_words shape half) 0 → areas ≡ replicate (length (shape_fields shape)) [] → WrittenSoFar shape half old ds removed added first areas 0
written_none shape half old ds removed added first areas object can apart removed_is added_is zeros none = record {
  packed = records_begun shape half (rows_with old ds) object can half.widths first areas refl (zeros ∙ ap (λ n. replicate n 0) (object_width shape half object)) none;
  within = omega arith;
  removed_left = subst (λ (left : List ℕ). AreLeft 0 ds.patch.now.removed left) (sym removed_is) (all_left ds.patch.now.removed apart.gone_rise);
  added_left = subst (λ (left : List ℕ). AreLeft 0 ds.patch.now.added left) (sym added_is) (all_left ds.patch.now.added apart.come_rise);
}

pub written_run : (shape : Shape) (half : HalfShape) (old : RowMap) (ds : Differences) (removed added : List ℕ) (widths first first' : List ℕ) (areas areas' : List (List ℕ)) (place end : ℕ) → AreApart ds → widths ≡ half.widths
    → WrittenSoFar shape half old ds removed added first areas place → place ≤ end → end ≤ places_of half.max → end ≤ first_ordinal removed → end ≤ first_ordinal added
    → IsRunPut shape widths first areas first' areas' place end old → length first' ≡ length first → WrittenSoFar shape half old ds removed added first' areas' end
written_run shape half old ds removed added widths first first' areas areas' place end apart widths_are so_far rises below before_removed before_added put long = record {
  packed = run_packed shape half.widths first first' areas areas' (places_of half.max) place end old (rows_with old ds) so_far.packed rises below
      (λ p from less. row_stays place p old ds removed added apart so_far.removed_left so_far.added_left from (omega arith) (omega arith))
      (subst (λ (ws : List ℕ). IsRunPut shape ws first areas first' areas' place end old) widths_are put) long;
  within = below;
  removed_left = left_up place end ds.patch.now.removed removed so_far.removed_left rises before_removed;
  added_left = left_up place end ds.patch.now.added added so_far.added_left rises before_added;
}

pub written_row : (shape : Shape) (half : HalfShape) (old : RowMap) (ds : Differences) (removed added : List ℕ) (widths first first' : List ℕ) (areas areas' : List (List ℕ)) (place : ℕ) (row : Option Row) → IsObject shape
    → CanLay shape half (rows_with old ds) → widths ≡ half.widths → WrittenSoFar shape half old ds removed added first areas place → place < places_of half.max → row ≡ get (rows_with old ds) place
    → IsRowPut shape widths first areas first' areas' place row → length first' ≡ length first → WrittenSoFar shape half old ds (behind place removed) (behind place added) first' areas' (place + 1)
written_row shape half old ds removed added widths first first' areas areas' place row object can widths_are so_far inside is put long = record {
  packed = record_more shape half (rows_with old ds) object can half.widths first first' areas areas' place row so_far.packed inside is
      (subst (λ (ws : List ℕ). IsRowPut shape ws first areas first' areas' place row) widths_are put) long;
  within = omega arith;
  removed_left = left_behind place ds.patch.now.removed removed so_far.removed_left;
  added_left = left_behind place ds.patch.now.added added so_far.added_left;
}

-- there is room for a run up to the first difference
pub room_for_run : (shape : Shape) (half : HalfShape) (old : RowMap) (ds : Differences) (removed added : List ℕ) (widths first : List ℕ) (areas : List (List ℕ)) (place end : ℕ) → IsObject shape → CanLay shape half (rows_with old ds)
    → AreApart ds → widths ≡ half.widths → WrittenSoFar shape half old ds removed added first areas place → place ≤ end → end ≤ places_of half.max → end ≤ first_ordinal removed → end ≤ first_ordinal added
    → HasRunRoom shape widths first areas place end old
room_for_run shape half old ds removed added widths first areas place end object can apart widths_are so_far rises below before_removed before_added =
    subst (λ (ws : List ℕ). HasRunRoom shape ws first areas place end old) (sym widths_are)
    (run_room shape half half.widths first areas place end old (rows_with old ds) object can refl so_far.packed rises below
    (λ p from less. row_stays place p old ds removed added apart so_far.removed_left so_far.added_left from (omega arith) (omega arith)))

-- why a place is not in a run: a difference is of it, or it is behind the places of the half before
why_not : (gone come before places place end : ℕ) → end ≡ min (min gone come) (min before places) → end ≤ place → place < places → (gone ≤ place) ⊎ ((come ≤ place) ⊎ (before ≤ place))
why_not gone come before places place end is past inside =
    elim (cases_lt place gone) [
      | inl ahead ↦
          elim (cases_lt place come) [
            | inl also ↦ inr (inr (omega arith))
            | inr here ↦ inr (inl here)
          ]
      | inr here ↦ inl here
    ]

-- the row that stands at a place that is in no run
pub row_there : (shape : Shape) (half_before half : HalfShape) (words : List ℕ) (ds : Differences) (removed added : List ℕ) (first : List ℕ) (areas : List (List ℕ)) (given : Shape) (place end : ℕ) → IsHalf shape half_before words
    → IsSome half_before.max → AreApart ds → WrittenSoFar given half (half_rows shape half_before words) ds removed added first areas place → place < places_of half.max → places_of half.max < 2 ^ 33
    → end ≡ min (min (first_ordinal removed) (first_ordinal added)) (min (places_of half_before.max) (places_of half.max)) → end ≤ place
    → coming_at ds place ≡ get (rows_with (half_rows shape half_before words) ds) place
row_there shape half_before half words ds removed added first areas given place end kept some apart so_far inside few end_is past =
    row_is place (half_rows shape half_before words) ds removed added apart so_far.removed_left so_far.added_left (omega (arith, inside, few))
    (why (why_not (first_ordinal removed) (first_ordinal added) (places_of half_before.max) (places_of half.max) place end end_is past inside))
  where
    why : (first_ordinal removed ≤ place) ⊎ ((first_ordinal added ≤ place) ⊎ (places_of half_before.max ≤ place))
        → (first_ordinal removed ≤ place) ⊎ ((first_ordinal added ≤ place) ⊎ (get (half_rows shape half_before words) place ≡ None))
    why (inl h) = inl h
    why (inr (inl h)) = inr (inl h)
    why (inr (inr h)) = inr (inr (none_behind shape half_before words place kept some h))

-- there is room for that row
pub room_for_row : (shape : Shape) (half : HalfShape) (old : RowMap) (ds : Differences) (removed added : List ℕ) (widths first : List ℕ) (areas : List (List ℕ)) (place : ℕ) (row : Option Row) → IsObject shape
    → CanLay shape half (rows_with old ds) → widths ≡ half.widths → WrittenSoFar shape half old ds removed added first areas place → place < places_of half.max → row ≡ get (rows_with old ds) place
    → HasRoom shape widths first areas place row
room_for_row shape half old ds removed added widths first areas place row object can widths_are so_far inside is =
    subst (λ (ws : List ℕ). HasRoom shape ws first areas place row) (sym widths_are)
    (record_room shape half (rows_with old ds) object can half.widths first areas place row refl so_far.packed inside is)

-- the row of a place before the first difference is the one that stood there, and there is room for it
pub room_for_kept : (shape : Shape) (half : HalfShape) (old : RowMap) (ds : Differences) (removed added : List ℕ) (widths first : List ℕ) (areas : List (List ℕ)) (place : ℕ) → IsObject shape
    → CanLay shape half (rows_with old ds) → AreApart ds → widths ≡ half.widths → WrittenSoFar shape half old ds removed added first areas place → place < places_of half.max → place < first_ordinal removed
    → place < first_ordinal added → HasRoom shape widths first areas place (get old place)
room_for_kept shape half old ds removed added widths first areas place object can apart widths_are so_far inside before_removed before_added =
    room_for_row shape half old ds removed added widths first areas place (get old place) object can widths_are so_far inside
    (sym (row_stays place place old ds removed added apart so_far.removed_left so_far.added_left (omega arith) before_removed before_added))

pub written_kept : (shape : Shape) (half : HalfShape) (old : RowMap) (ds : Differences) (removed added : List ℕ) (widths first first' : List ℕ) (areas areas' : List (List ℕ)) (place : ℕ) → IsObject shape
    → CanLay shape half (rows_with old ds) → AreApart ds → widths ≡ half.widths → WrittenSoFar shape half old ds removed added first areas place → place < places_of half.max → place < first_ordinal removed
    → place < first_ordinal added → IsRowPut shape widths first areas first' areas' place (get old place) → length first' ≡ length first → WrittenSoFar shape half old ds removed added first' areas' (place + 1)
written_kept shape half old ds removed added widths first first' areas areas' place object can apart widths_are so_far inside before_removed before_added put long = record {
  packed = record_more shape half (rows_with old ds) object can half.widths first first' areas areas' place (get old place) so_far.packed inside
      (sym (row_stays place place old ds removed added apart so_far.removed_left so_far.added_left (omega arith) before_removed before_added))
      (subst (λ (ws : List ℕ). IsRowPut shape ws first areas first' areas' place (get old place)) widths_are put) long;
  within = omega arith;
  removed_left = left_up place (place + 1) ds.patch.now.removed removed so_far.removed_left (omega arith) (omega arith);
  added_left = left_up place (place + 1) ds.patch.now.added added so_far.added_left (omega arith) (omega arith);
}

pub written_all : (shape : Shape) (half : HalfShape) (old : RowMap) (ds : Differences) (removed added : List ℕ) (first : List ℕ) (areas : List (List ℕ)) (place : ℕ) → IsObject shape → CanLay shape half (rows_with old ds)
    → WrittenSoFar shape half old ds removed added first areas place → places_of half.max ≤ place → ArePacked shape half.widths (places_in (rows_with old ds) (places_of half.max)) first areas
written_all shape half old ds removed added first areas place object can so_far past =
    records_done shape half (rows_with old ds) object can half.widths first areas place refl so_far.packed (let within = so_far.within in omega arith)

-- ---- the half that is laid out

-- a vector whose items are all written over
pub written_over : (lent new behind : List (List ℕ)) (len : ℕ) → lent ≡ take len (new ++ behind) → len ≡ length new → lent ≡ new
written_over lent new behind len is all = is ∙ subst (λ (n : ℕ). take n (new ++ behind) ≡ new) (sym all) (take-append_seam new behind)

-- there are as many fields as lengths
pub fields_empty : (shape : Shape) (half : HalfShape) (rows : RowMap) (lengths : List ℕ) (areas : List (List ℕ)) → CanLay shape half rows → lengths ≡ half.lengths → areas ≡ replicate (length lengths) []
    → areas ≡ replicate (length (shape_fields shape)) []
fields_empty shape half rows lengths areas can same none = none ∙ ap (λ n. replicate n []) (ap (λ (ls : List ℕ). length ls) same ∙ lengths_long shape half rows can.lengths)

-- the records with the bytes of their fields make up the half
pub half_by_runs : (shape : Shape) (half : HalfShape) (rows : RowMap) (first second bytes first' bytes' : List ℕ) (lent areas : List (List ℕ)) → IsObject shape → CanLay shape half rows → IsCut shape half first second bytes
    → length first' ≡ length first → length bytes' ≡ length bytes → lent ≡ areas → ArePacked shape half.widths (places_in rows (places_of half.max)) first' areas
    → areas_in bytes' (map (λ (area : List ℕ). length area) lent) ≡ lent → IsLaidOut shape half (first' ++ (second ++ bytes')) rows
half_by_runs shape half rows first second bytes first' bytes' lent areas object can cut first_long bytes_long same packed read =
    let lengths = packed_lengths shape half rows first' lent areas can same packed in
    let there : areas ≡ areas_in bytes' half.lengths = sym (ap (areas_in bytes') (sym lengths) ∙ read ∙ same) in
    whole shape half rows first second bytes first' second bytes' can cut first_long refl bytes_long
    (subst (λ (as_read : List (List ℕ)). ArePlaced shape half rows first' second as_read) there (records_placed shape half rows object can first' second areas packed))

-- there is room for their bytes
pub bytes_room : (shape : Shape) (half : HalfShape) (rows : RowMap) (first second bytes first' : List ℕ) (lent areas : List (List ℕ)) → CanLay shape half rows → IsCut shape half first second bytes → lent ≡ areas
    → ArePacked shape half.widths (places_in rows (places_of half.max)) first' areas → length bytes ≡ byte_words (map (λ (area : List ℕ). length area) lent)
bytes_room shape half rows first second bytes first' lent areas can cut same packed = cut.bytes_long ∙ ap byte_words (sym (packed_lengths shape half rows first' lent areas can same packed))
