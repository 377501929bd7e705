-- Lemmas on records that are moved to the next state: what each place spells then, and that they are all of the section.
use Rattle.std.proofs.Common.{◌≡◌, ℕ, zero, suc, ◌+◌, ◌*◌, ◌^◌, ◌<◌, ◌≤◌, inl, inr, List, [], ◌∷◌, length, Option, None, Some, refl, ap, sym, subst, ◌∙◌, arith}
use Rattle.std.specs.Prelude.{◌↔◌, Contains, IsSome, replicate, slice_get, sum}
use Rattle.std.specs.List.{AllZip, range_with_len}
use Rattle.std.proofs.Math.Nat.{mul-le-mul, mul-le-mul_right}
use Rattle.std.proofs.lemmas.Bool.{cases_lt}
use Rattle.std.proofs.lemmas.Option.{get_or_from_slice_get, slice_get_within}
use Rattle.std.proofs.lemmas.Slice.Zip.{AllZip-long}
use Rattle.bit_array.specs.Element.{number_of, words_of}
use Rattle.ordinal_set.specs.Ordinals.{lacking}
use Rattle.ordinal_set.proofs.Beside.{lacking_member, member_lacking}
use Rattle.schema_model.specs.Parts.{shape_fields}
use Rattle.schema_model.specs.declared.schema.Field.{Field}
use Rattle.schema_model.specs.declared.schema.Shape.{Shape}
use Rattle.row_model.specs.Areas.{area_of}
use Rattle.row_model.specs.Row.{stored_row}
use Rattle.row_model.specs.Table.{IsLive, Table, row_at}
use Rattle.row_model.specs.declared.packed.Packed.{Packed}
use Rattle.row_model.specs.declared.row.Row.{Row}
use Rattle.object_codec.specs.ObjectPlace.{IsFieldWidth, IsObject}
use Rattle.object_codec.specs.Packing.{CanPack, HasBytes, IsPacked, IsWidthFor, PacksPlace}
use Rattle.object_codec.proofs.FieldWidths.{fields_small}
use Rattle.object_codec.proofs.PlacesPacked.{bits_small}
use Rattle.record_copies.specs.Fixed.{AreFixed, HasRecordRoom, record_at}
use Rattle.record_copies.proofs.RecordBits.{empty_place, gap_row_moved, row_moved}
use Rattle.type_rows.specs.Layout.{places_of}
use Rattle.row_packing.specs.declared.chosen.Chosen.{Chosen}
use Rattle.row_packing.specs.Chosen.{IsGreatestOrdinal, IsLiveInEither}
use Rattle.row_packing.specs.Packs.{CanPackPlaces}
use Rattle.row_packing.specs.Places.{Agree, places_under, snapshot_places}
use Rattle.row_packing.proofs.PlacesLent.{first_count, first_lent}
use Rattle.kept_sections.specs.Moved.{AreCopied, AreReplaced, AreWritten, CanMove, IsClear, IsPlaceIn, SpellsRowUnder}
use Rattle.kept_sections.specs.Sections.{IsPackedOf, IsSection}
use Rattle.kept_sections.specs.declared.section.PackedSection.{PackedSection}
use Rattle.kept_sections.proofs.FixedAreas.{all_empty, areas_long, areas_none}

-- ---- what is kept

-- The records of a state, as they stand in a section.
pub record AreKept (shape : Shape) (widths first : List ℕ) (areas : List (List ℕ)) (table : Table) (type_index before : ℕ) : Type 0 where
  pub spelled : (place : ℕ) → place < before → PacksPlace shape widths first areas place (row_at table type_index place)
  pub long : length areas ≡ length (shape_fields shape)
  pub none : areas ≡ replicate (length (shape_fields shape)) []
  pub words : before * sum widths ≤ 64 * length first

-- The words of a section that is packed.
packed_kept : (shape : Shape) (widths first : List ℕ) (areas : List (List ℕ)) (table : Table) (type_index before : ℕ) → AreFixed (shape_fields shape) → IsPacked shape widths (places_under table type_index (range_with_len 0 before)) first areas
    → AreKept shape widths first areas table type_index before
packed_kept shape widths first areas table type_index before fixed packed =
    let fields = shape_fields shape in
    let rows = places_under table type_index (range_with_len 0 before) in
    let count = first_count table type_index before in
    let long : length areas ≡ length fields = ap (λ (a : List (List ℕ)). length a) packed.bytes ∙ areas_long fields rows in
    let bits : length rows * sum widths ≡ before * sum widths = ap (λ n. n * sum widths) count in
    record {
      spelled = λ place inside. packed.spelled place (row_at table type_index place) (first_lent table type_index before place (row_at table type_index place) (omega (arith, inside, count)) refl);
      long = long;
      none = all_empty areas (λ k inside. empty_at k (omega (arith, inside, long))) ∙ ap (λ (n : ℕ). replicate n []) long;
      words = omega (arith, packed.words, bits);
    }
  where
    empty_at : (k : ℕ) → k < length (shape_fields shape) → area_of areas k ≡ []
    empty_at k inside = at (slice_get (shape_fields shape) k) refl
      where
        at : (found : Option Field) → slice_get (shape_fields shape) k ≡ found → area_of areas k ≡ []
        at None is = absurd (none_there (shape_fields shape) k inside is)
          where
            none_there : (fields : List Field) (k : ℕ) → k < length fields → slice_get fields k ≡ None → ⊥
            none_there [] k inside none = absurd (omega (arith, inside))
            none_there (f ∷ fields) zero inside none = cc
            none_there (f ∷ fields) (suc k) inside none = none_there fields k (omega (arith, inside)) none
        at (Some field) is = packed.fixed k field is (fixed_at field is)
          where
            fixed_at : (field : Field) → slice_get (shape_fields shape) k ≡ Some field → HasBytes field.kind → ⊥
            fixed_at field is = subst (λ (f : Field). HasBytes f.kind → ⊥) (get_or_from_slice_get (shape_fields shape) k field field is) (fixed k field inside)

pub section_kept : (shape : Shape) (table : Table) (type_index : ℕ) (chosen : Chosen) (packed : Packed) (widths : List ℕ) → IsObject shape → AreFixed (shape_fields shape) → chosen.widths ≡ widths → IsSection shape table type_index chosen packed
    → AreKept shape widths packed.first packed.areas table type_index (places_of chosen.max)
section_kept (Shape.Object key fields) table type_index chosen packed widths object fixed same section =
    subst (λ (w : List ℕ). AreKept (Shape.Object key fields) w packed.first packed.areas table type_index (places_of chosen.max)) same
    (packed_kept (Shape.Object key fields) chosen.widths packed.first packed.areas table type_index (places_of chosen.max) fixed section.0)
section_kept (Shape.List element) table type_index chosen packed widths object fixed same section = absurd object
section_kept (Shape.Set element) table type_index chosen packed widths object fixed same section = absurd object
section_kept (Shape.Map key value) table type_index chosen packed widths object fixed same section = absurd object

-- ---- what is chosen

pub can_pack_object : (shape : Shape) (widths : List ℕ) (rows : List (Option Row)) → IsObject shape → CanPackPlaces shape widths rows → CanPack shape widths rows
can_pack_object (Shape.Object key fields) widths rows object can = can
can_pack_object (Shape.List element) widths rows object can = absurd object
can_pack_object (Shape.Set element) widths rows object can = absurd object
can_pack_object (Shape.Map key value) widths rows object can = absurd object

-- Each row of either state has a place.
pub greatest_placed : (old new : Table) (type_index : ℕ) (max : Option ℕ) → IsGreatestOrdinal old new type_index max → (ordinal : ℕ) → IsLiveInEither old new type_index ordinal → ordinal < places_of max
greatest_placed old new type_index None greatest ordinal live = absurd (greatest ordinal live)
greatest_placed old new type_index (Some max) greatest ordinal live = let below = greatest.1 ordinal live in omega (arith, below)

narrow_for : (rows : List (Option Row)) (field : Field) (width : ℕ) → IsWidthFor rows field width → width ≤ 64
narrow_for [] field width is = is
narrow_for (row ∷ rows) field width is = is.0

wide_where : (rows : List (Option Row)) (place : ℕ) (fields : List Field) (widths : List ℕ) → place < length rows → AllZip (IsWidthFor rows) fields widths → AllZip IsFieldWidth fields widths
wide_where [] place fields widths inside wide = absurd (omega (arith, inside))
wide_where (row ∷ rows) place fields widths inside wide = wide

-- What the words of a type's places need.
pub record AreFew (shape : Shape) (widths : List ℕ) (places : ℕ) : Type 0 where
  pub long : length widths ≡ length (shape_fields shape)
  pub narrow : sum widths ≤ 65536
  pub counted : places * sum widths < 2 ^ 64

pub few_of : (shape : Shape) (widths : List ℕ) (table : Table) (type_index places : ℕ) → CanPack shape widths (places_under table type_index (range_with_len 0 places)) → AreFew shape widths places
few_of shape widths table type_index places can =
    let rows = places_under table type_index (range_with_len 0 places) in
    record {
      long = AllZip-long (IsWidthFor rows) (shape_fields shape) widths can.wide;
      narrow = fields_small (IsWidthFor rows) (narrow_for rows) (shape_fields shape) widths can.few can.wide;
      counted = subst (λ (n : ℕ). n * sum widths < 2 ^ 64) (first_count table type_index places) (bits_small shape widths rows can).1;
    }

pub few_kept : (widths : List ℕ) (before : ℕ) → sum widths ≤ 65536 → before < 2 ^ 33 → before * sum widths < 2 ^ 64
few_kept widths before narrow few =
    let most : before ≤ 2 ^ 33 = omega (arith, few) in
    let product : before * sum widths ≤ 2 ^ 33 * 65536 = mul-le-mul most narrow in
    omega (arith, product)

-- The words hold each place.
pub place_in : (widths first : List ℕ) (places place : ℕ) → length first ≡ words_of (places * sum widths) → places * sum widths < 2 ^ 64 → place < places → IsPlaceIn widths first place
place_in widths first places place long counted inside =
    let next : place + 1 ≤ places = omega (arith, inside) in
    let less : (place + 1) * sum widths ≤ places * sum widths = mul-le-mul_right (sum widths) next in
    record {
      within = omega (arith, less, long);
      counted = omega (arith, less, counted);
    }

-- There is room for a row at its place.
pub room_at : (shape : Shape) (widths first : List ℕ) (table : Table) (type_index places place : ℕ) (row : Row) → AreFixed (shape_fields shape) → CanPack shape widths (places_under table type_index (range_with_len 0 places))
    → length first ≡ words_of (places * sum widths) → row_at table type_index place ≡ Some row → place < places → HasRecordRoom shape widths first place row
room_at shape widths first table type_index places place row fixed can long stands inside =
    let rows = places_under table type_index (range_with_len 0 places) in
    let count = first_count table type_index places in
    let there : slice_get rows place ≡ Some (Some row) = first_lent table type_index places place (Some row) (omega (arith, inside, count)) stands in
    let few = few_of shape widths table type_index places can in
    record {
      object = can.object;
      fixed = fixed;
      holds = record {
        few = can.few;
        wide = wide_where rows place (shape_fields shape) widths (omega (arith, inside, count)) can.wide;
        within = (place_in widths first places place long few.counted inside).within;
        below = omega (arith, inside, count, can.places);
      };
      fits = can.fit place row there;
      numbers = λ index. can.numbers place index (Some row) there;
    }

-- ---- what is moved

-- The change of the records by the sets of both states' ordinals.
pub replaced : (shape : Shape) (widths : List ℕ) (old new : Table) (type_index : ℕ) (before cleared after was now live : List ℕ) → ((ordinal : ℕ) → Contains was ordinal ↔ IsLive old type_index ordinal)
    → ((ordinal : ℕ) → Contains now ordinal ↔ IsLive new type_index ordinal) → ((ordinal : ℕ) → Contains live ordinal ↔ IsLive new type_index ordinal) → AreWritten (IsClear widths) widths before cleared (lacking was now)
    → AreWritten (SpellsRowUnder shape new type_index widths) widths cleared after (lacking live was) → AreReplaced shape old new type_index widths before after
replaced shape widths old new type_index before cleared after was now live was_live now_live live_too clears puts = record {
  long = puts.changed.long ∙ clears.changed.long;
  left = λ place before_at not_after. puts.changed.others place (λ at. not_after ((live_too place).0 (lacking_member live was place at).0))
      ∙ clears.written place (member_lacking was now place ((was_live place).1 before_at) (λ at. not_after ((now_live place).0 at)));
  came = λ place after_at not_before. puts.written place (member_lacking live was place ((live_too place).1 after_at) (λ at. not_before ((was_live place).0 at)));
  stays = λ place both. puts.changed.others place (λ at. (lacking_member live was place at).1 ((was_live place).1 (both.1 ((live_too place).0 (lacking_member live was place at).0))))
      ∙ clears.changed.others place (λ at. (lacking_member was now place at).1 ((now_live place).1 (both.0 ((was_live place).0 (lacking_member was now place at).0))));
  behind = λ limit ends below. puts.changed.behind limit (λ place at. ends place (inr ((live_too place).0 (lacking_member live was place at).0)))
      (clears.changed.behind limit (λ place at. ends place (inl ((was_live place).0 (lacking_member was now place at).0))) below);
}

module _ (shape : Shape) (widths from : List ℕ) (areas : List (List ℕ)) (old new : Table) (type_index before places : ℕ) (copied first : List ℕ) (copies : AreCopied widths from before places copied)
    (replaces : AreReplaced shape old new type_index widths copied first) (fixed : AreFixed (shape_fields shape)) (long : length widths ≡ length (shape_fields shape))
    (kept : AreKept shape widths from areas old type_index before) (agree : Agree old new type_index) (placed : (ordinal : ℕ) → IsLive old type_index ordinal → ordinal < before) where
  is_live : (table : Table) (place : ℕ) (row : Row) → row_at table type_index place ≡ Some row → IsLive table type_index place
  is_live table place row at = subst IsSome (sym at) refl

  not_live : (table : Table) (place : ℕ) → row_at table type_index place ≡ None → IsLive table type_index place → ⊥
  not_live table place at live_at = no_row (subst IsSome at live_at)
    where
      no_row : IsSome {T = Row} None → ⊥
      no_row some = absurd cc

  gap_stays : (place : ℕ) → row_at old type_index place ≡ None → place < places → record_at widths first place ≡ record_at widths copied place → PacksPlace shape widths first areas place None
  gap_stays place none inside same = elim (cases_lt place before) [
    | inl low ↦
        gap_row_moved shape widths from first areas areas place place fixed refl (sym (same ∙ copies.copied place (omega (arith, low, inside))))
        (subst (PacksPlace shape widths from areas place) none (kept.spelled place low))
    | inr high ↦ empty_place shape widths first areas place fixed long kept.long (same ∙ copies.clear place (omega (arith, high)))
  ]

  row_stays : (place : ℕ) (row : Row) → row_at old type_index place ≡ Some row → place < places → record_at widths first place ≡ record_at widths copied place → PacksPlace shape widths first areas place (Some row)
  row_stays place row at inside same =
      let low = placed place (is_live old place row at) in
      row_moved shape widths from first areas areas place place (stored_row row) fixed refl (sym (same ∙ copies.copied place (omega (arith, low, inside))))
      (subst (PacksPlace shape widths from areas place) at (kept.spelled place low))

  by_slots : (place : ℕ) (slot slot' : Option Row) → row_at old type_index place ≡ slot → row_at new type_index place ≡ slot' → place < places → PacksPlace shape widths first areas place slot'
  by_slots place None None before_at after_at inside =
      gap_stays place before_at inside (replaces.stays place (λ at. absurd (not_live old place before_at at), λ at. absurd (not_live new place after_at at)))
  by_slots place (Some row) None before_at after_at inside =
      empty_place shape widths first areas place fixed long kept.long (replaces.left place (is_live old place row before_at) (not_live new place after_at))
  by_slots place None (Some row) before_at after_at inside =
      replaces.came place (is_live new place row after_at) (not_live old place before_at) row areas after_at kept.long
  by_slots place (Some row) (Some row') before_at after_at inside =
      subst (λ (r : Row). PacksPlace shape widths first areas place (Some r)) (agree place row row' before_at after_at)
      (row_stays place row before_at inside (replaces.stays place (λ at. is_live new place row' after_at, λ at. is_live old place row before_at)))

  -- The words and bytes are those of the new state's rows.
  pub moved_packed : CanPack shape widths (places_under new type_index (range_with_len 0 places)) → ((ordinal : ℕ) → IsLiveInEither old new type_index ordinal → ordinal < places)
      → IsPacked shape widths (places_under new type_index (range_with_len 0 places)) first areas
  moved_packed can live_placed =
      let fields = shape_fields shape in
      let rows = places_under new type_index (range_with_len 0 places) in
      let count = first_count new type_index places in
      let bits : length rows * sum widths ≡ places * sum widths = ap (λ n. n * sum widths) count in
      let many : length first ≡ words_of (places * sum widths) = replaces.long ∙ copies.long in
      record {
        spelled = λ place row there.
            (let inside = slice_get_within rows place row there in
            let low : place < places = omega (arith, inside, count) in
            let is : row_at new type_index place ≡ row = some_is (sym (first_lent new type_index places place (row_at new type_index place) inside refl) ∙ there) in
            subst (PacksPlace shape widths first areas place) is (by_slots place (row_at old type_index place) (row_at new type_index place) refl refl low));
        bytes = kept.none ∙ sym (areas_none shape rows fixed can.fit);
        fixed = λ index field at none. ap (λ (a : List (List ℕ)). area_of a index) kept.none ∙ none_at (length fields) index;
        words = many ∙ ap words_of (sym bits);
        bits = subst (λ (n : ℕ). number_of first < 2 ^ n) (sym bits) (replaces.behind (places * sum widths) ends copies.behind);
      }
    where
      some_is : {a b : Option Row} → Some a ≡ Some b → a ≡ b
      some_is e = cc

      none_at : (count index : ℕ) → area_of (replicate count []) index ≡ []
      none_at zero index = refl
      none_at (suc count) zero = refl
      none_at (suc count) (suc index) = none_at count index

      ends : (place : ℕ) → IsLiveInEither old new type_index place → (place + 1) * sum widths ≤ places * sum widths
      ends place live_at = let low = live_placed place live_at in mul-le-mul_right (sum widths) (omega (arith, low))

-- Such words make up the section.
pub section_moved : (shape : Shape) (table : Table) (type_index : ℕ) (chosen : Chosen) (first second : List ℕ) (areas : List (List ℕ)) → IsObject shape → second ≡ []
    → IsPacked shape chosen.widths (snapshot_places table type_index chosen.max) first areas → IsSection shape table type_index chosen (record { first = first; second = second; areas = areas })
section_moved (Shape.Object key fields) table type_index chosen first second areas object none packed = (packed, none)
section_moved (Shape.List element) table type_index chosen first second areas object none packed = absurd object
section_moved (Shape.Set element) table type_index chosen first second areas object none packed = absurd object
section_moved (Shape.Map key value) table type_index chosen first second areas object none packed = absurd object

-- ---- as the code names them

-- What the moves of a section's records start from.
pub record CanMoveTo (shape : Shape) (widths from : List ℕ) (areas : List (List ℕ)) (old new : Table) (type_index before places : ℕ) : Type 0 where
  pub object : IsObject shape
  pub fixed : AreFixed (shape_fields shape)
  pub kept : AreKept shape widths from areas old type_index before
  pub was_placed : (ordinal : ℕ) → IsLive old type_index ordinal → ordinal < before
  pub can : CanPack shape widths (places_under new type_index (range_with_len 0 places))
  pub few : AreFew shape widths places
  pub placed : (ordinal : ℕ) → IsLiveInEither old new type_index ordinal → ordinal < places

pub can_move_to : (shape : Shape) (old new : Table) (type_index : ℕ) (kept : PackedSection) (chosen : Chosen) (widths from : List ℕ) (before places : ℕ) → CanMove shape kept.chosen chosen → IsPackedOf shape old type_index kept
    → IsGreatestOrdinal old new type_index chosen.max → CanPackPlaces shape chosen.widths (snapshot_places new type_index chosen.max) → widths ≡ chosen.widths → from ≡ kept.packed.first → before ≡ places_of kept.chosen.max → places ≡ places_of chosen.max
    → CanMoveTo shape widths from kept.packed.areas old new type_index before places
can_move_to shape old new type_index kept chosen widths from before places moves packed greatest room is front count count' =
    let here = section_kept shape old type_index kept.chosen kept.packed widths moves.object moves.fixed (moves.widths ∙ sym is) packed.packed in
    let can = can_pack_object shape chosen.widths (snapshot_places new type_index chosen.max) moves.object room in
    let pack = subst (λ (n : ℕ). CanPack shape widths (places_under new type_index (range_with_len 0 n))) (sym count')
    (subst (λ (w : List ℕ). CanPack shape w (snapshot_places new type_index chosen.max)) (sym is) can) in
    record {
      object = moves.object;
      fixed = moves.fixed;
      kept = subst (λ (n : ℕ). AreKept shape widths from kept.packed.areas old type_index n) (sym count)
          (subst (λ (f : List ℕ). AreKept shape widths f kept.packed.areas old type_index (places_of kept.chosen.max)) (sym front) here);
      was_placed = λ ordinal live. (let below = packed.placed ordinal live in omega (arith, below, count));
      can = pack;
      few = few_of shape widths new type_index places pack;
      placed = λ ordinal live. (let below = greatest_placed old new type_index chosen.max greatest ordinal live in omega (arith, below, count'));
    }

pub section_is : (shape : Shape) (table : Table) (type_index : ℕ) (chosen : Chosen) (widths moved first second : List ℕ) (kept_areas areas : List (List ℕ)) (places : ℕ) → IsObject shape → widths ≡ chosen.widths → places ≡ places_of chosen.max → first ≡ moved
    → second ≡ [] → areas ≡ kept_areas → IsPacked shape widths (places_under table type_index (range_with_len 0 places)) moved kept_areas → IsSection shape table type_index chosen (record { first = first; second = second; areas = areas })
section_is shape table type_index chosen widths moved first second kept_areas areas places object is count over none same packed =
    section_moved shape table type_index chosen first second areas object none
    (subst (λ (a : List (List ℕ)). IsPacked shape chosen.widths (snapshot_places table type_index chosen.max) first a) (sym same)
    (subst (λ (f : List ℕ). IsPacked shape chosen.widths (snapshot_places table type_index chosen.max) f kept_areas) (sym over)
    (subst (λ (n : ℕ). IsPacked shape chosen.widths (places_under table type_index (range_with_len 0 n)) moved kept_areas) count
    (subst (λ (w : List ℕ). IsPacked shape w (places_under table type_index (range_with_len 0 places)) moved kept_areas) is packed))))
