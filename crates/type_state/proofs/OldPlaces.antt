-- Rows that a type had: those that are made stand one beside each ordinal, and packed records spell the rows that they spelled.
use Rattle.std.proofs.Common.{◌≡◌, ◌⊎◌, inl, inr, ℕ, suc, ◌+◌, ◌*◌, ◌^◌, ◌<◌, ◌≤◌, List, [], ◌∷◌, ◌++◌, length, get_or, map, Option, None, Some, Result, Ok, Err, refl, sym, ap, ◌∙◌, subst, arith}
use Rattle.std.specs.Prelude.{All, IsErrAnd, IsSome, replicate, slice_get, sum}
use Rattle.std.specs.List.{AllZip, range_with_len}
use Rattle.std.specs.FinMap.{get}
use Rattle.std.proofs.Math.Nat.{mul-le-mul_right}
use Rattle.std.proofs.lemmas.Bool.{cases_eq, false≢true}
use Rattle.std.proofs.lemmas.List.{length-replicate, length-take}
use Rattle.std.proofs.lemmas.List.FromFn.{get_or-map-range_with_len, length-map-range_with_len}
use Rattle.std.proofs.lemmas.Option.{get_or_from_slice_get, slice_get-get_or, slice_get_within}
use Rattle.bit_array.specs.Element.{element_of}
use Rattle.hol_varint.specs.Yields.{Yields}
use Rattle.schema_model.specs.declared.reason.Reason.{Reason}
use Rattle.schema_model.specs.declared.schema.Shape.{Shape}
use Rattle.schema_model.specs.Parts.{shape_fields}
use Rattle.row_model.specs.declared.packed.PlaceFault.{PlaceFault}
use Rattle.row_model.specs.declared.row.Row.{Row}
use Rattle.object_codec.specs.ObjectPlace.{HoldsPlace, IsFieldWidth, IsFreePlace, IsObject, SpellsObjectRow}
use Rattle.object_codec.proofs.FieldWidths.{fields_small}
use Rattle.record_copies.specs.Fixed.{record_at}
use Rattle.record_copies.proofs.RecordBits.{row_moved}
use Rattle.packed_half.specs.declared.half.HalfShape.{HalfShape}
use Rattle.packed_half.specs.Half.{behind_items, place_words, section_in}
use Rattle.packed_half.proofs.Looking.{object_holds}
use Rattle.packed_half.proofs.RowPlaces.{entry_of, placed_in}
use Rattle.type_rows.proofs.Rows.{spelled}
use Rattle.type_rows.specs.declared.section.Section.{Section}
use Rattle.type_rows.specs.Layout.{places_of}
use Rattle.type_rows.specs.Loads.{IsSpelledIn, Spells, parts_up_to}
use Rattle.type_state.specs.Kept.{IsHalf, IsPacked, half_rows}
use Rattle.type_state.specs.OldRecords.{AreCopies, AreSpelled, CanPack, HoldsEach, record_row, record_rows}
use Rattle.type_state.proofs.FixedHalves.{areas_long, lengths_long, packed_by}

-- ---- lists

pub zip_more : {A B : Type 0} (P : A → B → Type 0) (xs : List A) (ys : List B) (x : A) (y : B) → AllZip P xs ys → P x y → AllZip P (xs ++ x ∷ []) (ys ++ y ∷ [])
zip_more P [] [] x y all one = (one, tt)
zip_more P (w ∷ xs) (v ∷ ys) x y all one = (all.0, zip_more P xs ys x y all.1 one)
zip_more P [] (v ∷ ys) x y all one = absurd all
zip_more P (w ∷ xs) [] x y all one = absurd all

pub zip_of : {A B : Type 0} (P : A → B → Type 0) (xs : List A) (ys : List B) → length ys ≡ length xs → ((k : ℕ) (x : A) (y : B) → slice_get xs k ≡ Some x → slice_get ys k ≡ Some y → P x y) → AllZip P xs ys
zip_of P [] [] long each = tt
zip_of P [] (y ∷ ys) long each = absurd (omega (arith, long))
zip_of P (x ∷ xs) [] long each = absurd (omega (arith, long))
zip_of P (x ∷ xs) (y ∷ ys) long each = (each 0 x y refl refl, zip_of P xs ys (omega (arith, long)) (λ k. each (suc k)))

pub in_range : {X : Type 0} (f : ℕ → X) (n k : ℕ) → k < n → slice_get (map f (range_with_len 0 n)) k ≡ Some (f k)
in_range f n k inside =
    slice_get-get_or (map f (range_with_len 0 n)) k (f k) (omega (arith, inside, length-map-range_with_len f 0 n)) ∙ ap Some (get_or-map-range_with_len f 0 n k k (f k) inside (omega arith))

pub row_there : (row : Option Row) → IsSome row → (r : Row) × (row ≡ Some r)
row_there None some = absurd (false≢true some)
row_there (Some r) some = (r, refl)

-- ---- a place of records

spells_record : (shape : Shape) (section : Section) (place : ℕ) (row : Row) → IsObject shape → Spells shape section place row → SpellsObjectRow shape section.widths section.first section.areas place row
spells_record (Shape.Object key fields) section place row object spells = spells
spells_record (Shape.List element) section place row object spells = absurd object
spells_record (Shape.Set element) section place row object spells = absurd object
spells_record (Shape.Map key value) section place row object spells = absurd object

record_spells : (shape : Shape) (section : Section) (place : ℕ) (row : Row) → IsObject shape → SpellsObjectRow shape section.widths section.first section.areas place row → Spells shape section place row
record_spells (Shape.Object key fields) section place row object spells = spells
record_spells (Shape.List element) section place row object spells = absurd object
record_spells (Shape.Set element) section place row object spells = absurd object
record_spells (Shape.Map key value) section place row object spells = absurd object

-- The row that a place spells is the one that is computed of it.
pub one_row : (shape : Shape) (widths first : List ℕ) (areas : List (List ℕ)) (place : ℕ) (row : Row) → IsObject shape → SpellsObjectRow shape widths first areas place row → record_row shape widths first areas place ≡ row
one_row shape widths first areas place row object spells =
    let parts = parts_up_to widths 0 first [] areas place in
    spelled shape parts place row (record_spells shape parts place row object spells)

module _ (shape : Shape) (widths first : List ℕ) (areas : List (List ℕ)) (count place : ℕ) (rows : List Row) (are : record_rows shape widths first areas count ≡ rows) (spells : AreSpelled shape widths first areas count) (inside : place < length rows) where
  pub place_inside : place < count
  place_inside = omega (arith, inside, ap (λ (rs : List Row). length rs) are, length-map-range_with_len (record_row shape widths first areas) 0 count)

  stands : slice_get rows place ≡ Some (record_row shape widths first areas place)
  stands = subst (λ (rs : List Row). slice_get rs place ≡ Some (record_row shape widths first areas place)) are (in_range (record_row shape widths first areas) count place place_inside)

  -- What a place spells is its row, and it spells one.
  pub row_read : (row : Row) → SpellsObjectRow shape widths first areas place row → slice_get rows place ≡ Some row
  row_read row told = stands ∙ ap Some (one_row shape widths first areas place row spells.object told)

  pub never_bad : (result : Result Row PlaceFault) (reason : Reason)
      → Yields IsFreePlace result (Ok (record_row shape widths first areas place)) (SpellsObjectRow shape widths first areas place (record_row shape widths first areas place)) → result ≡ Err (PlaceFault.Bad reason) → ⊥
  never_bad result reason yields is = elim (yields.1 (spells.spelled place place_inside)) [
    | inl same ↦ cc
    | inr free ↦ subst (λ (r : Result Row PlaceFault). IsErrAnd r IsFreePlace) is free
  ]

-- ---- records that are copied

module _ (shape : Shape) (half : HalfShape) (words : List ℕ) (ordinals : List ℕ) (kept : IsHalf shape half words) (can : CanPack shape half (length ordinals)) (live : All (λ o. IsSome (get (half_rows shape half words) o)) ordinals) where
  packed : IsPacked shape half words
  packed = packed_by shape half words kept can.places

  row_at : (place ordinal : ℕ) → slice_get ordinals place ≡ Some ordinal → (row : Row) × (get (half_rows shape half words) ordinal ≡ Some row)
  row_at place ordinal at =
      row_there (get (half_rows shape half words) ordinal)
      (subst (λ (o : ℕ). IsSome (get (half_rows shape half words) o)) (get_or_from_slice_get ordinals place ordinal 0 at) (live place 0 (slice_get_within ordinals place ordinal at)))

  holds : (place ordinal : ℕ) → slice_get ordinals place ≡ Some ordinal → HoldsPlace (shape_fields shape) half.widths (section_in shape half words).first (section_in shape half words).areas ordinal
  holds place ordinal at =
      let row = row_at place ordinal at in
      let inside = placed_in (half_rows shape half words) (places_of half.max) ordinal row.0 packed.can.held.places row.1 in
      object_holds shape half words (half_rows shape half words) ordinal can.object packed.laid inside (omega (arith, inside, packed.can.few))

  first_at : slice_get ordinals 0 ≡ Some (get_or ordinals 0 0)
  first_at = slice_get-get_or ordinals 0 0 can.some

  pub size_small : sum half.widths ≤ 65536
  size_small = let there = holds 0 (get_or ordinals 0 0) first_at in fields_small IsFieldWidth (λ field width is. is.0) (shape_fields shape) half.widths there.few there.wide

  pub bits_small : length ordinals * sum half.widths < 2 ^ 64
  bits_small =
      let few = can.few in
      let small = size_small in
      let below : length ordinals * sum half.widths ≤ 2 ^ 32 * sum half.widths = mul-le-mul_right (sum half.widths) (omega (arith, few)) in
      omega (arith, below, small)

  pub holds_each : (from : List ℕ) (size : ℕ) → from ≡ (section_in shape half words).first → size ≡ sum half.widths → HoldsEach from size ordinals
  holds_each from size same is place ordinal at =
      let there = holds place ordinal at in
      let cut = length-take (place_words shape half) words in
      let long : length from ≡ length (section_in shape half words).first = ap (λ (ws : List ℕ). length ws) same in
      let bits : (ordinal + 1) * size ≡ (ordinal + 1) * sum half.widths = ap (λ (s : ℕ). (ordinal + 1) * s) is in
      (omega (arith, there.within, long, bits), omega (arith, there.within, cut, packed.laid.short, bits))

  module _ (first : List ℕ) (areas : List (List ℕ)) (filled : length areas ≡ length (shape_fields shape)) (enough : length ordinals * sum half.widths ≤ 64 * length first)
      (copied : (place ordinal : ℕ) → slice_get ordinals place ≡ Some ordinal → record_at half.widths first place ≡ record_at half.widths (section_in shape half words).first ordinal) where
    spells_at : (place ordinal : ℕ) (row : Row) → slice_get ordinals place ≡ Some ordinal → get (half_rows shape half words) ordinal ≡ Some row → SpellsObjectRow shape half.widths first areas place row
    spells_at place ordinal row at is =
        row_moved shape half.widths (section_in shape half words).first first (section_in shape half words).areas areas ordinal place row can.fixed
        (areas_long (behind_items shape half words) half.lengths ∙ lengths_long shape half (half_rows shape half words) packed.laid.lengths ∙ sym filled) (sym (copied place ordinal at))
        (spells_record shape (section_in shape half words) ordinal row can.object (entry_of (IsSpelledIn shape (section_in shape half words)) (half_rows shape half words) ordinal row packed.laid.is.spelled is))

    is_row : (place ordinal : ℕ) → slice_get ordinals place ≡ Some ordinal → get (half_rows shape half words) ordinal ≡ Some (record_row shape half.widths first areas place)
    is_row place ordinal at =
        let row = row_at place ordinal at in
        row.1 ∙ ap Some (sym (one_row shape half.widths first areas place row.0 can.object (spells_at place ordinal row.0 at row.1)))

    rows_packed : AllZip (λ ordinal row. get (half_rows shape half words) ordinal ≡ Some row) ordinals (record_rows shape half.widths first areas (length ordinals))
    rows_packed =
        let rows = record_rows shape half.widths first areas (length ordinals) in
        zip_of (λ ordinal row. get (half_rows shape half words) ordinal ≡ Some row) ordinals rows (length-map-range_with_len (record_row shape half.widths first areas) 0 (length ordinals))
        (λ k ordinal row at is.
        let one : Some (record_row shape half.widths first areas k) ≡ Some row = sym (in_range (record_row shape half.widths first areas) (length ordinals) k (slice_get_within ordinals k ordinal at)) ∙ is in
        is_row k ordinal at ∙ one)

    are_spelled : AreSpelled shape half.widths first areas (length ordinals)
    are_spelled = record {
      object = can.object;
      holds = λ place below.
          let there = holds place (get_or ordinals place 0) (slice_get-get_or ordinals place 0 below) in
          let less : (place + 1) * sum half.widths ≤ length ordinals * sum half.widths = mul-le-mul_right (sum half.widths) (omega (arith, below)) in
          record { few = there.few; wide = there.wide; filled = filled; within = omega (arith, less, enough); below = omega (arith, below, can.few) };
      spelled = λ place below.
          let at = slice_get-get_or ordinals place 0 below in
          let row = row_at place (get_or ordinals place 0) at in
          let spells = spells_at place (get_or ordinals place 0) row.0 at row.1 in
          subst (SpellsObjectRow shape half.widths first areas place) (sym (one_row shape half.widths first areas place row.0 can.object spells)) spells;
    }

  -- Records that are copied from the half, and told by a copy of what describes it.
  pub old_records : (from first widths lengths : List ℕ) (areas : List (List ℕ)) (size : ℕ) (copy : Shape) → from ≡ (section_in shape half words).first → size ≡ sum half.widths → widths ≡ half.widths → copy ≡ shape → lengths ≡ half.lengths → areas ≡ replicate (length lengths) []
      → AreCopies from size ordinals first
      → AreSpelled copy widths first areas (length ordinals) × AllZip (λ ordinal row. get (half_rows shape half words) ordinal ≡ Some row) ordinals (record_rows copy widths first areas (length ordinals))
  old_records from first widths lengths areas size copy same is wide alike long none copies =
      let filled : length areas ≡ length (shape_fields shape) =
      ap (λ (bytes : List (List ℕ)). length bytes) none ∙ length-replicate (length lengths) [] ∙ ap (λ (ls : List ℕ). length ls) long ∙ lengths_long shape half (half_rows shape half words) packed.laid.lengths in
      let enough : length ordinals * sum half.widths ≤ 64 * length first = subst (λ (s : ℕ). length ordinals * s ≤ 64 * length first) is copies.long in
      let copied : (place ordinal : ℕ) → slice_get ordinals place ≡ Some ordinal → record_at half.widths first place ≡ record_at half.widths (section_in shape half words).first ordinal = λ place ordinal at.
      subst (λ (s : ℕ). element_of first (place * s) s ≡ element_of (section_in shape half words).first (ordinal * s) s) is
      (subst (λ (ws : List ℕ). element_of first (place * size) size ≡ element_of ws (ordinal * size) size) same (copies.each place ordinal at)) in
      subst (λ (s : Shape). AreSpelled s widths first areas (length ordinals) × AllZip (λ ordinal row. get (half_rows shape half words) ordinal ≡ Some row) ordinals (record_rows s widths first areas (length ordinals))) (sym alike)
      (subst (λ (ws : List ℕ). AreSpelled shape ws first areas (length ordinals) × AllZip (λ ordinal row. get (half_rows shape half words) ordinal ≡ Some row) ordinals (record_rows shape ws first areas (length ordinals))) (sym wide)
      (are_spelled first areas filled enough copied, rows_packed first areas filled enough copied))

-- ---- records copied one after another

-- The first of some ordinals have their records copied.
pub record CopiedUpTo (size : ℕ) (from to : List ℕ) (ordinals : List ℕ) (count : ℕ) : Type 0 where
  pub each : (place ordinal : ℕ) → place < count → slice_get ordinals place ≡ Some ordinal → element_of to (place * size) size ≡ element_of from (ordinal * size) size

pub copied_none : (size : ℕ) (from to ordinals : List ℕ) → CopiedUpTo size from to ordinals 0
copied_none size from to ordinals = record { each = λ place ordinal below at. absurd (omega (arith, below)) }

pub copied_more : (size : ℕ) (from old new ordinals : List ℕ) (count ordinal : ℕ) → CopiedUpTo size from old ordinals count → slice_get ordinals count ≡ Some ordinal
    → ((i v : ℕ) → i + v ≤ size → element_of new (count * size + i) v ≡ element_of from (ordinal * size + i) v)
    → ((i v : ℕ) → (i + v ≤ count * size) ⊎ (count * size + size ≤ i) → element_of new i v ≡ element_of old i v) → CopiedUpTo size from new ordinals (count + 1)
copied_more size from old new ordinals count ordinal so at here others = record {
  each = λ place o below there. elim (cases_eq place count) [
    | inl same ↦
        let one : Some o ≡ Some ordinal = sym there ∙ ap (slice_get ordinals) same ∙ at in
        let ordinal_is : o ≡ ordinal = cc in
        let new_bit : place * size ≡ count * size + 0 = ap (λ (p : ℕ). p * size) same ∙ omega arith in
        let old_bit : o * size ≡ ordinal * size + 0 = ap (λ (p : ℕ). p * size) ordinal_is ∙ omega arith in
        ap (λ bit. element_of new bit size) new_bit ∙ here 0 size (omega arith) ∙ ap (λ bit. element_of from bit size) (sym old_bit)
    | inr other ↦
        let before : place < count = omega (arith, below, λ (e : place ≡ count). other e) in
        let room : (place + 1) * size ≤ count * size = mul-le-mul_right size (omega (arith, before)) in
        others (place * size) size (inl (omega (arith, room))) ∙ so.each place o before there
  ];
}

-- The words have the bits of each ordinal's record.
pub source_at : (from ordinals : List ℕ) (size place ordinal : ℕ) → HoldsEach from size ordinals → place < length ordinals → ordinal ≡ get_or ordinals place 0 → (ordinal * size + size ≤ 64 * length from) × (ordinal * size + size < 2 ^ 64)
source_at from ordinals size place ordinal holds inside same =
    let there = holds place (get_or ordinals place 0) (slice_get-get_or ordinals place 0 inside) in
    subst (λ (o : ℕ). (o * size + size ≤ 64 * length from) × (o * size + size < 2 ^ 64)) (sym same) (omega (arith, there.0), omega (arith, there.1))

pub place_counted : (ordinals : List ℕ) (size place : ℕ) → length ordinals * size < 2 ^ 64 → place < length ordinals → place * size + size < 2 ^ 64
place_counted ordinals size place few inside = let below : (place + 1) * size ≤ length ordinals * size = mul-le-mul_right size (omega (arith, inside)) in omega (arith, below, few)
