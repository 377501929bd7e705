-- Lemmas on the places of a run: what stands in them bounds the bytes of each field, and when all fields are moved they are the places of the same rows.
use Rattle.std.proofs.Common.{◌≡◌, ℕ, zero, suc, ◌+◌, ◌-◌, ◌*◌, ◌%◌, ◌^◌, ◌<◌, ◌≤◌, List, [], ◌∷◌, ◌++◌, length, get_or, take, drop, refl, sym, ap, ◌∙◌, subst, arith, append-nil, inl, inr, Option, ◌⊎◌}
use Rattle.std.specs.Prelude.{map, sum}
use Rattle.std.specs.List.{range_with_len}
use Rattle.std.specs.FinMap.{get}
use Rattle.std.proofs.Math.Nat.{mod-eq_of_lt, mul-le-mul, mul-le-mul_right}
use Rattle.std.proofs.lemmas.Bool.{cases_lt}
use Rattle.std.proofs.lemmas.Grind.{flat_map-append}
use Rattle.std.proofs.lemmas.List.{get_or_default, length-append, length-drop, length-take}
use Rattle.std.proofs.lemmas.Nat.{mod_below, pow_pos}
use Rattle.std.proofs.lemmas.Option.{slice_get_read}
use Rattle.bit_array.proofs.Elements.{element_of-lt}
use Rattle.row_model.specs.Areas.{area_of}
use Rattle.row_model.specs.declared.row.Value.{Value}
use Rattle.row_model.specs.Table.{RowMap}
use Rattle.schema_model.specs.Parts.{shape_fields}
use Rattle.schema_model.specs.declared.schema.FieldKind.{FieldKind}
use Rattle.schema_model.specs.declared.schema.Field.{Field}
use Rattle.schema_model.specs.declared.schema.Shape.{Shape}
use Rattle.object_codec.specs.ObjectPlace.{IsFieldWidth, IsKindWidth, element_at, part_at, start_at}
use Rattle.object_codec.specs.Packing.{HasBytes, PacksPart, values_of_place}
use Rattle.object_codec.specs.Part.{offset_in}
use Rattle.object_codec.specs.Stored.{column, value_at, value_bytes, values_bytes}
use Rattle.object_codec.proofs.FieldParts.{same_start, zip_all, zip_part}
use Rattle.object_codec.proofs.FieldWidths.{all_zip_at, fields_small}
use Rattle.object_codec.proofs.SameParts.{part_of}
use Rattle.std.proofs.lemmas.Slice.Zip.{AllZip-long}
use Rattle.record_copies.specs.declared.column.Column.{Column}
use Rattle.record_copies.specs.declared.run.Run.{Run}
use Rattle.record_copies.specs.Column.{CanShift, IsIn, Lies}
use Rattle.record_copies.specs.Run.{AreStanding, HasRunRoom, IsRunPut, run_bytes}
use Rattle.record_copies.proofs.Parts.{HaveSameRun, Steps, fixed_part, no_part_bytes, part_steps, place_moved, run_part}
use Rattle.record_copies.proofs.Offsets.{Shifted, bytes_from, grown_run, run_steps, same_run, shifted}
use Rattle.record_copies.proofs.Moves.{FieldKept, MovedSoFar, column_of, element_of_field, field_ends, start_of_field}

has_or_not : (kind : FieldKind) → HasBytes kind ⊎ (HasBytes kind → ⊥)
has_or_not FieldKind.Text = inl tt
has_or_not FieldKind.Bytes = inl tt
has_or_not _ = inr (λ has. has)

from_none : (n : ℕ) → n ≡ 0 + n
from_none n = omega arith

some_width : (kind : FieldKind) (width : ℕ) → HasBytes kind → IsKindWidth kind width → 1 ≤ width
some_width FieldKind.Text width has wide = wide
some_width FieldKind.Bytes width has wide = wide
some_width _ width has wide = absurd has

-- ---- what stands in the places up to an end

module _ (shape : Shape) (widths there : List ℕ) (areas : List (List ℕ)) (end : ℕ) (rows : RowMap) (stands : AreStanding shape widths there areas end rows) (k : ℕ) (field : Field) (inside : k < length (shape_fields shape))
    (is : field ≡ get_or (shape_fields shape) k field) where
  pub standing_wide : length widths ≡ length (shape_fields shape)
  standing_wide = AllZip-long IsFieldWidth (shape_fields shape) widths stands.wide

  pub field_width : IsFieldWidth field (get_or widths k 0)
  field_width = subst (λ (f : Field). IsFieldWidth f (get_or widths k 0)) (sym is) (all_zip_at IsFieldWidth (shape_fields shape) widths k field 0 stands.wide inside)

  -- an offset is below the null bit
  start_below : (p : ℕ) → start_of_field widths there k p < 2 ^ (get_or widths k 0 - 1)
  start_below zero = pow_pos (get_or widths k 0 - 1)
  start_below (suc p) = mod_below (element_of_field widths there k p) (2 ^ (get_or widths k 0 - 1)) (pow_pos (get_or widths k 0 - 1))

  gap_end : (p element : ℕ) → element ≡ start_of_field widths there k p → offset_in (get_or widths k 0) element ≡ start_of_field widths there k p
  gap_end p element same = ap (λ n. n % 2 ^ (get_or widths k 0 - 1)) same ∙ mod-eq_of_lt (start_below p)

  module _ (has : HasBytes field.kind) where
    place_steps : (p : ℕ) → p < end → Steps (start_of_field widths there k p) (start_of_field widths there k (suc p)) (area_of areas k) (values_bytes (value_at k (values_of_place (get rows p))))
    place_steps p below =
        part_steps shape widths there areas p (get rows p) k field (part_at there (sum widths) p (sum (take k widths)) (get_or widths k 0) (area_of areas k)) standing_wide stands.filled (stands.each p below) inside is has
        (ap (λ b. part_at there (sum widths) p b (get_or widths k 0) (area_of areas k)) (from_none (sum (take k widths)))) (gap_end p (element_of_field widths there k p))

    -- the bytes from one place up to another
    pub between_steps : (from to : ℕ) → from ≤ to → to ≤ end → Steps (start_of_field widths there k from) (start_of_field widths there k to) (area_of areas k) (run_bytes rows from to k)
    between_steps from to rises below =
        let whole : from + (to - from) ≡ to = omega arith in
        subst (λ n. Steps (start_of_field widths there k from) (start_of_field widths there k n) (area_of areas k) (run_bytes rows from to k)) whole
        (run_steps rows k (start_of_field widths there k) (area_of areas k) from (to - from) (λ p least less. place_steps p (omega arith)))

    -- they end within the bytes of the field
    pub end_inside : (to : ℕ) → to ≤ end → start_of_field widths there k to ≤ length (area_of areas k)
    end_inside to below = (between_steps 0 to (omega arith) below).inside (omega arith)

    pub run_long : (from to : ℕ) → from ≤ to → to ≤ end → length (run_bytes rows from to k) ≡ start_of_field widths there k to - start_of_field widths there k from
    run_long from to rises below =
        let steps = between_steps from to rises below in
        let inside_bytes = end_inside to below in
        let up = steps.rises in
        ap (λ (bytes : List ℕ). length bytes) steps.bytes
        ∙ omega (arith, length-take (start_of_field widths there k to - start_of_field widths there k from) (drop (start_of_field widths there k from) (area_of areas k)), length-drop (start_of_field widths there k from) (area_of areas k), inside_bytes, up)

    -- the element of a place may be shifted, where there is room for the bytes of the run behind others
    pub place_shifted : (run : Run) (more : ℕ) → run.end ≡ end → more + length (run_bytes rows run.place run.end k) < 2 ^ (get_or widths k 0 - 1) → (p : ℕ) → IsIn run p
        → Shifted (get_or widths k 0) (element_of_field widths there k p) (start_of_field widths there k run.place) more
    place_shifted run more ends room p here =
        let least = here.0 in
        let below = here.1 in
        let low = (between_steps run.place (suc p) (omega arith) (omega arith)).rises in
        let high = (between_steps (suc p) run.end (omega arith) (omega arith)).rises in
        let long = run_long run.place run.end (omega arith) (omega arith) in
        shifted (get_or widths k 0) (element_of_field widths there k p) (start_of_field widths there k run.place) more (some_width field.kind (get_or widths k 0) has field_width.1)
        (element_of-lt there (p * sum widths + sum (take k widths)) (get_or widths k 0)) low (omega (arith, low, high, long, room))

-- the end of the bytes of a run is below the null bit
pub room_at : (shape : Shape) (widths first : List ℕ) (areas : List (List ℕ)) (place end : ℕ) (rows : RowMap) (k : ℕ) (field : Field) → HasRunRoom shape widths first areas place end rows → k < length (shape_fields shape)
    → field ≡ get_or (shape_fields shape) k field → HasBytes field.kind → length (area_of areas k) + length (run_bytes rows place end k) < 2 ^ (get_or widths k 0 - 1)
room_at shape widths first areas place end rows k field room inside is has = room.ends k field (slice_get_read (shape_fields shape) (length (shape_fields shape)) k field refl inside is) has

-- the elements of a field may be moved
pub column_can_shift : (shape : Shape) (widths there : List ℕ) (areas_there : List (List ℕ)) (old_first : List ℕ) (old_areas : List (List ℕ)) (run : Run) (first : List ℕ) (areas : List (List ℕ)) (rows : RowMap) (k : ℕ) (field : Field)
    → AreStanding shape widths there areas_there run.end rows → HasRunRoom shape widths old_first old_areas run.place run.end rows → k < length (shape_fields shape) → field ≡ get_or (shape_fields shape) k field → HasBytes field.kind
    → FieldKept widths there old_areas run first areas k → CanShift (column_of widths k) first run (start_of_field widths there k run.place) (length (area_of areas k))
column_can_shift shape widths there areas_there old_first old_areas run first areas rows k field stands room inside is has left = λ p here.
    let shift = place_shifted shape widths there areas_there run.end rows stands k field inside is has run (length (area_of old_areas k)) refl (room_at shape widths old_first old_areas run.place run.end rows k field room inside is has) p here in
    let same = left.elements p here in
    let long = ap (λ (bytes : List ℕ). length bytes) left.area in
    subst (λ n. (start_of_field widths there k run.place ≤ element_of_field widths first k p) × (element_of_field widths first k p - start_of_field widths there k run.place + n < 2 ^ get_or widths k 0)) (sym long)
    (subst (λ e. (start_of_field widths there k run.place ≤ e) × (e - start_of_field widths there k run.place + length (area_of old_areas k) < 2 ^ get_or widths k 0)) (sym same) (shift.least, shift.below))

-- ---- all fields are moved

module _ (shape : Shape) (widths there : List ℕ) (areas_there : List (List ℕ)) (old_first : List ℕ) (old_areas : List (List ℕ)) (run : Run) (first : List ℕ) (areas : List (List ℕ)) (rows : RowMap) (index before : ℕ)
    (stands : AreStanding shape widths there areas_there run.end rows) (room : HasRunRoom shape widths old_first old_areas run.place run.end rows) (past : length (shape_fields shape) ≤ index)
    (moved : MovedSoFar (shape_fields shape) widths there areas_there old_first old_areas run first areas index before) where
  wide : length widths ≡ length (shape_fields shape)
  wide = AllZip-long IsFieldWidth (shape_fields shape) widths stands.wide

  filled : length areas ≡ length (shape_fields shape)
  filled = moved.filled ∙ room.filled

  -- where the bytes of the run start
  run_start : (k : ℕ) (field : Field) → k < length (shape_fields shape) → field ≡ get_or (shape_fields shape) k field → HasBytes field.kind → (p : ℕ) → p ≡ run.place
      → start_of_field widths first k p ≡ start_of_field widths there k p - start_of_field widths there k run.place + length (area_of old_areas k)
  run_start k field inside is has p at =
      let ends = field_ends widths k (omega (arith, inside, wide)) in
      let size : p * sum widths ≤ run.place * sum widths = mul-le-mul_right (sum widths) (let le : p ≤ run.place = omega arith in le) in
      let began = zip_part (λ f part. HasBytes f.kind → part.start ≡ length part.area) (shape_fields shape) widths old_first old_areas (sum widths) run.place 0 k field wide room.filled room.follows inside is has in
      let old = subst (λ b. start_at old_first (sum widths) b (get_or widths k 0) run.place ≡ length (area_of old_areas k)) (sym (from_none (sum (take k widths)))) began in
      let none = ap (λ n. start_of_field widths there k n) at in
      same_start old_first first (sum widths) (sum (take k widths)) (get_or widths k 0) p (run.place * sum widths) moved.same size ends
      ∙ ap (λ n. start_of_field widths old_first k n) at ∙ old ∙ omega (arith, none)

  -- where the bytes of a place start that is in the run, or behind it
  place_start : (k : ℕ) (field : Field) → k < length (shape_fields shape) → field ≡ get_or (shape_fields shape) k field → HasBytes field.kind → (p : ℕ) → run.place ≤ p → p ≤ run.end
      → start_of_field widths first k p ≡ start_of_field widths there k p - start_of_field widths there k run.place + length (area_of old_areas k)
  place_start k field inside is has zero least most = run_start k field inside is has zero (omega arith)
  place_start k field inside is has (suc q) least most =
      elim (cases_lt q run.place) [
        | inl before ↦ run_start k field inside is has (suc q) (omega arith)
        | inr from ↦
            let shift = place_shifted shape widths there areas_there run.end rows stands k field inside is has run (length (area_of old_areas k)) refl (room_at shape widths old_first old_areas run.place run.end rows k field room inside is has) q (from, omega arith) in
            let m = moved.moved k field (omega (arith, inside, past)) is has in
            ap (λ e. offset_in (get_or widths k 0) e) (m.elements q (from, omega arith)) ∙ shift.offset
      ]

  -- the part of a place of the run
  part_in_run : (p : ℕ) → IsIn run p → (k : ℕ) (field : Field) (value : Option Value) → k < length (shape_fields shape) → field ≡ get_or (shape_fields shape) k field
      → PacksPart field.kind (part_at there (sum widths) p (0 + sum (take k widths)) (get_or widths k 0) (area_of areas_there k)) value
      → PacksPart field.kind (part_at first (sum widths) p (0 + sum (take k widths)) (get_or widths k 0) (area_of areas k)) value
  part_in_run p here k field value inside is packs =
      let was = subst (λ b. PacksPart field.kind (part_at there (sum widths) p b (get_or widths k 0) (area_of areas_there k)) value) (sym (from_none (sum (take k widths)))) packs in
      subst (λ b. PacksPart field.kind (part_at first (sum widths) p b (get_or widths k 0) (area_of areas k)) value) (from_none (sum (take k widths)))
      (elim (has_or_not field.kind) [
        | inl has ↦ with_bytes has was
        | inr fixed ↦
            fixed_part field.kind (get_or widths k 0) (element_of_field widths there k p) (element_of_field widths first k p) (start_of_field widths there k p) (start_of_field widths first k p) (area_of areas_there k) (area_of areas k) value fixed
            (sym ((moved.kept k field inside is fixed).elements p here)) was
      ])
    where
      with_bytes : HasBytes field.kind → PacksPart field.kind (part_at there (sum widths) p (sum (take k widths)) (get_or widths k 0) (area_of areas_there k)) value
          → PacksPart field.kind (part_at first (sum widths) p (sum (take k widths)) (get_or widths k 0) (area_of areas k)) value
      with_bytes has was =
          let w = get_or widths k 0 in
          let least = here.0 in
          let below = here.1 in
          let less = start_of_field widths there k run.place in
          let more = length (area_of old_areas k) in
          let m = moved.moved k field (omega (arith, inside, past)) is has in
          let shift = place_shifted shape widths there areas_there run.end rows stands k field inside is has run more refl (room_at shape widths old_first old_areas run.place run.end rows k field room inside is has) p here in
          let low = (between_steps shape widths there areas_there run.end rows stands k field inside is has run.place p least (omega arith)).rises in
          let here_up = (between_steps shape widths there areas_there run.end rows stands k field inside is has p (suc p) (omega arith) (omega arith)).rises in
          let high = (between_steps shape widths there areas_there run.end rows stands k field inside is has (suc p) run.end (omega arith) (omega arith)).rises in
          let within = end_inside shape widths there areas_there run.end rows stands k field inside is has run.end (omega arith) in
          let same = same_run w (element_of_field widths there k p) (start_of_field widths there k p) less more (start_of_field widths there k run.end) (area_of areas_there k) (area_of old_areas k) refl shift low here_up high within in
          run_part field.kind (part_at there (sum widths) p (sum (take k widths)) w (area_of areas_there k)) (part_at first (sum widths) p (sum (take k widths)) w (area_of areas k)) value has
          (subst (λ e. HaveSameRun (part_at there (sum widths) p (sum (take k widths)) w (area_of areas_there k)) (part_of w e (start_of_field widths first k p) (area_of areas k))) (sym (m.elements p here))
          (subst (λ s. HaveSameRun (part_at there (sum widths) p (sum (take k widths)) w (area_of areas_there k)) (part_of w (element_of_field widths there k p - less + more) s (area_of areas k))) (sym (place_start k field inside is has p least (omega arith)))
          (subst (λ a. HaveSameRun (part_at there (sum widths) p (sum (take k widths)) w (area_of areas_there k)) (part_of w (element_of_field widths there k p - less + more) (start_of_field widths there k p - less + more) a)) (sym m.grown) same)))
          was

  -- what is behind the bytes of a field
  field_grown : (k : ℕ) (field : Field) → k < length (shape_fields shape) → field ≡ get_or (shape_fields shape) k field → area_of areas k ≡ area_of old_areas k ++ run_bytes rows run.place run.end k
  field_grown k field inside is =
      elim (has_or_not field.kind) [
        | inl has ↦
            (moved.moved k field (omega (arith, inside, past)) is has).grown
            ∙ ap (λ (bytes : List ℕ). area_of old_areas k ++ bytes) (sym (between_steps shape widths there areas_there run.end rows stands k field inside is has run.place run.end room.rises (omega arith)).bytes)
        | inr fixed ↦
            (moved.kept k field inside is fixed).area ∙ sym (append-nil (area_of old_areas k))
            ∙ ap (λ (bytes : List ℕ). area_of old_areas k ++ bytes) (sym (no_run_bytes k field inside is fixed run.place (run.end - run.place) (let whole : run.place + (run.end - run.place) ≤ run.end = omega (arith, room.rises) in whole)))
      ]
    where
      no_run_bytes : (k : ℕ) (field : Field) → k < length (shape_fields shape) → field ≡ get_or (shape_fields shape) k field → (HasBytes field.kind → ⊥) → (from count : ℕ) → from + count ≤ run.end → bytes_from rows k from count ≡ []
      no_run_bytes k field inside is fixed from zero within = refl
      no_run_bytes k field inside is fixed from (suc count) within =
          flat_map-append value_bytes (value_at k (values_of_place (get rows from))) (column k (map values_of_place (map (get rows) (range_with_len (from + 1) count))))
          ∙ ap (λ (bytes : List ℕ). bytes ++ bytes_from rows k (from + 1) count) (no_part_bytes shape widths there areas_there from (get rows from) k field wide stands.filled (stands.each from (omega arith)) inside is fixed)
          ∙ no_run_bytes k field inside is fixed (from + 1) count (omega arith)

  -- the part of an earlier place
  part_before : (place : ℕ) → place < run.place → (k : ℕ) (field : Field) (value : Option Value) → k < length (shape_fields shape) → field ≡ get_or (shape_fields shape) k field
      → PacksPart field.kind (part_at old_first (sum widths) place (0 + sum (take k widths)) (get_or widths k 0) (area_of old_areas k)) value
      → PacksPart field.kind (part_at first (sum widths) place (0 + sum (take k widths)) (get_or widths k 0) (area_of areas k)) value
  part_before place earlier k field value inside is packs =
      let w = get_or widths k 0 in
      let b = sum (take k widths) in
      let ends = field_ends widths k (omega (arith, inside, wide)) in
      let next : (place + 1) * sum widths ≤ run.place * sum widths = mul-le-mul_right (sum widths) (let le : place + 1 ≤ run.place = omega arith in le) in
      let element = moved.same (place * sum widths + b) w (omega (arith, ends, next)) in
      let start = same_start old_first first (sum widths) b w place (run.place * sum widths) moved.same (omega (arith, next)) ends in
      let was = subst (λ n. PacksPart field.kind (part_at old_first (sum widths) place n w (area_of old_areas k)) value) (sym (from_none b)) packs in
      subst (λ n. PacksPart field.kind (part_at first (sum widths) place n w (area_of areas k)) value) (from_none b)
      (elim (has_or_not field.kind) [
        | inl has ↦
            run_part field.kind (part_at old_first (sum widths) place b w (area_of old_areas k)) (part_at first (sum widths) place b w (area_of areas k)) value has
            (subst (λ e. HaveSameRun (part_at old_first (sum widths) place b w (area_of old_areas k)) (part_of w e (start_at first (sum widths) b w place) (area_of areas k))) (sym element)
            (subst (λ s. HaveSameRun (part_at old_first (sum widths) place b w (area_of old_areas k)) (part_of w (element_at old_first (sum widths) b w place) s (area_of areas k))) (sym start)
            (subst (λ a. HaveSameRun (part_at old_first (sum widths) place b w (area_of old_areas k)) (part_of w (element_at old_first (sum widths) b w place) (start_at old_first (sum widths) b w place) a)) (sym (field_grown k field inside is))
            (grown_run w (element_at old_first (sum widths) b w place) (start_at old_first (sum widths) b w place) (area_of old_areas k) (run_bytes rows run.place run.end k)))))
            was
        | inr fixed ↦
            fixed_part field.kind w (element_at old_first (sum widths) b w place) (element_at first (sum widths) b w place) (start_at old_first (sum widths) b w place) (start_at first (sum widths) b w place) (area_of old_areas k) (area_of areas k) value fixed
            (sym element) was
      ])

  pub run_put : IsRunPut shape widths old_first old_areas first areas run.place run.end rows
  run_put = record {
    packed = λ p least below. place_moved shape widths there first areas_there areas p p (get rows p) wide stands.filled filled (part_in_run p (least, below)) (stands.each p below);
    earlier = λ place row earlier packs. place_moved shape widths old_first first old_areas areas place place row wide room.filled filled (part_before place earlier) packs;
    filled = moved.filled;
    grown = λ k inside. field_grown k (get_or (shape_fields shape) k (some_field (shape_fields shape) k inside)) inside (get_or_again (shape_fields shape) k (some_field (shape_fields shape) k inside) inside);
    follows = zip_all (λ f part. HasBytes f.kind → part.start ≡ length part.area) (shape_fields shape) widths first areas (sum widths) run.end 0 wide filled
        (λ k field inside is has.
        subst (λ b. start_at first (sum widths) b (get_or widths k 0) run.end ≡ length (area_of areas k)) (from_none (sum (take k widths)))
        (place_start k field inside is has run.end room.rises (omega arith)
        ∙ (let long = run_long shape widths there areas_there run.end rows stands k field inside is has run.place run.end room.rises (omega arith) in
        let grown = ap (λ (bytes : List ℕ). length bytes) (field_grown k field inside is) ∙ length-append (area_of old_areas k) (run_bytes rows run.place run.end k) in omega (arith, long, grown))));
    bits = moved.bits;
  }
    where
      some_field : (fields : List Field) (k : ℕ) → k < length fields → Field
      some_field [] k inside = absurd (omega arith)
      some_field (field ∷ fields) k inside = field

      get_or_again : (fields : List Field) (k : ℕ) (d : Field) → k < length fields → get_or fields k d ≡ get_or fields k (get_or fields k d)
      get_or_again fields k d inside = get_or_default fields k d (get_or fields k d) inside

-- ---- where a run lies

-- how many bits there are up to its end
pub record RunFits (size there words : ℕ) (run : Run) : Type 0 where
  pub small : size ≤ 65536
  pub up : run.place * size ≤ run.end * size
  pub fits : run.end * size < 2 ^ 64
  pub source : run.end * size ≤ there
  pub inside : run.end * size ≤ words

pub run_fits : (shape : Shape) (widths there : List ℕ) (areas_there : List (List ℕ)) (old_first : List ℕ) (old_areas : List (List ℕ)) (run : Run) (rows : RowMap) (size : ℕ) → AreStanding shape widths there areas_there run.end rows
    → HasRunRoom shape widths old_first old_areas run.place run.end rows → size ≡ sum widths → RunFits size (64 * length there) (64 * length old_first) run
run_fits shape widths there areas_there old_first old_areas run rows size stands room is =
    subst (λ n. RunFits n (64 * length there) (64 * length old_first) run) (sym is)
    (let few : sum widths ≤ 65536 = fields_small IsFieldWidth (λ field width h. h.0) (shape_fields shape) widths stands.few stands.wide in
    let product : run.end * sum widths ≤ 2 ^ 32 * 65536 = mul-le-mul stands.below few in
    record {
      small = few;
      up = mul-le-mul_right (sum widths) room.rises;
      fits = omega (arith, product);
      source = stands.within;
      inside = room.within;
    })

-- the column of a field, as it is reached
pub column_is : (widths : List ℕ) (k size before : ℕ) → size ≡ sum widths → before ≡ sum (take k widths) → record { size = size; before = before; width = get_or widths k 0 } ≡ column_of widths k
column_is widths k size before whole summed =
    ap (λ (n : ℕ). record { size = n; before = before; width = get_or widths k 0 }) whole ∙ ap (λ (n : ℕ). record { size = sum widths; before = n; width = get_or widths k 0 }) summed

-- it lies within its records
pub column_lies : (shape : Shape) (widths there : List ℕ) (areas_there : List (List ℕ)) (old_first : List ℕ) (old_areas : List (List ℕ)) (run : Run) (rows : RowMap) (k size before : ℕ) (field : Field) (words : List ℕ)
    → AreStanding shape widths there areas_there run.end rows → HasRunRoom shape widths old_first old_areas run.place run.end rows → k < length (shape_fields shape) → field ≡ get_or (shape_fields shape) k field → HasBytes field.kind
    → size ≡ sum widths → before ≡ sum (take k widths) → run.end * sum widths ≤ 64 * length words → Lies (record { size = size; before = before; width = get_or widths k 0 }) words run
column_lies shape widths there areas_there old_first old_areas run rows k size before field words stands room inside is has whole summed within =
    let width = field_width shape widths there areas_there run.end rows stands k field inside is in
    let fits = run_fits shape widths there areas_there old_first old_areas run rows (sum widths) stands room refl in
    subst (λ (column : Column). Lies column words run) (sym (column_is widths k size before whole summed))
    record {
      narrow = width.0;
      some = some_width field.kind (get_or widths k 0) has width.1;
      record_holds = field_ends widths k (omega (arith, inside, standing_wide shape widths there areas_there run.end rows stands k field inside is));
      words_hold = within;
      fits = fits.fits;
    }
