-- Lemmas on the walk along the fields of a record that is copied.
use Rattle.std.proofs.Common.{◌≡◌, ℕ, zero, suc, ◌+◌, ◌*◌, ◌<◌, ◌≤◌, List, [], ◌∷◌, length, get_or, take, refl, sym, ap, ◌∙◌, subst, arith, append-nil, Option, Some, set, ◌⊎◌}
use Rattle.std.specs.Prelude.{sum, slice_get, IfSome}
use Rattle.std.specs.Option.{option_to_list}
use Rattle.std.proofs.lemmas.List.Sums.{sum_by-cons, sum_by_more}
use Rattle.row_model.specs.Areas.{area_of}
use Rattle.schema_model.specs.Parts.{shape_fields}
use Rattle.schema_model.specs.declared.schema.Field.{Field}
use Rattle.schema_model.specs.declared.schema.Shape.{Shape}
use Rattle.row_model.specs.declared.row.Row.{Row}
use Rattle.row_model.specs.declared.row.Value.{Value}
use Rattle.object_codec.specs.ObjectPlace.{part_at, parts_from, HoldsPlace, SpellsFields, SpellsObjectRow}
use Rattle.object_codec.specs.Packing.{HoldsValue, HasRoom, IsRowPut}
use Rattle.object_codec.specs.Encoded.{IsTaken}
use Rattle.object_codec.specs.Part.{SpellsValue}
use Rattle.bit_array.specs.Element.{element_of, SetsBlock}
use Rattle.object_codec.specs.Stored.{values_of_row, value_bytes, values_bytes}
use Rattle.object_codec.proofs.FieldWidths.{widths_long}
use Rattle.object_codec.proofs.Rows.{row_once}
use Rattle.object_codec.proofs.RowPuts.{PutSoFar, room, put_none, put_more, row_put}
use Rattle.record_copies.specs.Parts.{HasRoomFor}

-- the value that the part of a field spells
spelled_at : (fields : List Field) (widths first : List ℕ) (areas : List (List ℕ)) (size place before : ℕ) (values : List Value) (k : ℕ) (field : Field) → length widths ≡ length fields
    → length areas ≡ length fields → SpellsFields fields (parts_from first size place before widths areas) values → k < length fields → field ≡ get_or fields k field
    → (value : Value) × (slice_get values k ≡ Some value) × SpellsValue field.kind (part_at first size place (before + sum (take k widths)) (get_or widths k 0) (area_of areas k)) value
spelled_at [] widths first areas size place before values k field wide filled all inside is = absurd (omega arith)
spelled_at (f ∷ fields) [] first areas size place before values k field wide filled all inside is = absurd (omega arith)
spelled_at (f ∷ fields) (width ∷ widths) first [] size place before values k field wide filled all inside is = absurd (omega arith)
spelled_at (f ∷ fields) (width ∷ widths) first (area ∷ areas) size place before [] k field wide filled all inside is = absurd all
spelled_at (f ∷ fields) (width ∷ widths) first (area ∷ areas) size place before (value ∷ values) zero field wide filled all inside is =
    let none : before ≡ before + 0 = omega arith in (
      value,
      refl,
      subst (λ (b : ℕ). SpellsValue field.kind (part_at first size place b width area) value) none
          (subst (λ (g : Field). SpellsValue g.kind (part_at first size place before width area) value) (sym is) all.0),
    )
spelled_at (f ∷ fields) (width ∷ widths) first (area ∷ areas) size place before (value ∷ values) (suc k) field wide filled all inside is =
    let e : before + width + sum (take k widths) ≡ before + sum (width ∷ take k widths) = omega (arith, sum_by-cons (λ (w : ℕ). w) width (take k widths)) in
    let rest = spelled_at fields widths first areas size place (before + width) values k field (omega arith) (omega arith) all.1 (omega arith) is in
    (rest.0, rest.1, subst (λ (b : ℕ). SpellsValue field.kind (part_at first size place b (get_or widths k 0) (area_of areas k)) rest.0) e rest.2)

-- the same of a row
pub row_spelled_at : (shape : Shape) (widths first : List ℕ) (areas : List (List ℕ)) (place : ℕ) (row : Row) (k : ℕ) (field : Field) → length widths ≡ length (shape_fields shape)
    → length areas ≡ length (shape_fields shape) → SpellsObjectRow shape widths first areas place row → k < length (shape_fields shape) → field ≡ get_or (shape_fields shape) k field
    → (value : Value) × (slice_get (values_of_row row) k ≡ Some value) × SpellsValue field.kind (part_at first (sum widths) place (0 + sum (take k widths)) (get_or widths k 0) (area_of areas k)) value
row_spelled_at shape widths first areas place (Row.Object values) k field wide filled spelled inside is =
    spelled_at (shape_fields shape) widths first areas (sum widths) place 0 values k field wide filled spelled inside is
row_spelled_at shape widths first areas place _ k field wide filled spelled inside is = absurd spelled

-- there is room for the value of each field
pub ready : (shape : Shape) (fields : List Field) (from_widths from_first : List ℕ) (from_areas : List (List ℕ)) (from_place : ℕ) (widths old_first : List ℕ) (old_areas : List (List ℕ)) (place : ℕ) (row : Row)
    (k before size : ℕ) (field : Field) (area : List ℕ) → HoldsPlace (shape_fields shape) from_widths from_first from_areas from_place
    → SpellsObjectRow shape from_widths from_first from_areas from_place row → HasRoom shape widths old_first old_areas place (Some row) → fields ≡ shape_fields shape → k < length fields
    → field ≡ get_or fields k field → before ≡ sum (take k from_widths) → size ≡ sum from_widths → area ≡ area_of old_areas k
    → (value : Value) × (slice_get (values_of_row row) k ≡ Some value) × HasRoomFor field.kind (part_at from_first size from_place before (get_or from_widths k 0) (area_of from_areas k)) (get_or widths k 0) area value
ready shape fields from_widths from_first from_areas from_place widths old_first old_areas place row k before size field area holds spelled has are inside is summed whole left =
    let there : k < length (shape_fields shape) = subst (λ (fs : List Field). k < length fs) are inside in
    let at : field ≡ get_or (shape_fields shape) k field = is ∙ ap (λ (fs : List Field). get_or fs k field) are in
    let r = room shape (shape_fields shape) widths old_first old_areas place (Some row) (values_of_row row) has refl refl in
    let given = row_spelled_at shape from_widths from_first from_areas from_place row k field (widths_long (shape_fields shape) from_widths from_first from_areas from_place holds) holds.filled spelled there at in
    let start : 0 + sum (take k from_widths) ≡ before = omega arith in
    let alone : values_bytes (option_to_list (slice_get (values_of_row row) k)) ≡ value_bytes given.0 = ap (λ (o : Option Value). values_bytes (option_to_list o)) given.1 ∙ append-nil (value_bytes given.0) in
    let bytes = ap (λ (bs : List ℕ). length bs) alone in
    let same = ap (λ (bs : List ℕ). length bs) left in (
      given.0,
      given.1,
      record {
        spelled = subst (λ (n : ℕ). SpellsValue field.kind (part_at from_first n from_place before (get_or from_widths k 0) (area_of from_areas k)) given.0) (sym whole)
            (subst (λ (b : ℕ). SpellsValue field.kind (part_at from_first (sum from_widths) from_place b (get_or from_widths k 0) (area_of from_areas k)) given.0) start given.2);
        number = subst (λ (o : Option Value). IfSome o (HoldsValue (get_or widths k 0))) given.1 (r.numbers k);
        ends = λ has_bytes. let fits = r.ends k field there at has_bytes in omega (arith, fits, bytes, same);
      },
    )

-- the fields below an index are copied
pub record CopiedSoFar (shape : Shape) (fields : List Field) (from_widths from_first : List ℕ) (from_areas : List (List ℕ)) (from_place : ℕ) (widths old_first : List ℕ) (old_areas : List (List ℕ)) (first : List ℕ)
    (areas : List (List ℕ)) (place index before at : ℕ) : Type 0 where
  pub summed : before ≡ sum (take index from_widths)
  pub put : (row : Row) → SpellsObjectRow shape from_widths from_first from_areas from_place row → PutSoFar fields widths old_first old_areas (values_of_row row) first areas place index at

-- where there is room for a row that the place spells, there is for each
pub room_for_each : (shape : Shape) (from_widths from_first : List ℕ) (from_areas : List (List ℕ)) (from_place : ℕ) (widths first : List ℕ) (areas : List (List ℕ)) (place : ℕ) (one other : Row)
    → SpellsObjectRow shape from_widths from_first from_areas from_place one → SpellsObjectRow shape from_widths from_first from_areas from_place other
    → HasRoom shape widths first areas place (Some one) → HasRoom shape widths first areas place (Some other)
room_for_each shape from_widths from_first from_areas from_place widths first areas place one other spells_one spells_other has =
    subst (λ (row : Row). HasRoom shape widths first areas place (Some row)) (row_once shape from_widths from_first from_areas from_place one other spells_one spells_other) has

-- no field is copied yet
pub copied_none : (shape : Shape) (fields : List Field) (from_widths from_first : List ℕ) (from_areas : List (List ℕ)) (from_place : ℕ) (widths first : List ℕ) (areas : List (List ℕ)) (place at size : ℕ)
    → size ≡ sum widths → at ≡ place * size → CopiedSoFar shape fields from_widths from_first from_areas from_place widths first areas first areas place 0 0 at
copied_none shape fields from_widths from_first from_areas from_place widths first areas place at size whole is =
    record { summed = refl; put = λ row spelled. put_none fields widths first areas (values_of_row row) place at size whole is }

-- one field more is copied
pub copied_more : (shape : Shape) (fields : List Field) (from_widths from_first : List ℕ) (from_areas : List (List ℕ)) (from_place : ℕ) (widths old_first : List ℕ) (old_areas : List (List ℕ)) (first first' : List ℕ)
    (areas : List (List ℕ)) (place index before at size element : ℕ) (lent area : List ℕ) (field : Field) (one : Row)
    → CopiedSoFar shape fields from_widths from_first from_areas from_place widths old_first old_areas first areas place index before at
    → HoldsPlace (shape_fields shape) from_widths from_first from_areas from_place → SpellsObjectRow shape from_widths from_first from_areas from_place one
    → HasRoom shape widths old_first old_areas place (Some one) → fields ≡ shape_fields shape → index < length fields → field ≡ get_or fields index field → size ≡ sum from_widths → lent ≡ area_of areas index
    → ((value : Value) → HasRoomFor field.kind (part_at from_first size from_place before (get_or from_widths index 0) (area_of from_areas index)) (get_or widths index 0) lent value
    → IsTaken field.kind (get_or widths index 0) element lent area (Some value))
    → SetsBlock first first' at (get_or widths index 0) element → element_of first' at (get_or widths index 0) ≡ element
    → ((i v : ℕ) → (i + v ≤ at) ⊎ (at + get_or widths index 0 ≤ i) → element_of first' i v ≡ element_of first i v) → length first' ≡ length first
    → CopiedSoFar shape fields from_widths from_first from_areas from_place widths old_first old_areas first' (set areas index area) place (index + 1) (before + get_or from_widths index 0) (at + get_or widths index 0)
copied_more shape fields from_widths from_first from_areas from_place widths old_first old_areas first first' areas place index before at size element lent area field one
    copied holds spelled_one has are inside is whole lent_is each block there others long =
    let wide = widths_long (shape_fields shape) from_widths from_first from_areas from_place holds in
    let fields_long = ap (λ (fs : List Field). length fs) are in
    record {
      summed = ap (λ (b : ℕ). b + get_or from_widths index 0) copied.summed ∙ sym (sum_by_more (λ (w : ℕ). w) from_widths index 0 (omega (arith, wide, fields_long)));
      put = λ row spelled.
          let done = copied.put row spelled in
          let has_row = room_for_each shape from_widths from_first from_areas from_place widths old_first old_areas place one row spelled_one spelled has in
          let r = room shape fields widths old_first old_areas place (Some row) (values_of_row row) has_row are refl in
          let given = ready shape fields from_widths from_first from_areas from_place widths old_first old_areas place row index before size field lent holds spelled has_row are inside is copied.summed whole
          (lent_is ∙ done.left index (omega arith)) in
          put_more fields widths old_first old_areas (values_of_row row) first first' areas place index at element (get_or widths index 0) area field done r.holds r.follows inside is refl
          (subst (λ (o : Option Value). IsTaken field.kind (get_or widths index 0) element (area_of areas index) area o) (sym given.1)
          (subst (λ (bytes : List ℕ). IsTaken field.kind (get_or widths index 0) element bytes area (Some given.0)) lent_is (each given.0 given.2)))
          block there others long;
    }

-- all fields are copied
pub all_copied : (shape : Shape) (fields : List Field) (from_widths from_first : List ℕ) (from_areas : List (List ℕ)) (from_place : ℕ) (widths old_first : List ℕ) (old_areas : List (List ℕ)) (first : List ℕ)
    (areas : List (List ℕ)) (place index before at : ℕ) (one : Row) → CopiedSoFar shape fields from_widths from_first from_areas from_place widths old_first old_areas first areas place index before at
    → SpellsObjectRow shape from_widths from_first from_areas from_place one → HasRoom shape widths old_first old_areas place (Some one) → fields ≡ shape_fields shape → length fields ≤ index
    → (row : Row) → SpellsObjectRow shape from_widths from_first from_areas from_place row → IsRowPut shape widths old_first old_areas first areas place (Some row)
all_copied shape fields from_widths from_first from_areas from_place widths old_first old_areas first areas place index before at one copied spelled_one has are past row spelled =
    row_put shape fields widths old_first old_areas (values_of_row row) first areas place index at (Some row)
    (room_for_each shape from_widths from_first from_areas from_place widths old_first old_areas place one row spelled_one spelled has) are refl past (copied.put row spelled)
