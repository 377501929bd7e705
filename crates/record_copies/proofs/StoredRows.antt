-- Lemmas on records that stand packed: they are stored as they are.
use Rattle.std.proofs.Common.{◌≡◌, ℕ, ◌+◌, ◌*◌, List, [], ◌∷◌, ap, subst, refl, Some}
use Rattle.std.specs.Prelude.{map, sum}
use Rattle.std.specs.List.{AllZip}
use Rattle.bit_array.proofs.Elements.{element_of-lt}
use Rattle.row_model.specs.Row.{stored_value, stored_row}
use Rattle.schema_model.specs.Parts.{shape_fields}
use Rattle.schema_model.specs.declared.schema.Field.{Field}
use Rattle.schema_model.specs.declared.schema.Shape.{Shape}
use Rattle.row_model.specs.declared.row.Row.{Row}
use Rattle.row_model.specs.declared.row.Value.{Value}
use Rattle.object_codec.specs.ObjectPlace.{part_at, parts_from, IsFieldWidth, HoldsPlace, SpellsFields, SpellsObjectRow}
use Rattle.object_codec.specs.Packing.{IsRowPut}
use Rattle.record_copies.proofs.Taken.{stored_as_is}

values_stored : (fields : List Field) (widths first : List ℕ) (areas : List (List ℕ)) (size place before : ℕ) (values : List Value) → AllZip IsFieldWidth fields widths
    → SpellsFields fields (parts_from first size place before widths areas) values → map stored_value values ≡ values
values_stored fields widths first areas size place before [] wide spelled = refl
values_stored [] [] first areas size place before (value ∷ values) wide spelled = absurd spelled
values_stored [] (width ∷ widths) first areas size place before (value ∷ values) wide spelled = absurd wide
values_stored (field ∷ fields) [] first areas size place before (value ∷ values) wide spelled = absurd wide
values_stored (field ∷ fields) (width ∷ widths) first [] size place before (value ∷ values) wide spelled = absurd spelled
values_stored (field ∷ fields) (width ∷ widths) first (area ∷ areas) size place before (value ∷ values) wide spelled =
    let one : stored_value value ≡ value =
    stored_as_is field.kind (part_at first size place before width area) value wide.0.0 (element_of-lt first (place * size + before) width) spelled.0 in
    let rest : map stored_value values ≡ values = values_stored fields widths first areas size place (before + width) values wide.1 spelled.1 in
    cc

row_stored : (shape : Shape) (widths first : List ℕ) (areas : List (List ℕ)) (place : ℕ) (row : Row) → HoldsPlace (shape_fields shape) widths first areas place
    → SpellsObjectRow shape widths first areas place row → stored_row row ≡ row
row_stored shape widths first areas place (Row.Object values) holds spelled =
    ap Row.Object (values_stored (shape_fields shape) widths first areas (sum widths) place 0 values holds.wide spelled)
row_stored shape widths first areas place _ holds spelled = absurd spelled

-- a row that is put from where it stands is the row that the place spells
pub put_as_is : (shape : Shape) (from_widths from_first : List ℕ) (from_areas : List (List ℕ)) (from_place : ℕ) (widths old_first : List ℕ) (old_areas : List (List ℕ)) (first : List ℕ) (areas : List (List ℕ)) (place : ℕ)
    (row : Row) → HoldsPlace (shape_fields shape) from_widths from_first from_areas from_place → SpellsObjectRow shape from_widths from_first from_areas from_place row
    → IsRowPut shape widths old_first old_areas first areas place (Some row) → SpellsObjectRow shape widths first areas place row
put_as_is shape from_widths from_first from_areas from_place widths old_first old_areas first areas place row holds spelled put =
    subst (λ (r : Row). SpellsObjectRow shape widths first areas place r) (row_stored shape from_widths from_first from_areas from_place row holds spelled) put.packed
