-- Packed rows that are read are those of a well-formed section.
use Rattle.std.proofs.Common.{◌≡◌, ◌≤◌, ◌<◌, ◌*◌, ◌^◌, ℕ, List, [], length, Option, ◌∙◌, ap, subst, sym, refl, arith}
use Rattle.std.specs.List.{All, AllZip}
use Rattle.schema_model.specs.declared.schema.Field.{Field}
use Rattle.schema_model.specs.declared.schema.Shape.{Shape}
use Rattle.schema_model.specs.Parts.{shape_fields}
use Rattle.object_codec.specs.ObjectPlace.{IsObject}
use Rattle.type_rows.specs.Layout.{words_needed, width_count}
use Rattle.type_rows.specs.WellFormed.{IsWidth, AreWidths, IsWellFormed}
use Rattle.blob_sections.specs.declared.section.PackedRows.{PackedRows}
use Rattle.blob_sections.specs.Section.{section_with}

-- the words of the places are as many as they need
abbrev IsEnough : Shape → Option ℕ → List ℕ → List ℕ → Type 0
IsEnough shape max widths first = words_needed shape (record { max = max; widths = widths }) ≤ length first

-- the widths of the fields of an OBJECT are its widths
pub field_widths_are : (shape : Shape) (max : Option ℕ) (widths : List ℕ) → IsObject shape → AllZip (λ (field : Field) width. IsWidth max field.kind width) (shape_fields shape) widths → AreWidths shape max widths
field_widths_are (Shape.Object key fields) max widths is wide = wide
field_widths_are (Shape.List element) max widths is wide = absurd is
field_widths_are (Shape.Set element) max widths is wide = absurd is
field_widths_are (Shape.Map key value) max widths is wide = absurd is

-- narrow widths, as many as the kind has, are those of another kind
pub part_widths_are : (shape : Shape) (max : Option ℕ) (widths : List ℕ) → (IsObject shape → ⊥) → length widths ≡ width_count shape → All (λ width. width ≤ 64) widths → AreWidths shape max widths
part_widths_are (Shape.Object key fields) max widths other long narrow = absurd (other tt)
part_widths_are (Shape.List element) max widths other long narrow = (long, narrow)
part_widths_are (Shape.Set element) max widths other long narrow = (long, narrow)
part_widths_are (Shape.Map key value) max widths other long narrow = (long, narrow)

-- another kind has no fields
pub no_fields : (shape : Shape) → (IsObject shape → ⊥) → length (shape_fields shape) ≡ 0
no_fields (Shape.Object key fields) other = absurd (other tt)
no_fields (Shape.List element) other = refl
no_fields (Shape.Set element) other = refl
no_fields (Shape.Map key value) other = refl

pub records_well : (shape : Shape) (max : Option ℕ) (rows : PackedRows) {fields : List Field} {least : ℕ} {lent : List ℕ} → IsObject shape → fields ≡ shape_fields shape
    → AllZip (λ (field : Field) width. IsWidth max field.kind width) fields rows.widths → least ≡ words_needed shape (record { max = max; widths = lent }) → lent ≡ rows.widths → least ≤ length rows.packed.first
    → rows.packed.second ≡ [] → length rows.packed.areas ≡ length fields → IsWellFormed shape (section_with max rows [])
records_well shape max rows {fields} {least} object are wide needed lent enough none areas = record {
  wide = field_widths_are shape max rows.widths object (subst (λ (fs : List Field). AllZip (λ (field : Field) width. IsWidth max field.kind width) fs rows.widths) are wide);
  filled = areas ∙ ap (λ (fs : List Field). length fs) are;
  enough = subst (λ n. n ≤ length rows.packed.first) (needed ∙ ap (λ (ws : List ℕ). words_needed shape (record { max = max; widths = ws })) lent) enough;
  short = subst (λ (ws : List ℕ). length ws < 2 ^ 58) (sym none) (omega arith);
}

pub runs_well : (shape : Shape) (max : Option ℕ) (rows : PackedRows) {least : ℕ} {lent : List ℕ} → (IsObject shape → ⊥) → length rows.widths ≡ width_count shape → All (λ width. width ≤ 64) rows.widths
    → least ≡ words_needed shape (record { max = max; widths = lent }) → lent ≡ rows.widths → least ≤ length rows.packed.first → 8 * length rows.packed.second ≤ 2 ^ 28 → rows.packed.areas ≡ []
    → IsWellFormed shape (section_with max rows [])
runs_well shape max rows other long narrow needed lent enough few none = record {
  wide = part_widths_are shape max rows.widths other long narrow;
  filled = ap (λ (xs : List (List ℕ)). length xs) none ∙ sym (no_fields shape other);
  enough = subst (λ n. n ≤ length rows.packed.first) (needed ∙ ap (λ (ws : List ℕ). words_needed shape (record { max = max; widths = ws })) lent) enough;
  short = omega arith;
}
