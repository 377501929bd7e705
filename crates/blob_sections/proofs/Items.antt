-- Reading the items of a section.
use Rattle.std.proofs.Common.{◌≡◌, ◌-◌, ◌^◌, ℕ, List, length, Option, None, Some, Result, refl, ◌∙◌, ap, subst, sym, arith}
use Rattle.std.proofs.lemmas.Bool.Decides.{nat_tests}
use Rattle.schema_model.specs.declared.schema.Field.{Field}
use Rattle.schema_model.specs.declared.schema.Shape.{Shape}
use Rattle.schema_model.specs.Parts.{shape_fields}
use Rattle.object_codec.specs.ObjectPlace.{IsObject}
use Rattle.type_rows.specs.Layout.{words_needed, width_count}
use Rattle.blob_grammar.specs.Form.{repeated, each_of}
use Rattle.blob_frame.specs.declared.fault.BlobFault.{BlobFault}
use Rattle.blob_frame.specs.Item.{counted_run}
use Rattle.blob_cursor.specs.Scene.{Scene, Reads}
use Rattle.blob_sections.specs.declared.section.PackedRows.{PackedRows}
use Rattle.blob_sections.specs.Section.{max_of, word_array, packed_records, packed_runs, packed_rows}
use Rattle.blob_sections.specs.Width.{field_width, part_width, field_widths, part_widths}

-- the greatest VInt is none
pub max_none : (n : ℕ) → n ≡ 2 ^ 32 - 1 → None ≡ max_of n
max_none n is = subst (λ n. None ≡ max_of n) (sym is) refl

-- another is itself
pub max_some : (n : ℕ) → (n ≡ 2 ^ 32 - 1 → ⊥) → Some n ≡ max_of n
max_some n other = grind (arith, nat_tests)

-- the words that are read are as many as the places need
pub words_as_needed : (shape : Shape) (max : Option ℕ) {lent widths : List ℕ} {least : ℕ} {before after : Scene} {r : Result (List ℕ) BlobFault} → least ≡ words_needed shape (record { max = max; widths = lent }) → lent ≡ widths →
    Reads (word_array least) before after r → Reads (word_array (words_needed shape (record { max = max; widths = widths }))) before after r
words_as_needed shape max {before = before} {after} {r} least same p =
    subst (λ n. Reads (word_array n) before after r) (least ∙ ap (λ (ws : List ℕ). words_needed shape (record { max = max; widths = ws })) same) p

-- the widths that are read are those of the type's fields
pub reads_field_widths : (shape : Shape) (max : Option ℕ) (fields : List Field) {before after : Scene} {r : Result (List ℕ) BlobFault} → fields ≡ shape_fields shape →
    Reads (each_of (λ (field : Field). field_width max field.kind) fields) before after r → Reads (field_widths shape max) before after r
unfolding field_widths
reads_field_widths shape max fields {before = before} {after} {r} is p = subst (λ (fs : List Field). Reads (each_of (λ (field : Field). field_width max field.kind) fs) before after r) is p

-- so many widths that are read are those of the kind
pub reads_part_widths : (shape : Shape) (count : ℕ) {before after : Scene} {r : Result (List ℕ) BlobFault} → count ≡ width_count shape → Reads (repeated count part_width) before after r
    → Reads (part_widths shape) before after r
unfolding part_widths
reads_part_widths shape count {before} {after} {r} is p = subst (λ n. Reads (repeated n part_width) before after r) is p

-- the bytes that are read are those of the type's fields
pub reads_areas : (shape : Shape) (fields : List Field) {before after : Scene} {r : Result (List (List ℕ)) BlobFault} → fields ≡ shape_fields shape →
    Reads (repeated (length fields) counted_run) before after r → Reads (repeated (length (shape_fields shape)) counted_run) before after r
reads_areas shape fields {before = before} {after} {r} is p = subst (λ (fs : List Field). Reads (repeated (length fs) counted_run) before after r) is p

-- the packed rows of an OBJECT, and those of another kind
pub reads_records : (shape : Shape) (max : Option ℕ) {before after : Scene} {r : Result PackedRows BlobFault} → IsObject shape → Reads (packed_records shape max) before after r → Reads (packed_rows shape max) before after r
unfolding packed_rows
reads_records (Shape.Object key fields) max is p = p
reads_records (Shape.List element) max is p = absurd is
reads_records (Shape.Set element) max is p = absurd is
reads_records (Shape.Map key value) max is p = absurd is

pub reads_runs : (shape : Shape) (max : Option ℕ) {before after : Scene} {r : Result PackedRows BlobFault} → (IsObject shape → ⊥) → Reads (packed_runs shape max) before after r → Reads (packed_rows shape max) before after r
unfolding packed_rows
reads_runs (Shape.Object key fields) max other p = absurd (other tt)
reads_runs (Shape.List element) max other p = p
reads_runs (Shape.Set element) max other p = p
reads_runs (Shape.Map key value) max other p = p
