-- What holds of each type of a delta that stands in a blob: its schema can be spelled, and its section has the widths and the areas of its fields, all of which
-- count.
use Rattle.std.proofs.Common.{◌≡◌, ◌≤◌, ℕ, List, [], Option, length, refl, subst, sym}
use Rattle.std.specs.Prelude.{All}
use Rattle.std.specs.List.{AllZip}
use Rattle.schema_model.specs.declared.schema.Field.{Field}
use Rattle.schema_model.specs.declared.schema.FieldKind.{FieldKind}
use Rattle.schema_model.specs.declared.schema.Shape.{Shape}
use Rattle.type_rows.specs.declared.patch.PatchSection.{PatchSection}
use Rattle.type_rows.specs.Layout.{own_bits}
use Rattle.type_rows.specs.WellFormed.{IsWidth}
use Rattle.seen_patches.specs.Patch.{HasColumns}
use Rattle.blob_grammar.specs.Form.{◌>>=◌, nothing, judged, repeated, counted, at_most}
use Rattle.blob_frame.specs.Item.{vint, counted_run, end}
use Rattle.blob_faults.proofs.FormValues.{Gives, gives_any, gives_at_most, gives_counted, gives_each, gives_nothing, gives_repeated, gives_then}
use Rattle.blob_faults.proofs.Spelled.{IsSpelled}
use Rattle.blob_sections.specs.declared.head.TypeHead.{TypeHead}
use Rattle.blob_sections.specs.declared.section.PackedRows.{PackedRows}
use Rattle.blob_sections.specs.Head.{type_head}
use Rattle.blob_sections.specs.Section.{max_ordinal, word_array}
use Rattle.blob_sections.specs.Width.{field_width, field_widths}
use Rattle.delta_blob.specs.declared.part.DeltaPart.{DeltaPart}
use Rattle.delta_blob.specs.Added.{added_records, added_rows, words_for}
use Rattle.delta_blob.specs.Ordinals.{ordinals}
use Rattle.delta_blob.specs.Parts.{body, patch_part, patch_section, patch_with}
use Rattle.delta_blob.proofs.SpelledParts.{head_spelled}

-- ---- packed rows

-- a field may have the width that stands
width_given : (max : Option ℕ) (kind : FieldKind) → Gives (field_width max kind) (IsWidth max kind)
unfolding field_width judged
width_given max kind bytes at width next stands = subst (IsWidth max kind) (sym stands.2.0) stands.2.1

-- so may each field of an OBJECT
widths_given : (key : Option (List (List ℕ))) (fields : List Field) (max : Option ℕ) → Gives (field_widths (Shape.Object key fields) max) (AllZip (λ (field : Field) width. IsWidth max field.kind width) fields)
unfolding field_widths
widths_given key fields max = gives_each (λ field. field_width max field.kind) (λ (field : Field) width. IsWidth max field.kind width) (λ field. width_given max field.kind) fields

-- The packed rows have the widths and areas of the fields, whatever ordinals are removed and added.
abbrev HaveColumns : Shape → Option ℕ → PackedRows → Type 0
HaveColumns shape max rows = (removed added : List ℕ) → HasColumns shape (patch_with shape max removed added rows)

-- the packed rows of an OBJECT have a width and an area for each field
records_given : (key : Option (List (List ℕ))) (fields : List Field) (max : Option ℕ) (places : ℕ) → Gives (added_records (Shape.Object key fields) max places) (HaveColumns (Shape.Object key fields) max)
unfolding added_records
records_given key fields max places =
    let shape = Shape.Object key fields in
    let words = λ (widths : List ℕ). word_array (words_for shape places widths) in
    let made = λ (widths records : List ℕ) (areas : List (List ℕ)). nothing (record { widths = widths; total = 0; packed = record { first = records; second = []; areas = areas } }) in
    let behind = λ (widths records : List ℕ). repeated (length fields) counted_run >>= made widths records in
    gives_then (field_widths shape max) (λ widths. words widths >>= behind widths) (AllZip (λ (field : Field) width. IsWidth max field.kind width) fields) (HaveColumns shape max) (widths_given key fields max) (λ widths wide.
    gives_then (words widths) (behind widths) (λ records. Unit {0}) (HaveColumns shape max) (gives_any (words widths)) (λ records any.
    gives_then (repeated (length fields) counted_run) (made widths records) (λ areas. (length areas ≡ length fields) × All (λ area. Unit {0}) areas) (HaveColumns shape max)
    (gives_repeated (length fields) counted_run (λ area. Unit {0}) (gives_any counted_run)) (λ areas many.
    gives_nothing (HaveColumns shape max) (record { widths = widths; total = 0; packed = record { first = records; second = []; areas = areas } }) (λ removed added. (wide, many.0)))))

-- and so have those of each kind, since the others have no fields
rows_given : (shape : Shape) (max : Option ℕ) (places : ℕ) → Gives (added_rows shape max places) (HaveColumns shape max)
unfolding added_rows
rows_given (Shape.Object key fields) max places = records_given key fields max places
rows_given (Shape.List element) max places = λ bytes at rows next stands removed added. tt
rows_given (Shape.Set element) max places = λ bytes at rows next stands removed added. tt
rows_given (Shape.Map key value) max places = λ bytes at rows next stands removed added. tt

-- ---- types

-- The section has the widths and areas of its fields, and all of them count.
abbrev IsSection : Shape → PatchSection → Type 0
IsSection shape section = HasColumns shape section × (section.own ≡ own_bits shape section.widths)

-- a section that stands is so
section_given : (shape : Shape) → Gives (patch_section shape) (IsSection shape)
unfolding patch_section
section_given shape =
    let made = λ (max : Option ℕ) (removed added : List ℕ) (rows : PackedRows). nothing (patch_with shape max removed added rows) in
    let behind = λ (max : Option ℕ) (removed added : List ℕ). added_rows shape max (length added) >>= made max removed added in
    let adding = λ (max : Option ℕ) (removed : List ℕ). ordinals >>= behind max removed in
    gives_then max_ordinal (λ max. ordinals >>= adding max) (λ max. Unit {0}) (IsSection shape) (gives_any max_ordinal) (λ max any.
    gives_then ordinals (adding max) (λ removed. Unit {0}) (IsSection shape) (gives_any ordinals) (λ removed any.
    gives_then ordinals (behind max removed) (λ added. Unit {0}) (IsSection shape) (gives_any ordinals) (λ added any.
    gives_then (added_rows shape max (length added)) (made max removed added) (HaveColumns shape max) (IsSection shape) (rows_given shape max (length added)) (λ rows have.
    gives_nothing (IsSection shape) (patch_with shape max removed added rows) (have removed added, refl)))))

-- The schema of a type can be spelled, its section has the widths and areas of its fields, and all of them count.
pub record IsGivenPart (part : DeltaPart) : Type 0 where
  pub spelled : IsSpelled part.schema
  pub columns : HasColumns part.schema.shape part.section
  pub own : part.section.own ≡ own_bits part.schema.shape part.section.widths

-- a type that stands is so
part_given : Gives patch_part IsGivenPart
unfolding patch_part
part_given =
    gives_then type_head (λ head. patch_section head.schema.shape >>= λ patch. nothing (record { at = head.at; schema = head.schema; section = patch })) (λ (head : TypeHead). IsSpelled head.schema) IsGivenPart head_spelled (λ head spelled.
    gives_then (patch_section head.schema.shape) (λ patch. nothing (record { at = head.at; schema = head.schema; section = patch })) (IsSection head.schema.shape) IsGivenPart (section_given head.schema.shape) (λ patch is.
    gives_nothing IsGivenPart (record { at = head.at; schema = head.schema; section = patch }) (record { spelled = spelled; columns = is.0; own = is.1 })))

-- the types that stand in a body are so
pub body_given : Gives body (λ parts. All IsGivenPart parts)
unfolding body
body_given =
    gives_then (counted (at_most vint 512) patch_part) (λ parts. end >>= λ done. nothing parts) (λ parts. (length parts ≤ 512) × All IsGivenPart parts) (λ parts. All IsGivenPart parts)
    (gives_counted (at_most vint 512) patch_part (λ n. n ≤ 512) IsGivenPart (gives_at_most vint 512) part_given) (λ parts are.
    gives_then end (λ done. nothing parts) (λ done. Unit {0}) (λ parts. All IsGivenPart parts) (gives_any end) (λ done any. gives_nothing (λ (parts : List DeltaPart). All IsGivenPart parts) parts are.1))
