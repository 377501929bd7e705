-- What holds of each type of a snapshot that stands in a blob: its schema can be spelled, it has the widths and the areas of its fields, and its live
-- ordinals rise.
use Rattle.std.proofs.Common.{◌≡◌, ◌≤◌, ℕ, List, [], Option, length, subst, sym}
use Rattle.std.specs.Prelude.{All}
use Rattle.std.specs.Int.{w32, w64}
use Rattle.std.specs.List.{AllZip}
use Rattle.std.specs.List.Sorted.{IsStrictlyIncreasing}
use Rattle.ordinal_set.specs.Population.{population_of}
use Rattle.ordinal_set.proofs.Populations.{rising-population}
use Rattle.schema_model.specs.declared.schema.Field.{Field}
use Rattle.schema_model.specs.declared.schema.FieldKind.{FieldKind}
use Rattle.schema_model.specs.declared.schema.Shape.{Shape}
use Rattle.type_rows.specs.declared.section.Section.{Section}
use Rattle.type_rows.specs.Layout.{words_needed}
use Rattle.type_rows.specs.WellFormed.{IsWidth}
use Rattle.blob_grammar.specs.Form.{◌>>=◌, nothing, judged, repeated, counted, at_most, here}
use Rattle.blob_frame.specs.declared.header.Header.{Header}
use Rattle.blob_frame.specs.Header.{header}
use Rattle.blob_frame.specs.Item.{fixed, vint, counted_run, end}
use Rattle.blob_frame.specs.SchemaForm.{schema}
use Rattle.blob_faults.proofs.FormValues.{Gives, gives_any, gives_at_most, gives_both, gives_counted, gives_each, gives_made, gives_nothing, gives_repeated, gives_then}
use Rattle.blob_faults.proofs.SettledRows.{HasFields}
use Rattle.blob_faults.proofs.Spelled.{IsSpelled, schema_spelled}
use Rattle.blob_sections.specs.declared.head.TypeHead.{TypeHead}
use Rattle.blob_sections.specs.declared.section.PackedRows.{PackedRows}
use Rattle.blob_sections.specs.Envelope.{shard_envelope}
use Rattle.blob_sections.specs.Head.{type_head}
use Rattle.blob_sections.specs.Population.{population}
use Rattle.blob_sections.specs.Section.{max_ordinal, packed_records, packed_rows, section_with, word_array}
use Rattle.blob_sections.specs.Width.{field_width, field_widths}
use Rattle.snapshot_blob.specs.declared.part.TypePart.{TypePart}
use Rattle.snapshot_blob.specs.Parts.{body, section_of, snapshot, type_part}

-- ---- packed rows

-- a field may have the width that stands
width_given : (max : Option ℕ) (kind : FieldKind) → Gives (field_width max kind) (IsWidth max kind)
unfolding field_width judged
width_given max kind bytes at width next stands = subst (IsWidth max kind) (sym stands.2.0) stands.2.1

-- so may each field of an OBJECT
widths_given : (key : Option (List (List ℕ))) (fields : List Field) (max : Option ℕ) → Gives (field_widths (Shape.Object key fields) max) (AllZip (λ (field : Field) width. IsWidth max field.kind width) fields)
unfolding field_widths
widths_given key fields max = gives_each (λ field. field_width max field.kind) (λ (field : Field) width. IsWidth max field.kind width) (λ field. width_given max field.kind) fields

-- The packed rows have the widths and areas of the fields, whatever ordinals are live.
abbrev HaveFields : Shape → Option ℕ → PackedRows → Type 0
HaveFields shape max rows = (live : List ℕ) → HasFields shape (section_with max rows live)

-- the packed rows of an OBJECT have a width and an area for each field
records_given : (key : Option (List (List ℕ))) (fields : List Field) (max : Option ℕ) → Gives (packed_records (Shape.Object key fields) max) (HaveFields (Shape.Object key fields) max)
unfolding packed_records
records_given key fields max =
    let shape = Shape.Object key fields in
    let words = λ (widths : List ℕ). word_array (words_needed shape (record { max = max; widths = widths })) in
    let made = λ (widths records : List ℕ) (areas : List (List ℕ)). nothing (record { widths = widths; total = 0; packed = record { first = records; second = []; areas = areas } }) in
    let behind = λ (widths records : List ℕ). repeated (length fields) counted_run >>= made widths records in
    gives_then (field_widths shape max) (λ widths. words widths >>= behind widths) (AllZip (λ (field : Field) width. IsWidth max field.kind width) fields) (HaveFields shape max) (widths_given key fields max) (λ widths wide.
    gives_then (words widths) (behind widths) (λ records. Unit {0}) (HaveFields shape max) (gives_any (words widths)) (λ records any.
    gives_then (repeated (length fields) counted_run) (made widths records) (λ areas. (length areas ≡ length fields) × All (λ area. Unit {0}) areas) (HaveFields shape max)
    (gives_repeated (length fields) counted_run (λ area. Unit {0}) (gives_any counted_run)) (λ areas many.
    gives_nothing (HaveFields shape max) (record { widths = widths; total = 0; packed = record { first = records; second = []; areas = areas } }) (λ live. (wide, many.0)))))

-- and so have those of each kind, since the others have no fields
rows_given : (shape : Shape) (max : Option ℕ) → Gives (packed_rows shape max) (HaveFields shape max)
unfolding packed_rows
rows_given (Shape.Object key fields) max = records_given key fields max
rows_given (Shape.List element) max = λ bytes at rows next stands live. tt
rows_given (Shape.Set element) max = λ bytes at rows next stands live. tt
rows_given (Shape.Map key value) max = λ bytes at rows next stands live. tt

-- ---- types

-- the live ordinals of a type rise
population_rises : Gives population IsStrictlyIncreasing
unfolding population
population_rises = gives_made population_of (counted (fixed w32) (fixed w64)) (λ words. Unit {0}) IsStrictlyIncreasing (gives_any (counted (fixed w32) (fixed w64))) (λ words any. rising-population words)

-- The section has the widths and areas of its fields, and its live ordinals rise.
abbrev IsSection : Shape → Section → Type 0
IsSection shape section = HasFields shape section × IsStrictlyIncreasing section.live

-- a section that stands is so
section_given : (shape : Shape) → Gives (section_of shape) (IsSection shape)
unfolding section_of
section_given shape =
    gives_then max_ordinal (λ max. packed_rows shape max >>= λ rows. population >>= λ live. nothing (section_with max rows live)) (λ max. Unit {0}) (IsSection shape) (gives_any max_ordinal) (λ max any.
    gives_then (packed_rows shape max) (λ rows. population >>= λ live. nothing (section_with max rows live)) (HaveFields shape max) (IsSection shape) (rows_given shape max) (λ rows have.
    gives_then population (λ live. nothing (section_with max rows live)) IsStrictlyIncreasing (IsSection shape) population_rises (λ live rise.
    gives_nothing (IsSection shape) (section_with max rows live) (have live, rise))))

-- The schema of the head can be spelled.
abbrev HasSpelled : TypeHead → Type 0
HasSpelled head = IsSpelled head.schema

-- a head that stands is so
head_given : Gives type_head HasSpelled
unfolding type_head
head_given =
    gives_then here (λ offset. schema >>= λ of_type. shard_envelope >>= λ done. nothing (record { at = offset; schema = of_type })) (λ offset. Unit {0}) HasSpelled (gives_any here) (λ offset any.
    gives_then schema (λ of_type. shard_envelope >>= λ done. nothing (record { at = offset; schema = of_type })) IsSpelled HasSpelled schema_spelled (λ of_type spelled.
    gives_then shard_envelope (λ done. nothing (record { at = offset; schema = of_type })) (λ done. Unit {0}) HasSpelled (gives_any shard_envelope) (λ done any.
    gives_nothing HasSpelled (record { at = offset; schema = of_type }) spelled)))

-- The schema of a type can be spelled, and its section has the widths and areas of its fields and live ordinals that rise.
pub record IsPart (part : TypePart) : Type 0 where
  pub spelled : IsSpelled part.schema
  pub fields : HasFields part.schema.shape part.section
  pub rise : IsStrictlyIncreasing part.section.live

-- a type that stands is so
part_given : Gives type_part IsPart
unfolding type_part
part_given =
    gives_then type_head (λ head. section_of head.schema.shape >>= λ rows. nothing (record { at = head.at; schema = head.schema; section = rows })) HasSpelled IsPart head_given (λ head spelled.
    gives_then (section_of head.schema.shape) (λ rows. nothing (record { at = head.at; schema = head.schema; section = rows })) (IsSection head.schema.shape) IsPart (section_given head.schema.shape) (λ rows is.
    gives_nothing IsPart (record { at = head.at; schema = head.schema; section = rows }) (record { spelled = spelled; fields = is.0; rise = is.1 })))

-- There are no more than 512 types, each of which is so.
abbrev pub AreParts : List TypePart → Type 0
AreParts parts = (length parts ≤ 512) × All IsPart parts

-- the types that stand in a body are so
pub body_given : Gives body AreParts
unfolding body
body_given =
    gives_then (counted (at_most vint 512) type_part) (λ parts. end >>= λ done. nothing parts) AreParts AreParts (gives_counted (at_most vint 512) type_part (λ n. n ≤ 512) IsPart (gives_at_most vint 512) part_given) (λ parts are.
    gives_then end (λ done. nothing parts) (λ done. Unit {0}) AreParts (gives_any end) (λ done any. gives_nothing AreParts parts are))

-- and so are those of a snapshot
pub snapshot_given : Gives snapshot (λ (items : Header × List TypePart). Unit {0} × AreParts items.1)
unfolding snapshot
snapshot_given = gives_both header body (λ head. Unit {0}) AreParts (gives_any header) body_given
