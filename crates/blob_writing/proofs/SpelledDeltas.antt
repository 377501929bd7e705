-- The bytes that are written of a delta are read as it.
use Rattle.std.proofs.Common.{◌≡◌, ◌≤◌, ◌<◌, ◌^◌, ℕ, ℤ, List, [], ◌++◌, length, Option, subst, sym, ap, arith, append_assoc}
use Rattle.std.specs.List.{flat_map, All}
use Rattle.std.specs.Int.{w64}
use Rattle.std.specs.Prelude.{FitsSigned}
use Rattle.std.proofs.lemmas.List.{length-map}
use Rattle.std.proofs.lemmas.List.Elements.{All-map}
use Rattle.hol_varint.specs.Varint.{varint_bytes}
use Rattle.ordinal_set.specs.Gaps.{gap_bytes}
use Rattle.schema_model.specs.declared.schema.Field.{Field}
use Rattle.schema_model.specs.declared.schema.Shape.{Shape}
use Rattle.type_rows.specs.Layout.{width_count}
use Rattle.blob_frame.specs.Written.{schema_list_bytes, header_bytes}
use Rattle.blob_frame.proofs.Spelling.{Spells, spells_same, spells_then, spells_last, spells_judged, spells_varint}
use Rattle.blob_frame.proofs.SpelledSchemas.{IsWritten}
use Rattle.blob_sections.specs.declared.section.PackedRows.{PackedRows}
use Rattle.blob_sections.specs.Width.{field_widths}
use Rattle.blob_writing.specs.Carried.{IsMax, FitWords, AreCarried}
use Rattle.blob_writing.specs.Written.{area_bytes, records_bytes, runs_bytes, packed_bytes, max_bytes, ordinals_bytes}
use Rattle.blob_writing.proofs.Bodies.{types_stand, header_stands}
use Rattle.blob_writing.proofs.Placing.{SpellsAt, anywhere, at_then}
use Rattle.blob_writing.proofs.SpelledItems.{spells_value, spells_max, spells_field_widths, spells_part_widths, spells_words, spells_run, spells_areas}
use Rattle.blob_writing.proofs.SpelledTypes.{records_alone, runs_alone, spells_head}
use Rattle.blob_writing.proofs.WrittenGaps.{gaps_stand}
use Rattle.type_rows.specs.declared.patch.PatchSection.{PatchSection}
use Rattle.delta_blob.specs.Added.{words_for, added_records, added_runs, added_rows}
use Rattle.delta_blob.specs.Ordinals.{gap_run, ordinals}
use Rattle.delta_blob.specs.Parts.{patch_with, patch_section, patch_part, body, delta}
use Rattle.blob_writing.specs.Delta.{TypeChange, AreGaps, IsCarried, schemas_of, change_bytes, body_bytes, delta_bytes, IsWrittenDelta, header_of, part_of, parts_of}

-- the ordinals that are removed or added
spells_ordinals : (list : List ℕ) → AreGaps list → Spells ordinals list (area_bytes (gap_bytes list))
unfolding ordinals gap_run
spells_ordinals list h =
    spells_then _ (spells_varint (2 ^ 64) (length (gap_bytes list)) h.few) (spells_judged _ _ _ (spells_run (gap_bytes list)) (gaps_stand list h.rising h.small))

-- the packed rows of an OBJECT
spells_records : (key : Option (List (List ℕ))) (fields : List Field) (max : Option ℕ) (places : ℕ) (rows : PackedRows) → AreCarried (Shape.Object key fields) max places rows →
    Spells (added_records (Shape.Object key fields) max places) rows (flat_map varint_bytes rows.widths ++ records_bytes rows.packed)
unfolding added_records field_widths
spells_records key fields max places rows h =
    spells_value
    (spells_then _ (spells_field_widths max fields rows.widths h.wide)
    (spells_then _ (spells_words _ rows.packed.first h.enough h.fits.0)
    (spells_last (λ (areas : List (List ℕ)). record { widths = rows.widths; total = 0; packed = record { first = rows.packed.first; second = []; areas = areas } })
    (spells_areas (length fields) rows.packed.areas h.parts.0 h.fits.1))))
    (records_alone rows h.parts.1 h.parts.2)

-- those of a LIST, SET or MAP
spells_runs : (shape : Shape) (places : ℕ) (rows : PackedRows) → length rows.widths ≡ width_count shape → All (λ width. width ≤ 64) rows.widths → rows.packed.areas ≡ [] → (rows.total < 2 ^ 64) × FitWords rows.packed.first × FitWords rows.packed.second
    → words_for shape places rows.widths ≤ length rows.packed.first → Spells (added_runs shape places) rows (flat_map varint_bytes rows.widths ++ runs_bytes rows.total rows.packed)
unfolding added_runs
spells_runs shape places rows long wide none fit enough =
    spells_value
    (spells_then _ (spells_part_widths shape rows.widths long wide)
    (spells_then _ (spells_varint (2 ^ 64) rows.total fit.0)
    (spells_then _ (spells_words _ rows.packed.first enough fit.1)
    (spells_last (λ (items : List ℕ). record { widths = rows.widths; total = rows.total; packed = record { first = rows.packed.first; second = items; areas = [] } })
    (spells_words 0 rows.packed.second (omega arith) fit.2)))))
    (runs_alone rows none)

-- those of a type of this shape
spells_added : (shape : Shape) (max : Option ℕ) (places : ℕ) (rows : PackedRows) → AreCarried shape max places rows → Spells (added_rows shape max places) rows (packed_bytes shape rows)
unfolding added_rows
spells_added (Shape.Object key fields) max places rows h = spells_records key fields max places rows h
spells_added (Shape.List element) max places rows h = spells_runs (Shape.List element) places rows h.wide.0 h.wide.1 h.parts h.fits h.enough
spells_added (Shape.Set element) max places rows h = spells_runs (Shape.Set element) places rows h.wide.0 h.wide.1 h.parts h.fits h.enough
spells_added (Shape.Map key value) max places rows h = spells_runs (Shape.Map key value) places rows h.wide.0 h.wide.1 h.parts h.fits h.enough

-- the section of a changed type
spells_section : (shape : Shape) (max : Option ℕ) (removed added : List ℕ) (rows : PackedRows) → IsMax max → AreGaps removed → AreGaps added → AreCarried shape max (length added) rows →
    Spells (patch_section shape) (patch_with shape max removed added rows) (max_bytes max ++ (ordinals_bytes removed added ++ packed_bytes shape rows))
unfolding patch_section
spells_section shape max removed added rows small gone come carried = spells_same
    (spells_then _ (spells_max max small) (spells_then _ (spells_ordinals removed gone) (spells_then _ (spells_ordinals added come)
    (spells_last (λ (found : PackedRows). patch_with shape max removed added found) (spells_added shape max (length added) rows carried)))))
    (ap (λ (xs : List ℕ). max_bytes max ++ xs) (sym (append_assoc (area_bytes (gap_bytes removed)) (area_bytes (gap_bytes added)) (packed_bytes shape rows))))

-- a changed type
spells_change : (change : TypeChange) → IsCarried change → SpellsAt patch_part (part_of change) (change_bytes change)
unfolding patch_part
spells_change change h =
    at_then _ (λ at mid. part_of change at) (spells_head change.schema h.spellable h.texts)
    (λ at.
    anywhere (spells_last (λ (patch : PatchSection). record { at = at; schema = change.schema; section = patch })
    (spells_section change.schema.shape change.max change.removed change.added change.rows h.max h.removed h.added h.rows)))

-- each schema of what a delta can carry is one that can be written
written_schemas : (changes : List TypeChange) → All IsCarried changes → All IsWritten (schemas_of changes)
written_schemas changes carried = All-map IsWritten (λ (change : TypeChange). change.schema) changes
    (λ k d within. record { spellable = (carried k d within).spellable; texts = (carried k d within).texts })

-- the whole of a delta
whole_stands : (origin destination : ℤ) (changes : List TypeChange) → FitsSigned w64 origin → FitsSigned w64 destination → length changes ≤ 512 →
    length (schema_list_bytes (schemas_of changes)) ≤ 2 ^ 28 → All IsCarried changes →
    delta.Stands (delta_bytes origin destination changes) 0 (header_of origin destination changes, parts_of origin destination changes) (length (delta_bytes origin destination changes))
unfolding delta body
whole_stands origin destination changes from to few short carried =
    let front = header_bytes origin destination (schemas_of changes) in
    let count : length (schemas_of changes) ≤ 512 = omega (arith, few, length-map changes (λ (change : TypeChange). change.schema)) in
    header_stands body origin destination (schemas_of changes) (body_bytes changes) (parts_of origin destination changes) from to count (written_schemas changes carried) short
    (types_stand IsCarried change_bytes part_of spells_change front changes few carried)

pub delta_stands : (blob : List ℕ) (origin destination : ℤ) (changes : List TypeChange) → IsWrittenDelta blob origin destination changes →
    delta.Stands blob 0 (header_of origin destination changes, parts_of origin destination changes) (length blob)
delta_stands blob origin destination changes h =
    subst (λ (bytes : List ℕ). delta.Stands bytes 0 (header_of origin destination changes, parts_of origin destination changes) (length bytes)) (sym h.is)
    (whole_stands origin destination changes h.from_tag h.to_tag h.few h.short h.carried)
