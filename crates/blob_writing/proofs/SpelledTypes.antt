-- The bytes that are written of packed rows and of a type are read as them.
use Rattle.std.proofs.Common.{◌≡◌, ◌≤◌, ◌<◌, ◌^◌, ℕ, List, [], ◌++◌, length, Option, sym, arith}
use Rattle.std.specs.List.{flat_map, All}
use Rattle.std.specs.Str.{IsUtf8}
use Rattle.hol_varint.specs.Varint.{varint_bytes}
use Rattle.schema_model.specs.declared.schema.Field.{Field}
use Rattle.schema_model.specs.declared.schema.Schema.{Schema}
use Rattle.schema_model.specs.declared.schema.Shape.{Shape}
use Rattle.schema_model.specs.Schema.{EachName, IsSpellable}
use Rattle.type_rows.specs.Layout.{places_of, width_count, words_needed}
use Rattle.blob_frame.proofs.Spelling.{Spells, spells_then, spells_last, spells_varint}
use Rattle.blob_frame.proofs.SpelledSchemas.{spells_schema}
use Rattle.blob_sections.specs.declared.section.PackedRows.{PackedRows}
use Rattle.blob_sections.specs.Head.{type_head}
use Rattle.blob_sections.specs.Section.{packed_records, packed_runs, packed_rows}
use Rattle.blob_sections.specs.Width.{field_widths}
use Rattle.blob_writing.specs.Carried.{FitWords, AreCarried}
use Rattle.blob_writing.specs.Written.{records_bytes, runs_bytes, packed_bytes, type_head_bytes}
use Rattle.blob_writing.proofs.Placing.{SpellsAt, at_here}
use Rattle.blob_writing.proofs.SpelledItems.{spells_value, spells_field_widths, spells_part_widths, spells_words, spells_areas, spells_one_shard}

-- packed rows without a total and without words of items
pub records_alone : (rows : PackedRows) → rows.total ≡ 0 → rows.packed.second ≡ [] →
    record { widths = rows.widths; total = 0; packed = record { first = rows.packed.first; second = []; areas = rows.packed.areas } } ≡ rows
records_alone rows none empty =
    λ i. record { widths = rows.widths; total = sym none i; packed = record { first = rows.packed.first; second = sym empty i; areas = rows.packed.areas } }

-- packed rows without areas
pub runs_alone : (rows : PackedRows) → rows.packed.areas ≡ [] →
    record { widths = rows.widths; total = rows.total; packed = record { first = rows.packed.first; second = rows.packed.second; areas = [] } } ≡ rows
runs_alone rows none = λ i. record { widths = rows.widths; total = rows.total; packed = record { first = rows.packed.first; second = rows.packed.second; areas = sym none i } }

-- the packed rows of an OBJECT
spells_records : (key : Option (List (List ℕ))) (fields : List Field) (max : Option ℕ) (rows : PackedRows) → AreCarried (Shape.Object key fields) max (places_of max) rows →
    Spells (packed_records (Shape.Object key fields) max) rows (flat_map varint_bytes rows.widths ++ records_bytes rows.packed)
unfolding packed_records field_widths
spells_records key fields max rows h =
    spells_value
    (spells_then _ (spells_field_widths max fields rows.widths h.wide)
    (spells_then _ (spells_words _ rows.packed.first h.enough h.fits.0)
    (spells_last (λ (areas : List (List ℕ)). record { widths = rows.widths; total = 0; packed = record { first = rows.packed.first; second = []; areas = areas } })
    (spells_areas (length fields) rows.packed.areas h.parts.0 h.fits.1))))
    (records_alone rows h.parts.1 h.parts.2)

-- those of a LIST, SET or MAP
spells_runs : (shape : Shape) (max : Option ℕ) (rows : PackedRows) → length rows.widths ≡ width_count shape → All (λ width. width ≤ 64) rows.widths → rows.packed.areas ≡ [] → (rows.total < 2 ^ 64) × FitWords rows.packed.first × FitWords rows.packed.second
    → words_needed shape (record { max = max; widths = rows.widths }) ≤ length rows.packed.first
    → Spells (packed_runs shape max) rows (flat_map varint_bytes rows.widths ++ runs_bytes rows.total rows.packed)
unfolding packed_runs
spells_runs shape max rows long wide none fit enough =
    spells_value
    (spells_then _ (spells_part_widths shape rows.widths long wide)
    (spells_then _ (spells_varint (2 ^ 64) rows.total fit.0)
    (spells_then _ (spells_words _ rows.packed.first enough fit.1)
    (spells_last (λ (items : List ℕ). record { widths = rows.widths; total = rows.total; packed = record { first = rows.packed.first; second = items; areas = [] } })
    (spells_words 0 rows.packed.second (omega arith) fit.2)))))
    (runs_alone rows none)

-- the packed rows of a type of this shape
pub spells_packed : (shape : Shape) (max : Option ℕ) (rows : PackedRows) → AreCarried shape max (places_of max) rows → Spells (packed_rows shape max) rows (packed_bytes shape rows)
unfolding packed_rows
spells_packed (Shape.Object key fields) max rows h = spells_records key fields max rows h
spells_packed (Shape.List element) max rows h = spells_runs (Shape.List element) max rows h.wide.0 h.wide.1 h.parts h.fits h.enough
spells_packed (Shape.Set element) max rows h = spells_runs (Shape.Set element) max rows h.wide.0 h.wide.1 h.parts h.fits h.enough
spells_packed (Shape.Map key value) max rows h = spells_runs (Shape.Map key value) max rows h.wide.0 h.wide.1 h.parts h.fits h.enough

-- the head of a type
pub spells_head : (schema : Schema) → IsSpellable schema → EachName IsUtf8 schema → SpellsAt type_head (λ at. record { at = at; schema = schema }) (type_head_bytes schema)
unfolding type_head
spells_head schema spellable texts =
    at_here _ (λ at. record { at = at; schema = schema })
    (λ at. spells_then _ (spells_schema schema (record { spellable = spellable; texts = texts })) (spells_last (λ u. record { at = at; schema = schema }) spells_one_shard))
