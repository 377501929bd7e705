-- Lemmas on a type of a snapshot that is written: it is read as its part, which is that of the rows of the new state.
use Rattle.std.proofs.Common.{◌≡◌, ℕ, List, ◌++◌, Option, refl, ap, ◌∙◌, subst, arith}
use Rattle.std.specs.Str.{IsUtf8}
use Rattle.std.specs.FinMap.{keys}
use Rattle.ordinal_set.specs.Population.{IsPopulation}
use Rattle.schema_model.specs.declared.schema.Schema.{Schema}
use Rattle.schema_model.specs.declared.schema.Shape.{Shape}
use Rattle.schema_model.specs.Schema.{EachName, IsSpellable}
use Rattle.row_model.specs.Table.{Table}
use Rattle.row_model.specs.BothStates.{rows_in, rows_of_both}
use Rattle.type_rows.specs.declared.section.Section.{Section}
use Rattle.type_rows.specs.Layout.{places_of, record_bits}
use Rattle.type_state.specs.State.{Half}
use Rattle.type_rows.specs.WellFormed.{IsReadable}
use Rattle.type_rows.proofs.CountedWords.{all_words}
use Rattle.row_packing.specs.declared.chosen.Chosen.{Chosen}
use Rattle.row_packing.specs.Chosen.{shape_at, chosen_total}
use Rattle.row_packing.specs.Packs.{PacksPlaces}
use Rattle.row_packing.specs.Places.{snapshot_places}
use Rattle.row_packing.specs.Written.{CanBeWritten, IsWritten}
use Rattle.row_packing.proofs.WrittenSections as law
use Rattle.blob_frame.proofs.Spelling.{Spells, spells_then, spells_last}
use Rattle.blob_sections.specs.declared.section.PackedRows.{PackedRows}
use Rattle.blob_sections.specs.Section.{section_with}
use Rattle.blob_writing.specs.Carried.{IsMax, AreCarried}
use Rattle.blob_writing.specs.Limits.{HasFewPaths}
use Rattle.blob_writing.specs.Written.{max_bytes, packed_bytes, snapshot_type_bytes}
use Rattle.blob_writing.proofs.Placing.{SpellsAt, anywhere, at_then}
use Rattle.blob_writing.proofs.SpelledItems.{spells_max, spells_population}
use Rattle.blob_writing.proofs.SpelledTypes.{spells_head, spells_packed}
use Rattle.snapshot_blob.specs.declared.part.TypePart.{TypePart}
use Rattle.snapshot_blob.specs.Parts.{section_of, type_part}
use Rattle.snapshot_blob.specs.Stated.{TypeIs, KeepsTypeLimits}
use Rattle.blob_writing.specs.Snapshot.{TypeRows, type_bytes, IsCarriedOf}
use Rattle.written_laws.specs.States.{AreStates}
use Rattle.written_laws.proofs.Carrying.{can_write, has_parts, shape_here, small_max, spellable_at, texts_at, limits_kept}

-- ---- its bytes

spells_section : (shape : Shape) (max : Option ℕ) (rows : PackedRows) (set bytes : List ℕ) → IsMax max → AreCarried shape max (places_of max) rows → IsPopulation set max bytes
    → Spells (section_of shape) (section_with max rows set) (max_bytes max ++ (packed_bytes shape rows ++ bytes))
unfolding section_of
spells_section shape max rows set bytes small carried is =
    spells_then _ (spells_max max small) (spells_then _ (spells_packed shape max rows carried) (spells_last (λ (live : List ℕ). section_with max rows live) (spells_population set max bytes small is)))

spells_type : (schema : Schema) (max : Option ℕ) (rows : PackedRows) (set bytes : List ℕ) → IsSpellable schema → EachName IsUtf8 schema → IsMax max → AreCarried schema.shape max (places_of max) rows
    → IsPopulation set max bytes → SpellsAt type_part (λ at. record { at = at; schema = schema; section = section_with max rows set }) (snapshot_type_bytes schema max rows bytes)
unfolding type_part
spells_type schema max rows set bytes spellable texts small carried is =
    at_then _ (λ at mid. record { at = at; schema = schema; section = section_with max rows set }) (spells_head schema spellable texts)
    (λ at. anywhere (spells_last (λ (read : Section). record { at = at; schema = schema; section = read }) (spells_section schema.shape max rows set bytes small carried is)))

-- ---- its part

-- what is read of a type that stands at this offset
abbrev pub part_of : Table → ℕ × TypeRows → ℕ → TypePart
part_of new entry at = record { at = at; schema = entry.1.schema; section = section_with entry.1.max entry.1.rows (keys (rows_in new entry.0)) }

-- the rows of the new state, as they are laid out
abbrev pub half_of : Table → ℕ × TypeRows → Half
half_of new entry = record { layout = record { max = entry.1.max; widths = entry.1.rows.widths }; rows = rows_in new entry.0 }

module _ (schemas : List Schema) (old new : Table) (are : AreStates schemas old new) (entry : ℕ × TypeRows) (is : IsCarriedOf schemas old new entry.0 entry.1) where
  abbrev chosen : Chosen
  chosen = record { max = entry.1.max; widths = entry.1.rows.widths; total = entry.1.rows.total }

  abbrev section : Section
  section = section_with entry.1.max entry.1.rows (keys (rows_in new entry.0))

  same : shape_at schemas entry.0 ≡ entry.1.schema.shape
  same = shape_here schemas old new are entry.0 entry.1.schema is.schema

  can : CanBeWritten entry.1.schema.shape new entry.0 chosen
  can = can_write schemas old new are entry.0 entry.1.schema is.schema chosen is.chosen

  packs : PacksPlaces entry.1.schema.shape entry.1.rows.widths (snapshot_places new entry.0 entry.1.max) entry.1.rows.packed.first entry.1.rows.packed.second entry.1.rows.packed.areas
  packs =
      subst (λ (shape : Shape). PacksPlaces shape entry.1.rows.widths (snapshot_places new entry.0 entry.1.max) entry.1.rows.packed.first entry.1.rows.packed.second entry.1.rows.packed.areas) same is.packed

  written : IsWritten entry.1.schema.shape new entry.0 chosen section
  written = record { max = refl; widths = refl; total = refl; live = refl; packed = packs }

  readable : IsReadable entry.1.schema.shape section
  readable = law.section_readable entry.1.schema.shape new entry.0 chosen section can written

  total : entry.1.rows.total ≡ chosen_total entry.1.schema.shape (rows_of_both old new entry.0)
  total = is.chosen.total ∙ ap (λ (shape : Shape). chosen_total shape (rows_of_both old new entry.0)) same

  carried : AreCarried entry.1.schema.shape entry.1.max (places_of entry.1.max) entry.1.rows
  carried = record {
    wide = readable.well.wide;
    parts = has_parts entry.1.schema.shape (rows_of_both old new entry.0) (snapshot_places new entry.0 entry.1.max) entry.1.rows packs total;
    fits = is.fits;
    enough = readable.well.enough;
  }

  pub type_spelled : HasFewPaths entry.1.schema → SpellsAt type_part (part_of new entry) (type_bytes entry.1)
  type_spelled few =
      spells_type entry.1.schema entry.1.max entry.1.rows (keys (rows_in new entry.0)) entry.1.population (spellable_at schemas are.model entry.0 entry.1.schema is.schema few)
      (texts_at schemas are.model entry.0 entry.1.schema is.schema) (small_max entry.1.max readable.few) carried is.population

  pub type_is : (at : ℕ) → TypeIs (part_of new entry at) (half_of new entry)
  type_is at = record {
    layout = refl;
    rows = law.section_is entry.1.schema.shape new entry.0 chosen section can written;
    held = law.section_holds entry.1.schema.shape new entry.0 chosen section can written;
  }

  pub type_keeps : (at : ℕ) → KeepsTypeLimits (part_of new entry at) (half_of new entry)
  type_keeps at = record {
    counts = record { ordinals = readable.few; items = readable.items };
    kept = limits_kept schemas old new are entry.0 entry.1.schema is.schema chosen is.chosen (record_bits entry.1.schema.shape chosen.widths)
        (λ rows. (let same = all_words entry.1.schema.shape (record { max = chosen.max; widths = chosen.widths }) rows in omega (arith, same)));
  }
