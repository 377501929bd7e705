-- Lemmas on what is carried of a type of two states: it suits them, and its numbers and parts fit the bytes of a blob.
use Rattle.std.proofs.Common.{◌≡◌, ◌≤◌, ◌<◌, ◌^◌, ℕ, List, length, get_or, Option, Some, None, ap, ◌∙◌, sym, subst, inl, inr, arith}
use Rattle.std.specs.Prelude.{All, slice_get}
use Rattle.std.specs.FinMap.{values}
use Rattle.std.specs.Str.{IsUtf8}
use Rattle.std.proofs.lemmas.Bool.{cases_lt}
use Rattle.std.proofs.lemmas.Option.{slice_get-get_or}
use Rattle.schema_model.specs.declared.model.rule.Rule.TheVariants.{TooMany}
use Rattle.row_model.specs.declared.row.Row.{Row}
use Rattle.schema_model.specs.declared.schema.Schema.{Schema}
use Rattle.schema_model.specs.declared.schema.Shape.{Shape}
use Rattle.std.specs.List.{enumerate_from}
use Rattle.std.proofs.lemmas.List.{length-map}
use Rattle.std.proofs.lemmas.List.FromFn.{length-enumerate_from}
use Rattle.schema_model.specs.Schema.{EachName, IsSpellable}
use Rattle.row_model.specs.Table.{Table}
use Rattle.schema_model.proofs.BrokenRules.{few_fields, few_types}
use Rattle.schema_bytes.proofs.Spellable.{model_is_spellable}
use Rattle.row_model.specs.BothStates.{rows_in, rows_of_both}
use Rattle.object_codec.specs.Widths.{live_rows}
use Rattle.type_rows.specs.Holds.{KeepsLimits}
use Rattle.type_rows.specs.Layout.{places_of, counted_words, fixed_words}
use Rattle.type_rows.specs.WordsHeld.{bytes_held}
use Rattle.row_packing.specs.declared.chosen.Chosen.{Chosen}
use Rattle.row_packing.specs.Chosen.{shape_at, chosen_widths, chosen_total, IsChosen, IsRowOf, KeepsCounts}
use Rattle.row_packing.specs.Packs.{PacksPlaces}
use Rattle.row_packing.specs.Written.{IsStored, CanBeWritten}
use Rattle.row_packing.proofs.RowsUnder.{all_both, values_all}
use Rattle.row_packing.proofs.Suiting.{shape_is}
use Rattle.row_packing.proofs.WrittenSections.{AreBoth}
use Rattle.blob_frame.specs.Written.{schema_list_bytes}
use Rattle.blob_frame.proofs.SpelledSchemas.{IsWritten}
use Rattle.blob_sections.specs.declared.section.PackedRows.{PackedRows}
use Rattle.blob_writing.specs.Carried.{IsMax, HasParts}
use Rattle.blob_writing.specs.Limits.{HasFewPaths}
use Rattle.blob_writing.proofs.FewPaths.{all_few}
use Rattle.blob_writing.proofs.Once.{inside}
use Rattle.written_laws.specs.States.{IsWritableModel, AreStates}

-- ---- the schemas

module _ (schemas : List Schema) (model : IsWritableModel schemas) where
  pub spellable_at : (index : ℕ) (schema : Schema) → slice_get schemas index ≡ Some schema → HasFewPaths schema → IsSpellable schema
  spellable_at index schema at few = model_is_spellable schemas index schema model.model at few

  pub texts_at : (index : ℕ) (schema : Schema) → slice_get schemas index ≡ Some schema → EachName IsUtf8 schema
  texts_at index schema at =
      let known = inside schemas index schema at in
      let there = slice_get-get_or schemas index schema known in
      let same : get_or schemas index schema ≡ schema = cc in
      subst (EachName IsUtf8) same (model.texts index schema known)

  pub few_schemas : length schemas ≤ 512
  few_schemas =
      elim (cases_lt 512 (length schemas)) [
        | inl more ↦ let under = few_types schemas 512 more (model.model TooMany 512) in absurd (omega arith)
        | inr few ↦ few
      ]

  pub written_schemas : length (schema_list_bytes schemas) ≤ 2 ^ 28 → All IsWritten schemas
  written_schemas short k d within =
      let at = slice_get-get_or schemas k d within in
      record { spellable = spellable_at k (get_or schemas k d) at (all_few schemas short k d within); texts = texts_at k (get_or schemas k d) at }

-- ---- the packed rows

-- a type of few places has a max ordinal that is not read as none
pub small_max : (max : Option ℕ) → places_of max ≤ 2 ^ 22 → IsMax max
small_max None few = tt
small_max (Some max) few = omega (arith, few)

-- the parts of packed rows are those of their kind
pub has_parts : (shape : Shape) (both : List Row) (places : List (Option Row)) (rows : PackedRows) → PacksPlaces shape rows.widths places rows.packed.first rows.packed.second rows.packed.areas
    → rows.total ≡ chosen_total shape both → HasParts shape rows
has_parts (Shape.Object key fields) both places rows packs total =
    (ap (λ (areas : List (List ℕ)). length areas) packs.0.bytes ∙ length-map (enumerate_from 0 fields) _ ∙ length-enumerate_from 0 fields, total, packs.1)
has_parts (Shape.List element) both places rows packs total = packs.1
has_parts (Shape.Set element) both places rows packs total = packs.1
has_parts (Shape.Map key value) both places rows packs total = packs.1

-- ---- what is chosen for two states

module _ (schemas : List Schema) (old new : Table) (are : AreStates schemas old new) (index : ℕ) (schema : Schema) (at : slice_get schemas index ≡ Some schema) where
  pub known : index < length schemas
  known = inside schemas index schema at

  pub shape_here : shape_at schemas index ≡ schema.shape
  shape_here = shape_is schemas index schema at

  pub both_stored : All IsStored (rows_of_both old new index)
  both_stored =
      all_both IsStored old new index (λ ordinal row found. are.before.stored index ordinal schema row at found) (λ ordinal row found. are.after.stored index ordinal schema row at found)

  -- what was chosen, and the rows that it was chosen for
  pub both_are : (chosen : Chosen) → IsChosen (shape_at schemas index) old new index chosen → AreBoth schema.shape old new index
  both_are chosen is = record {
    agree = are.together.agree index known;
    keeps = subst (λ (shape : Shape). KeepsCounts shape old new index) shape_here (are.together.keeps index known);
    rows = subst (λ (shape : Shape). All (IsRowOf shape) (rows_of_both old new index)) shape_here is.rows;
    few = few_fields schemas index schema at (are.model.model TooMany);
  }

  pub can_write : (chosen : Chosen) → IsChosen (shape_at schemas index) old new index chosen → CanBeWritten schema.shape new index chosen
  can_write chosen is =
      let both = both_are chosen is in
      record {
        suits = record { old = old; agree = both.agree; keeps = both.keeps; is = subst (λ (shape : Shape). IsChosen shape old new index chosen) shape_here is };
        few = both.few;
        stored = both_stored;
      }

  -- the fixed words and the bytes of the new state keep their limits
  pub limits_kept : (chosen : Chosen) → IsChosen (shape_at schemas index) old new index chosen → (own : ℕ)
      → ((rows : List Row) → counted_words schema.shape own (record { max = chosen.max; widths = chosen.widths }) rows ≤ fixed_words schema.shape (record { max = chosen.max; widths = chosen.widths }) rows)
      → KeepsLimits schema.shape own (record { max = chosen.max; widths = chosen.widths }) (rows_in new index)
  limits_kept chosen is own counted =
      let both = rows_of_both old new index in
      let kept = (are.words index known chosen.max is.max).1 in
      let by_shape = subst (λ (shape : Shape). fixed_words shape (record { max = chosen.max; widths = chosen_widths shape both }) (live_rows new index) ≤ 2 ^ 22) shape_here kept in
      let widths = sym (is.widths ∙ ap (λ (shape : Shape). chosen_widths shape both) shape_here) in
      let by_widths = subst (λ (ws : List ℕ). fixed_words schema.shape (record { max = chosen.max; widths = ws }) (live_rows new index) ≤ 2 ^ 22) widths by_shape in
      record {
        words =
            let few = subst (λ (rows : List Row). fixed_words schema.shape (record { max = chosen.max; widths = chosen.widths }) rows ≤ 2 ^ 22) (values_all (rows_in new index)) by_widths in
            omega (arith, few, counted (values (rows_in new index)));
        bytes = subst (λ (rows : List Row). bytes_held rows ≤ 2 ^ 25) (values_all (rows_in new index)) (are.together.keeps index known).new_bytes;
      }
