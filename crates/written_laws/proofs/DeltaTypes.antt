-- Lemmas on a type of a delta that is written: it can be carried, it is read as its part, and the patch of that part leads from the old rows to the new ones.
use Rattle.std.proofs.Common.{◌≡◌, ◌≤◌, ◌<◌, ◌*◌, ◌^◌, ℕ, List, length, None, Option, refl, ap, ◌∙◌, sym, subst, inl, inr, arith}
use Rattle.std.specs.Prelude.{All, Contains, IsSome, is_some}
use Rattle.std.specs.FinMap.{get}
use Rattle.std.proofs.lemmas.Bool.{cases_lt}
use Rattle.std.proofs.lemmas.List.{length-map}
use Rattle.std.proofs.lemmas.Option.{get_or_from_slice_get, slice_get_within}
use Rattle.bit_array.specs.Element.{words_of}
use Rattle.schema_model.specs.declared.schema.Schema.{Schema}
use Rattle.schema_model.specs.declared.model.rule.Rule.TheVariants.{TooMany}
use Rattle.schema_model.specs.declared.schema.Shape.{Shape}
use Rattle.schema_model.specs.Parts.{shape_fields}
use Rattle.schema_growth.proofs.Growths.{fields_apart}
use Rattle.row_model.specs.Table.{Table, IsLive, row_at}
use Rattle.row_model.specs.BothStates.{rows_in, rows_of_both}
use Rattle.row_model.proofs.RowsFrom.{get_in}
use Rattle.type_rows.specs.Holds.{Holds}
use Rattle.type_rows.specs.Layout.{own_bits, place_bits, places_of}
use Rattle.type_rows.specs.Patches.{AddsRows, places_in}
use Rattle.type_rows.specs.WellFormed.{AreWidths}
use Rattle.type_rows.proofs.CountedWords.{own_words}
use Rattle.seen_patches.specs.Patch.{HasColumns}
use Rattle.seen_patches.proofs.Patched.{layout_seen, own_seen, rows_seen}
use Rattle.blob_sections.specs.declared.section.PackedRows.{PackedRows}
use Rattle.row_packing.specs.declared.chosen.Chosen.{Chosen}
use Rattle.row_packing.specs.Chosen.{shape_at, chosen_total, chosen_widths}
use Rattle.row_packing.specs.Packs.{PacksPlaces}
use Rattle.row_packing.specs.Places.{AreAdded, places_under}
use Rattle.row_packing.specs.Written.{CanBeWritten, ArePacked, IsStored}
use Rattle.row_packing.proofs.Greatest.{all_gives}
use Rattle.row_packing.proofs.Suiting.{places_few}
use Rattle.row_packing.proofs.WrittenSections as law
use Rattle.row_packing.proofs.WrittenSections.{AreBoth}
use Rattle.blob_writing.specs.Carried.{AreCarried, HasParts}
use Rattle.blob_writing.specs.Limits.{HasFewPaths}
use Rattle.blob_writing.specs.Changes.{IsChangeOf, gone}
use Rattle.blob_writing.specs.Delta.{TypeChange, AreGaps, IsCarried, part_of}
use Rattle.blob_writing.proofs.OneDelta.{all_of, gone_live}
use Rattle.delta_blob.specs.Fits.{FitsTable, HoldsTable}
use Rattle.delta_blob.specs.Moved.{MovesType}
use Rattle.delta_blob.specs.Parts.{patch_with}
use Rattle.delta_blob.specs.Patch.{Means, PartIs, TypePatch}
use Rattle.delta_blob.proofs.OwnParts.{own_agrees}
use Rattle.written_laws.specs.States.{AreStates}
use Rattle.delta_blob.specs.Within.{IsTypeWithin}
use Rattle.written_laws.proofs.Carrying.{both_are, both_stored, can_write, has_parts, limits_kept, shape_here, small_max, spellable_at, texts_at}
use Rattle.written_laws.proofs.ChosenLayout.{chosen_holds, chosen_wide, has_place, packed_enough}
use Rattle.written_laws.proofs.FewGaps.{few_gap_bytes}
use Rattle.written_laws.proofs.Gone.{as_many_rows, dead_row, gone_dead, kept_row, ordinal_there, row_there, rows_under}

-- ---- its ordinals

-- ordinals that are live in one of the states can be carried
are_gaps : (table : Table) (index : ℕ) (ordinals : List ℕ) → AreAdded table index ordinals → ((ordinal : ℕ) → IsLive table index ordinal → ordinal < 2 ^ 22) → AreGaps ordinals
are_gaps table index ordinals are below =
    let low : All (λ ordinal. ordinal < 2 ^ 22) ordinals = all_gives (IsLive table index) (λ ordinal. ordinal < 2 ^ 22) ordinals below are.live in
    record {
      rising = are.rising;
      small = λ k d within. let under = low k d within in omega (arith, under);
      few = omega (arith, few_gap_bytes ordinals are.rising low);
    }

-- ---- its patch

-- what is changed of a type
abbrev pub patch_of : Table → ℕ × TypeChange → TypePatch
patch_of new entry = record {
  type_index = entry.0;
  schema = entry.1.schema;
  layout = record { max = entry.1.max; widths = entry.1.rows.widths };
  own = own_bits entry.1.schema.shape entry.1.rows.widths;
  removed = entry.1.removed;
  added = entry.1.added;
  rows = rows_under new entry.0 entry.1.added;
}

-- packed rows that can be carried have a width and an area for each field
columns_here : (shape : Shape) (max : Option ℕ) (removed added : List ℕ) (rows : PackedRows) → AreWidths shape max rows.widths → HasParts shape rows → HasColumns shape (patch_with shape max removed added rows)
columns_here (Shape.Object key fields) max removed added rows wide parts = (wide, parts.0)
columns_here (Shape.List element) max removed added rows wide parts = tt
columns_here (Shape.Set element) max removed added rows wide parts = tt
columns_here (Shape.Map key value) max removed added rows wide parts = tt

module _ (schemas : List Schema) (old new : Table) (are : AreStates schemas old new) (entry : ℕ × TypeChange) (is : IsChangeOf schemas old new entry.0 entry.1) where
  abbrev shape : Shape
  shape = entry.1.schema.shape

  abbrev chosen : Chosen
  chosen = record { max = entry.1.max; widths = entry.1.rows.widths; total = entry.1.rows.total }

  same : shape_at schemas entry.0 ≡ shape
  same = shape_here schemas old new are entry.0 entry.1.schema is.schema

  can : CanBeWritten shape new entry.0 chosen
  can = can_write schemas old new are entry.0 entry.1.schema is.schema chosen is.chosen

  both : AreBoth shape old new entry.0
  both = both_are schemas old new are entry.0 entry.1.schema is.schema chosen is.chosen

  stored : All IsStored (rows_of_both old new entry.0)
  stored = both_stored schemas old new are entry.0 entry.1.schema is.schema

  packs : PacksPlaces shape entry.1.rows.widths (places_under new entry.0 entry.1.added) entry.1.rows.packed.first entry.1.rows.packed.second entry.1.rows.packed.areas
  packs =
      subst (λ (s : Shape). PacksPlaces s entry.1.rows.widths (places_under new entry.0 entry.1.added) entry.1.rows.packed.first entry.1.rows.packed.second entry.1.rows.packed.areas) same is.packed

  come : AreAdded new entry.0 entry.1.added
  come = subst (AreAdded new entry.0) (sym is.added) (gone_live new old entry.0)

  go : AreAdded old entry.0 entry.1.removed
  go = subst (AreAdded old entry.0) (sym is.removed) (gone_live old new entry.0)

  pub few_places : places_of entry.1.max ≤ 2 ^ 22
  few_places = places_few shape new entry.0 chosen can.suits

  widths : entry.1.rows.widths ≡ chosen_widths shape (rows_of_both old new entry.0)
  widths = is.chosen.widths ∙ ap (λ (s : Shape). chosen_widths s (rows_of_both old new entry.0)) same

  total : entry.1.rows.total ≡ chosen_total shape (rows_of_both old new entry.0)
  total = is.chosen.total ∙ ap (λ (s : Shape). chosen_total s (rows_of_both old new entry.0)) same

  wide : AreWidths shape entry.1.max entry.1.rows.widths
  wide = subst (AreWidths shape entry.1.max) (sym widths) (chosen_wide old new entry.0 shape entry.1.max both is.chosen.max)

  enough : words_of (length entry.1.added * place_bits shape entry.1.rows.widths) ≤ length entry.1.rows.packed.first
  enough =
      let places = places_under new entry.0 entry.1.added in
      let by_chosen = packed_enough shape (rows_of_both old new entry.0) places entry.1.rows.packed.first entry.1.rows.packed.second entry.1.rows.packed.areas
      (subst (λ (ws : List ℕ). PacksPlaces shape ws places entry.1.rows.packed.first entry.1.rows.packed.second entry.1.rows.packed.areas) widths packs) in
      let by_widths = subst (λ (ws : List ℕ). words_of (length places * place_bits shape ws) ≡ length entry.1.rows.packed.first) (sym widths) by_chosen in
      let by_added = subst (λ (n : ℕ). words_of (n * place_bits shape entry.1.rows.widths) ≡ length entry.1.rows.packed.first) (length-map entry.1.added (row_at new entry.0)) by_widths in
      omega (arith, by_added)

  carried : AreCarried shape entry.1.max (length entry.1.added) entry.1.rows
  carried = record {
    wide = wide;
    parts = has_parts shape (rows_of_both old new entry.0) (places_under new entry.0 entry.1.added) entry.1.rows packs total;
    fits = is.fits;
    enough = enough;
  }

  -- a delta can carry it
  pub change_carried : HasFewPaths entry.1.schema → IsCarried entry.1
  change_carried few = record {
    spellable = spellable_at schemas are.model entry.0 entry.1.schema is.schema few;
    texts = texts_at schemas are.model entry.0 entry.1.schema is.schema;
    max = small_max entry.1.max few_places;
    removed = are_gaps old entry.0 entry.1.removed go (λ ordinal live. both.keeps.ordinals ordinal (inl live));
    added = are_gaps new entry.0 entry.1.added come (λ ordinal live. both.keeps.ordinals ordinal (inr live));
    rows = carried;
  }

  -- the schema that it has means its type
  its_type : Means schemas entry.1.schema entry.0 entry.1.schema
  its_type = record { stands = is.schema; named = refl; agree = own_agrees schemas are.model.model entry.0 entry.0 entry.1.schema entry.1.schema is.schema is.schema refl }

  few_fields : length (shape_fields shape) ≤ 1024
  few_fields = elim (cases_lt 1024 (length (shape_fields shape))) [ inl many ↦ absurd (are.model.model TooMany entry.0 (entry.1.schema, is.schema, inr many)) | inr few ↦ few ]

  adds : (at : ℕ) → AddsRows shape (part_of entry.1 at).section (rows_under new entry.0 entry.1.added)
  adds at = record {
    each = as_many_rows new entry.0 entry.1.added come.live;
    spelled = λ place row there.
        let (ordinal, listed, found) = ordinal_there new entry.0 entry.1.added come.live place row there in
        let places = places_in (part_of entry.1 at).section in
        let packed : ArePacked shape new entry.0 chosen entry.1.added places = record { widths = refl; total = refl; packed = packs } in
        law.places_spell shape new entry.0 chosen entry.1.added places place ordinal row can come packed listed found;
  }

  -- the section is seen as it stands, since the model's schema is the delta's
  pub part_is : (at : ℕ) → PartIs schemas (part_of entry.1 at) (patch_of new entry)
  part_is at =
      let section = (part_of entry.1 at).section in
      let apart = fields_apart schemas entry.0 entry.1.schema are.model.model is.schema in
      let columns = columns_here shape entry.1.max entry.1.removed entry.1.added entry.1.rows wide carried.parts in
      let rows = rows_under new entry.0 entry.1.added in
      record {
        means = its_type;
        layout = layout_seen shape shape section section its_type.agree apart columns (inl (refl, refl));
        own = own_seen shape shape section section its_type.agree apart few_fields columns refl (inl (refl, refl));
        removed = refl;
        added = refl;
        spelled = (rows_seen shape shape section section rows its_type.agree apart columns (inl (refl, refl))).0 (adds at);
      }

  -- and it is the model's own
  pub part_own : (at : ℕ) → Contains schemas (part_of entry.1 at).schema
  part_own at = (entry.0, slice_get_within schemas entry.0 entry.1.schema is.schema, get_or_from_slice_get schemas entry.0 entry.1.schema entry.1.schema is.schema)

  pub ordinals_fit : FitsTable old entry.0 (patch_of new entry)
  ordinals_fit = record {
    removed_rise = go.rising;
    removed_live = all_gives (IsLive old entry.0) (λ ordinal. IsSome (get (rows_in old entry.0) ordinal)) entry.1.removed (λ ordinal live. ap is_some (get_in old entry.0 ordinal) ∙ live) go.live;
    added_rise = come.rising;
    added_placed = all_gives (IsLive new entry.0) (λ ordinal. ordinal < places_of entry.1.max) entry.1.added (has_place old new entry.0 entry.1.max is.chosen.max) come.live;
    added_free = subst (All (λ ordinal. get (rows_in old entry.0) ordinal ≡ None)) (sym is.added)
        (all_of (λ ordinal. get (rows_in old entry.0) ordinal ≡ None) (gone new old entry.0)
        (λ ordinal comes. get_in old entry.0 ordinal ∙ dead_row (row_at old entry.0 ordinal) (gone_dead new old entry.0 ordinal comes)));
  }

  pub rows_move : MovesType old new entry.0 (patch_of new entry)
  rows_move = record {
    gone = λ ordinal goes.
        get_in new entry.0 ordinal
        ∙ dead_row (row_at new entry.0 ordinal) (gone_dead old new entry.0 ordinal (subst (λ (os : List ℕ). Contains os ordinal) is.removed goes));
    came = λ place ordinal at. get_in new entry.0 ordinal ∙ row_there new entry.0 entry.1.added come.live place ordinal at;
    kept = λ ordinal stays old_one.
        get_in new entry.0 ordinal
        ∙ kept_row old new entry.0 ordinal both.agree (λ goes. stays (subst (λ (os : List ℕ). Contains os ordinal) (sym is.removed) goes))
        (λ comes. old_one (subst (λ (os : List ℕ). Contains os ordinal) (sym is.added) comes)) ∙ sym (get_in old entry.0 ordinal);
  }

  pub new_held : HoldsTable new entry.0 (patch_of new entry)
  new_held =
      subst (λ (ws : List ℕ). Holds shape (record { max = entry.1.max; widths = ws }) (rows_in new entry.0)) (sym widths)
      (chosen_holds old new entry.0 shape entry.1.max both stored is.chosen.max)

  pub new_within : IsTypeWithin new entry.0 (patch_of new entry)
  new_within = record { ordinals = few_places; kept = limits_kept schemas old new are entry.0 entry.1.schema is.schema chosen is.chosen (own_bits shape chosen.widths) (own_words shape (record { max = chosen.max; widths = chosen.widths })) }

  pub few_items : entry.1.rows.total ≤ 2 ^ 25
  few_items = let few = both.keeps.items in omega (arith, total, few)
