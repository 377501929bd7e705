-- What blobs carry of a type of two states that can be laid out together: there is some.
use Rattle.std.proofs.Common.{◌≡◌, ℕ, ◌+◌, ◌^◌, ◌<◌, ◌≤◌, ◌⊎◌, suc, zero, inl, inr, List, [], ◌∷◌, length, get_or, Option, Some, None, refl, sym, ⊎_elim, subst, arith}
use Rattle.std.specs.Prelude.{All}
use Rattle.std.specs.FinMap.{keys}
use Rattle.std.specs.List.{range_with_len}
use Rattle.std.proofs.lemmas.Bool.{cases_lt}
use Rattle.std.proofs.lemmas.List.FromFn.{length-range_with_len}
use Rattle.std.proofs.lemmas.Option.{slice_get-get_or}
use Rattle.schema_model.specs.Model.{IsModel}
use Rattle.schema_model.specs.declared.schema.Schema.{Schema}
use Rattle.schema_model.specs.declared.schema.Shape.{Shape}
use Rattle.row_model.specs.BothStates.{rows_in, rows_of_both}
use Rattle.row_model.specs.Table.{IsLive, IsTableOf, Table, row_at}
use Rattle.row_model.specs.declared.row.Row.{Row}
use Rattle.type_rows.specs.Layout.{places_of}
use Rattle.row_packing.specs.declared.chosen.Chosen.{Chosen}
use Rattle.row_packing.specs.Chosen.{IsChosen, IsGreatestOrdinal, IsLiveInEither, IsRowOf, KeepsCounts, Suits, chosen_total, chosen_widths, shape_at}
use Rattle.row_packing.specs.Packs.{CanPackPlaces}
use Rattle.row_packing.specs.Places.{AreAdded, places_under}
use Rattle.row_packing.specs.States.{AreWritable}
use Rattle.row_packing.proofs.LiveRows.{rising_keys, up_to_greatest}
use Rattle.row_packing.proofs.RowsUnder.{RiseFrom, rise_all}
use Rattle.row_packing.proofs.Suiting.{can_pack_delta, can_pack_snapshot, places_few, rise_from, rows_known, shape_is}
use Rattle.blob_sections.specs.declared.section.PackedRows.{PackedRows}
use Rattle.blob_writing.specs.Carried.{FitBytes}
use Rattle.blob_writing.specs.Changes.{IsChangeOf, gone}
use Rattle.blob_writing.specs.Delta.{TypeChange}
use Rattle.blob_writing.specs.Snapshot.{IsCarriedOf, TypeRows}
use Rattle.blob_writing.proofs.OneDelta.{gone_live}
use Rattle.blob_writing.proofs.PackingPlaces.{ArePlaces, HasPacked, packs_places}
use Rattle.blob_writing.proofs.Populating.{populated}

-- ---- the greatest ordinal

live_or_not : (table : Table) (type_index ordinal : ℕ) → IsLive table type_index ordinal ⊎ (IsLive table type_index ordinal → ⊥)
live_or_not table type_index ordinal = by_row (row_at table type_index ordinal) refl
  where
    by_row : (row : Option Row) → row_at table type_index ordinal ≡ row → IsLive table type_index ordinal ⊎ (IsLive table type_index ordinal → ⊥)
    by_row None is = inr (λ live. absurd cc)
    by_row (Some row) is = inl cc

either_or_not : (old new : Table) (type_index ordinal : ℕ) → IsLiveInEither old new type_index ordinal ⊎ (IsLiveInEither old new type_index ordinal → ⊥)
either_or_not old new type_index ordinal =
    elim (live_or_not old type_index ordinal) [
      | inl before ↦ inl (inl before)
      | inr not_before ↦
          elim (live_or_not new type_index ordinal) [
            | inl after ↦ inl (inr after)
            | inr not_after ↦ inr (λ live. ⊎_elim not_before not_after live)
          ]
    ]

greatest_of : (old new : Table) (type_index limit : ℕ) → ((ordinal : ℕ) → IsLiveInEither old new type_index ordinal → ordinal < limit) → (max : Option ℕ) × IsGreatestOrdinal old new type_index max
greatest_of old new type_index zero below = (None, λ ordinal live. let less = below ordinal live in omega (arith, less))
greatest_of old new type_index (suc limit) below =
    elim (either_or_not old new type_index limit) [
      | inl live ↦ (Some limit, (live, λ ordinal at. let less = below ordinal at in omega (arith, less)))
      | inr none ↦
          greatest_of old new type_index limit (λ ordinal live.
          elim (cases_lt ordinal limit) [
            | inl less ↦ less
            | inr past ↦
                let less = below ordinal live in
                let same : ordinal ≡ limit = omega (arith, less, past) in
                absurd (none (subst (IsLiveInEither old new type_index) same live))
          ])
    ]

-- ---- what is chosen

chosen_for : (shape : Shape) (old new : Table) (type_index : ℕ) → KeepsCounts shape old new type_index → All (IsRowOf shape) (rows_of_both old new type_index)
    → (chosen : Chosen) × IsChosen shape old new type_index chosen
chosen_for shape old new type_index keeps rows =
    let greatest = greatest_of old new type_index (2 ^ 22) keeps.ordinals in
    let both = rows_of_both old new type_index in
    (record { max = greatest.0; widths = chosen_widths shape both; total = chosen_total shape both }, record { max = greatest.1; widths = refl; total = refl; rows = rows })

-- ---- what is packed

-- the packed rows of places
abbrev packed_rows : (shape : Shape) (widths : List ℕ) (places : List (Option Row)) → ℕ → HasPacked shape widths places → PackedRows
packed_rows shape widths places total made = record { widths = widths; total = total; packed = record { first = made.first; second = made.second; areas = made.areas } }

fit_bytes : (shape : Shape) (widths : List ℕ) (places : List (Option Row)) (total : ℕ) (made : HasPacked shape widths places) → total < 2 ^ 64 → FitBytes shape (packed_rows shape widths places total made)
fit_bytes (Shape.Object key fields) widths places total made small = (made.first_fits, made.areas_fit)
fit_bytes (Shape.List element) widths places total made small = (small, made.first_fits, made.second_fits)
fit_bytes (Shape.Set element) widths places total made small = (small, made.first_fits, made.second_fits)
fit_bytes (Shape.Map key value) widths places total made small = (small, made.first_fits, made.second_fits)

-- rising ordinals below a limit are no more than it
rise_few : (limit from : ℕ) (ordinals : List ℕ) → RiseFrom from ordinals → All (λ ordinal. ordinal < limit) ordinals → from ≤ limit → length ordinals + from ≤ limit
rise_few limit from [] rise all low = omega arith
rise_few limit from (ordinal ∷ rest) rise all low =
    let here : ordinal < limit = all 0 0 (omega arith) in
    omega (arith, rise.0, rise_few limit (ordinal + 1) rest rise.1 (λ k d inside. all (suc k) d (omega arith)) (omega arith))

module _ (schemas : List Schema) (model : IsModel schemas) (old new : Table) (before : IsTableOf schemas old) (after : IsTableOf schemas new) (can : AreWritable schemas old new) where
  -- a type of a snapshot
  pub type_carried : (index : ℕ) → index < length schemas → (carried : TypeRows) × IsCarriedOf schemas old new index carried
  type_carried index known =
      let none : Schema = record { name = []; shape = Shape.List [] } in
      let schema = get_or schemas index none in
      let at = slice_get-get_or schemas index none known in
      let shape = shape_at schemas index in
      let is = shape_is schemas index schema at in
      let rows = rows_known schemas old new index known before after in
      let keeps = can.keeps index known in
      let chosen = chosen_for shape old new index keeps rows in
      let max = chosen.0.max in
      let widths = chosen.0.widths in
      let suits : Suits shape new index chosen.0 = record { old = old; agree = can.agree index known; keeps = keeps; is = chosen.1 } in
      let ordinals = range_with_len 0 (places_of max) in
      let few = places_few shape new index chosen.0 suits in
      let are : ArePlaces shape old new index ordinals =
      record { agree = can.agree index known; keeps = keeps; rows = rows; rise = rise_all (places_of max); few = omega (arith, length-range_with_len 0 (places_of max), few) } in
      let packable = subst (λ (s : Shape). CanPackPlaces s widths (places_under new index ordinals)) (sym is) (can_pack_snapshot schemas index schema at model new chosen.0 suits) in
      let made = packs_places shape old new index ordinals widths are packable in
      let carried_rows = packed_rows shape widths (places_under new index ordinals) chosen.0.total made in
      let small = fit_bytes shape widths (places_under new index ordinals) chosen.0.total made (omega (arith, chosen.1.total, keeps.items)) in
      let population = populated (keys (rows_in new index)) max (rising_keys (rows_in new index)) (up_to_greatest old new index max chosen.1.max) in (
        record { schema = schema; max = max; rows = carried_rows; population = population.0 },
        record { schema = at; chosen = chosen.1; packed = made.packs; fits = subst (λ (s : Shape). FitBytes s carried_rows) is small; population = population.1 },
      )

  -- a type of a delta
  pub type_changed : (index : ℕ) → index < length schemas → (change : TypeChange) × IsChangeOf schemas old new index change
  type_changed index known =
      let none : Schema = record { name = []; shape = Shape.List [] } in
      let schema = get_or schemas index none in
      let at = slice_get-get_or schemas index none known in
      let shape = shape_at schemas index in
      let is = shape_is schemas index schema at in
      let rows = rows_known schemas old new index known before after in
      let keeps = can.keeps index known in
      let chosen = chosen_for shape old new index keeps rows in
      let widths = chosen.0.widths in
      let suits : Suits shape new index chosen.0 = record { old = old; agree = can.agree index known; keeps = keeps; is = chosen.1 } in
      let added = gone new old index in
      let live : AreAdded new index added = gone_live new old index in
      let rise = rise_from added live.rising in
      let below : All (λ ordinal. ordinal < 2 ^ 22) added = λ k d inside. keeps.ordinals (get_or added k d) (inr (live.live k d inside)) in
      let are : ArePlaces shape old new index added =
      record { agree = can.agree index known; keeps = keeps; rows = rows; rise = rise; few = omega (arith, rise_few (2 ^ 22) 0 added rise below (omega arith)) } in
      let packable = subst (λ (s : Shape). CanPackPlaces s widths (places_under new index added)) (sym is) (can_pack_delta schemas index schema at model new chosen.0 added suits live) in
      let made = packs_places shape old new index added widths are packable in
      let carried_rows = packed_rows shape widths (places_under new index added) chosen.0.total made in
      let small = fit_bytes shape widths (places_under new index added) chosen.0.total made (omega (arith, chosen.1.total, keeps.items)) in (
        record { schema = schema; max = chosen.0.max; removed = gone old new index; added = added; rows = carried_rows },
        record { schema = at; chosen = chosen.1; removed = refl; added = refl; packed = made.packs; fits = subst (λ (s : Shape). FitBytes s carried_rows) is small },
      )
