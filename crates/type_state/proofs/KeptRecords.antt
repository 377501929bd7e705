-- Lemmas on the records of a half that is kept: a live ordinal has a record at its place, which has the room that its row has.
use Rattle.std.proofs.Common.{◌≡◌, ℕ, ◌^◌, ◌<◌, ◌+◌, List, length, Option, None, Some, Result, refl, sym, ap, subst, ◌∙◌}
use Rattle.std.specs.Prelude.{IsSome, OnOk}
use Rattle.std.specs.FinMap.{get}
use Rattle.schema_model.specs.declared.schema.Shape.{Shape}
use Rattle.schema_model.specs.Parts.{shape_fields}
use Rattle.row_model.specs.Row.{FitsShape}
use Rattle.row_model.specs.declared.row.Row.{Row}
use Rattle.bucket_codec.specs.BucketCount.{bucket_count}
use Rattle.bucket_codec.specs.BucketPlace.{end_at, size_at, start_at, run_at, IsSpan, SpellsBucketRow, SpellsPairs}
use Rattle.bucket_codec.specs.BucketRows.{HoldsBuckets}
use Rattle.bucket_codec.specs.Buckets.{run_of}
use Rattle.bucket_codec.specs.Packed.{pairs_of, IsRunOf}
use Rattle.bucket_codec.specs.declared.buckets.Buckets.{Buckets}
use Rattle.bucket_codec.proofs.CopiedRuns.{row_pairs, tight_run}
use Rattle.bucket_codec.proofs.RunBuckets.{length-run_in}
use Rattle.object_codec.specs.ObjectPlace.{HoldsPlace, IsObject, SpellsObjectRow}
use Rattle.object_codec.specs.Packing.{HasRoom, IsRowPut}
use Rattle.list_codec.specs.ListPlace.{HoldsListPlace, IsList, SpellsList}
use Rattle.list_codec.specs.Packing.{elements_of_place}
use Rattle.list_codec.specs.Widths.{elements_of_row}
use Rattle.type_rows.specs.declared.section.Section.{Section}
use Rattle.type_rows.specs.Layout.{places_of}
use Rattle.type_rows.specs.Loads.{IsSpelledIn, Spells}
use Rattle.type_rows.proofs.Rising.{none_is_not}
use Rattle.packed_half.specs.declared.half.HalfShape.{HalfShape}
use Rattle.packed_half.specs.Half.{section_in}
use Rattle.packed_half.proofs.Looking.{list_holds, object_holds, runs_hold, spelled_there, widths_of_runs}
use Rattle.packed_half.proofs.PlacedRuns.{row_items}
use Rattle.packed_half.specs.LaidOut.{IsTight}
use Rattle.packed_half.specs.Laying.{HasRuns}
use Rattle.packed_half.proofs.Parted.{on_ok}
use Rattle.packed_half.proofs.RowPlaces.{entry_of, placed_in}
use Rattle.type_state.specs.Kept.{IsHalf, IsPacked, half_rows}
use Rattle.type_state.proofs.Halves.{packed_there}

row_in : (row : Option Row) → IsSome row → (r : Row) × (row ≡ Some r)
row_in None some = absurd (none_is_not {X = Row} None refl some)
row_in (Some r) some = (r, refl)

spells_record : (shape : Shape) (section : Section) (place : ℕ) (row : Row) → IsObject shape → Spells shape section place row → SpellsObjectRow shape section.widths section.first section.areas place row
spells_record (Shape.Object key fields) section place row object spelled = spelled
spells_record (Shape.List element) section place row object spelled = absurd object
spells_record (Shape.Set element) section place row object spelled = absurd object
spells_record (Shape.Map key value) section place row object spelled = absurd object

module _
    (shape given : Shape) (half : HalfShape) (words widths first : List ℕ) (areas : List (List ℕ)) (place ordinal : ℕ) (same : shape ≡ given) (widths_are : widths ≡ half.widths)
    (first_is : first ≡ (section_in shape half words).first) (areas_are : areas ≡ (section_in shape half words).areas) (place_is : place ≡ ordinal)
    (kept : IsHalf shape half words) (object : IsObject given) (some : IsSome (get (half_rows shape half words) ordinal)) (small : ordinal < 2 ^ 32) where
  -- what holds of the parts of the half holds of these
  over : (P : Shape → List ℕ → List ℕ → List (List ℕ) → ℕ → Type 0) → P shape half.widths (section_in shape half words).first (section_in shape half words).areas ordinal → P given widths first areas place
  over P h =
      subst (λ (s : Shape). P s widths first areas place) same
      (subst (λ (ws : List ℕ). P shape ws first areas place) (sym widths_are)
      (subst (λ (ws : List ℕ). P shape half.widths ws areas place) (sym first_is)
      (subst (λ (bytes : List (List ℕ)). P shape half.widths (section_in shape half words).first bytes place) (sym areas_are)
      (subst (λ (n : ℕ). P shape half.widths (section_in shape half words).first (section_in shape half words).areas n) (sym place_is) h))))

  packed : IsPacked shape half words
  packed = packed_there shape half words ordinal kept some

  row : (r : Row) × (get (half_rows shape half words) ordinal ≡ Some r)
  row = row_in (get (half_rows shape half words) ordinal) some

  is_object : IsObject shape
  is_object = subst IsObject (sym same) object

  pub record_holds : HoldsPlace (shape_fields given) widths first areas place
  record_holds =
      over (λ s ws fs bs n. HoldsPlace (shape_fields s) ws fs bs n)
      (object_holds shape half words (half_rows shape half words) ordinal is_object packed.laid (placed_in (half_rows shape half words) (places_of half.max) ordinal row.0 packed.can.held.places row.1) small)

  record_spelled : SpellsObjectRow given widths first areas place row.0
  record_spelled =
      over (λ s ws fs bs n. SpellsObjectRow s ws fs bs n row.0)
      (spells_record shape (section_in shape half words) ordinal row.0 is_object (entry_of (IsSpelledIn shape (section_in shape half words)) (half_rows shape half words) ordinal row.0 packed.laid.is.spelled row.1))

  pub record_room : (there old : List ℕ) (bytes : List (List ℕ)) → HasRoom given there old bytes ordinal (get (half_rows shape half words) ordinal)
      → (r : Row) × SpellsObjectRow given widths first areas place r × HasRoom given there old bytes place (Some r)
  record_room there old bytes room =
      (row.0, record_spelled, subst (λ (n : ℕ). HasRoom given there old bytes n (Some row.0)) (sym place_is) (subst (λ (r : Option Row). HasRoom given there old bytes ordinal r) row.1 room))

  -- The same of any place that is copied to.
  pub room_at : (there old : List ℕ) (bytes : List (List ℕ)) (to : ℕ) → HasRoom given there old bytes to (get (half_rows shape half words) ordinal)
      → (r : Row) × SpellsObjectRow given widths first areas place r × HasRoom given there old bytes to (Some r)
  room_at there old bytes to room = (row.0, record_spelled, subst (λ (r : Option Row). HasRoom given there old bytes to r) row.1 room)

  pub put_at : {E : Type 0} (result : Result (Unit {0}) E) (there old new : List ℕ) (old_bytes bytes : List (List ℕ)) (to : ℕ)
      → OnOk result ((r : Row) → SpellsObjectRow given widths first areas place r → IsRowPut given there old old_bytes new bytes to (Some r))
      → OnOk result (IsRowPut given there old old_bytes new bytes to (get (half_rows shape half words) ordinal))
  put_at result there old new old_bytes bytes to put =
      on_ok result _ _ (λ h. subst (λ (r : Option Row). IsRowPut given there old old_bytes new bytes to r) (sym row.1) (h row.0 record_spelled)) put

  pub record_put : {E : Type 0} (result : Result (Unit {0}) E) (there old new : List ℕ) (old_bytes bytes : List (List ℕ))
      → OnOk result ((r : Row) → SpellsObjectRow given widths first areas place r → IsRowPut given there old old_bytes new bytes place (Some r))
      → OnOk result (IsRowPut given there old old_bytes new bytes ordinal (get (half_rows shape half words) ordinal))
  record_put result there old new old_bytes bytes put =
      on_ok result _ _
      (λ h. subst (λ (r : Option Row). IsRowPut given there old old_bytes new bytes ordinal r) (sym row.1)
      (subst (λ (n : ℕ). IsRowPut given there old old_bytes new bytes n (Some row.0)) place_is (h row.0 record_spelled))) put

-- ---- lists, sets and maps

spells_list : (shape : Shape) (section : Section) (place : ℕ) (row : Row) → IsList shape → Spells shape section place row → SpellsList section.widths section.total section.first section.second place (elements_of_row row)
spells_list (Shape.List element) section place (Row.List ordinals) list spelled = spelled
spells_list (Shape.List element) section place (Row.Object values) list spelled = absurd spelled
spells_list (Shape.List element) section place (Row.Set ordinals) list spelled = absurd spelled
spells_list (Shape.List element) section place (Row.Map pairs) list spelled = absurd spelled
spells_list (Shape.Object key fields) section place _ list spelled = absurd list
spells_list (Shape.Set element) section place _ list spelled = absurd list
spells_list (Shape.Map key value) section place _ list spelled = absurd list

spells_run : (shape : Shape) (section : Section) (place : ℕ) (row : Row) → HasRuns shape → Spells shape section place row
    → SpellsBucketRow shape section.widths section.total section.first section.second place row
spells_run (Shape.Set element) section place found runs spelled = spelled
spells_run (Shape.Map key value) section place found runs spelled = spelled
spells_run (Shape.List element) section place found runs spelled = absurd runs
spells_run (Shape.Object key fields) section place found runs spelled = absurd runs

tight_buckets : (shape : Shape) (section : Section) (place : ℕ) (row : Row) → HasRuns shape → FitsShape shape row → IsTight shape section place (Some row)
    → end_at section.widths section.first place ≡ start_at section.widths section.first place + bucket_count (length (pairs_of row))
tight_buckets (Shape.Set element) section place found runs fits tight = tight ∙ ap (λ n. start_at section.widths section.first place + n) (sym (row_items (Shape.Set element) found runs fits))
tight_buckets (Shape.Map key value) section place found runs fits tight = tight ∙ ap (λ n. start_at section.widths section.first place + n) (sym (row_items (Shape.Map key value) found runs fits))
tight_buckets (Shape.List element) section place found runs fits tight = absurd runs
tight_buckets (Shape.Object key fields) section place found runs fits tight = absurd runs

module _ (shape : Shape) (half : HalfShape) (words widths first second : List ℕ) (place ordinal : ℕ) (widths_are : widths ≡ half.widths) (first_is : first ≡ (section_in shape half words).first) (second_is : second ≡ (section_in shape half words).second) (place_is : place ≡ ordinal) (kept : IsHalf shape half words) (some : IsSome (get (half_rows shape half words) ordinal)) where
  items_over : (P : List ℕ → List ℕ → List ℕ → ℕ → Type 0) → P half.widths (section_in shape half words).first (section_in shape half words).second ordinal → P widths first second place
  items_over P h =
      subst (λ (ws : List ℕ). P ws first second place) (sym widths_are)
      (subst (λ (ws : List ℕ). P half.widths ws second place) (sym first_is)
      (subst (λ (ws : List ℕ). P half.widths (section_in shape half words).first ws place) (sym second_is)
      (subst (λ (n : ℕ). P half.widths (section_in shape half words).first (section_in shape half words).second n) (sym place_is) h)))

  items_packed : IsPacked shape half words
  items_packed = packed_there shape half words ordinal kept some

  items_row : (r : Row) × (get (half_rows shape half words) ordinal ≡ Some r)
  items_row = row_in (get (half_rows shape half words) ordinal) some

  pub list_holds_there : IsList shape → HoldsListPlace widths first place
  list_holds_there list =
      items_over (λ ws fs ss n. HoldsListPlace ws fs n)
      (list_holds shape half words (half_rows shape half words) ordinal list items_packed.laid (placed_in (half_rows shape half words) (places_of half.max) ordinal items_row.0 items_packed.can.held.places items_row.1))

  pub list_spelled : IsList shape → SpellsList widths half.total first second place (elements_of_place (get (half_rows shape half words) ordinal))
  list_spelled list =
      subst (λ (r : Option Row). SpellsList widths half.total first second place (elements_of_place r)) (sym items_row.1)
      (items_over (λ ws fs ss n. SpellsList ws half.total fs ss n (elements_of_row items_row.0))
      (spells_list shape (section_in shape half words) ordinal items_row.0 list (entry_of (IsSpelledIn shape (section_in shape half words)) (half_rows shape half words) ordinal items_row.0 items_packed.laid.is.spelled items_row.1)))

  pub run_holds_there : HasRuns shape → ordinal < 2 ^ 32 → HoldsBuckets widths first second place
  run_holds_there runs small =
      let holds =
      runs_hold shape half words (half_rows shape half words) ordinal runs items_packed.laid (placed_in (half_rows shape half words) (places_of half.max) ordinal items_row.0 items_packed.can.held.places items_row.1) small in
      items_over (λ ws fs ss n. HoldsBuckets ws fs ss n)
      (record { three = (widths_of_runs shape half words (half_rows shape half words) runs items_packed.laid).three; holds = holds.pointers; few = holds.few })

  run_spelled : HasRuns shape → SpellsPairs widths half.total first second place (pairs_of items_row.0)
  run_spelled runs =
      items_over (λ ws fs ss n. SpellsPairs ws half.total fs ss n (pairs_of items_row.0))
      (row_pairs shape half.widths half.total (section_in shape half words).first (section_in shape half words).second ordinal items_row.0
      (widths_of_runs shape half words (half_rows shape half words) runs items_packed.laid).counted
      (spells_run shape (section_in shape half words) ordinal items_row.0 runs (spelled_there shape half words (half_rows shape half words) ordinal items_row.0 items_packed.laid items_row.1)))

  run_tight : HasRuns shape → end_at widths first place ≡ start_at widths first place + bucket_count (length (pairs_of items_row.0))
  run_tight runs =
      items_over (λ ws fs ss n. end_at ws fs n ≡ start_at ws fs n + bucket_count (length (pairs_of items_row.0)))
      (tight_buckets shape (section_in shape half words) ordinal items_row.0 runs (items_packed.can.fits ordinal items_row.0 items_row.1)
      (subst (λ (r : Option Row). IsTight shape (section_in shape half words) ordinal r) items_row.1
      (items_packed.laid.tight ordinal (placed_in (half_rows shape half words) (places_of half.max) ordinal items_row.0 items_packed.can.held.places items_row.1))))

  -- the buckets of the place are the run of the row
  pub run_kept : HasRuns shape → (buckets : Buckets) (size : ℕ) → IsSpan widths half.total first second place × (run_of buckets ≡ run_at widths first second place) → size ≡ size_at widths first place
      → (row : Row) × (get (half_rows shape half words) ordinal ≡ Some row) × IsRunOf (run_of buckets) size row × (buckets.len ≡ bucket_count (length (pairs_of row)))
  run_kept runs buckets size (span, is) sized =
      let run = tight_run widths half.total first second place size (run_of buckets) items_row.0 (run_spelled runs) is sized (run_tight runs) in
      let long = length-run_in buckets.words.now buckets.key_width buckets.value_width buckets.start buckets.len in
      (items_row.0, items_row.1, run, sym long ∙ run.tight ∙ ap bucket_count run.sized)

  pub run_has : HasRuns shape → (IsSpan widths half.total first second place → ⊥) → ⊥
  run_has runs not = not (run_spelled runs).span
