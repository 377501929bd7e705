-- Lemmas on what is chosen for a type: it is that of the rows of both states, and its widths hold the places of either kind of blob.
use Rattle.std.proofs.Common.{◌≡◌, ℕ, suc, ◌+◌, ◌^◌, ◌<◌, ◌≤◌, max, inl, inr, List, [], ◌∷◌, length, get_or, Option, Some, None, refl, sym, ap, ◌∙◌, subst, arith}
use Rattle.std.specs.Prelude.{All, AllPairs, IfOk, Result, Ok, Err, IsSome, IsSomeAnd, flat_map, is_some, slice_get}
use Rattle.std.specs.List.{range_with_len}
use Rattle.std.specs.List.Sorted.{IsStrictlyIncreasing}
use Rattle.std.specs.Option.{option_map_or}
use Rattle.std.proofs.lemmas.Option.{slice_get-get_or}
use Rattle.std.proofs.lemmas.List.FromFn.{length-range_with_len}
use Rattle.std.proofs.lemmas.List.Elements.{All-head, All-tail}
use Rattle.std.proofs.lemmas.List.Kept.{AllPairs-from_increasing}
use Rattle.schema_model.specs.Model.{IsModel}
use Rattle.schema_model.specs.Parts.{fields_of, shape_fields}
use Rattle.row_model.specs.Table.{Table, IsLive, IsTableOf, row_at}
use Rattle.schema_model.specs.declared.model.rule.Rule.TheVariants.{TooMany}
use Rattle.row_model.specs.declared.row.Row.{Row}
use Rattle.schema_model.specs.declared.schema.Field.{Field}
use Rattle.schema_model.specs.declared.schema.Schema.{Schema}
use Rattle.schema_model.specs.declared.schema.Shape.{Shape}
use Rattle.schema_model.proofs.BrokenRules.{few_fields}
use Rattle.row_model.specs.BothStates.{rows_in, rows_from, rows_of_both}
use Rattle.row_model.proofs.RowsFrom.{get_in}
use Rattle.object_codec.specs.Widths.{fields_at, rows_bytes, widths_for as object_widths}
use Rattle.list_codec.specs.Widths.{elements_of_row, widths_for as list_widths, total_for as list_total}
use Rattle.bucket_codec.specs.Widths.{buckets_of_rows, widths_for as bucket_widths, total_for as bucket_total}
use Rattle.type_rows.specs.Layout.{places_of}
use Rattle.type_rows.specs.WordsHeld.{row_bytes, bytes_held}
use Rattle.row_packing.specs.declared.chosen.Chosen.{Chosen}
use Rattle.row_packing.specs.Chosen.{shape_at, IsLiveInEither, IsGreatestOrdinal, chosen_widths, chosen_total, IsRowOf, KeepsCounts, IsChosen, Suits}
use Rattle.row_packing.specs.Packs.{CanPackPlaces}
use Rattle.row_packing.specs.Places.{places_under, Agree, AreAdded}
use Rattle.row_packing.proofs.Greatest.{all_none, all_left, all_gives}
use Rattle.row_packing.proofs.RowBytes.{rows_count}
use Rattle.row_packing.proofs.RowsUnder.{RiseFrom, rise_all, all_both, each_both, each_in, sum_two}
use Rattle.row_packing.proofs.ListPlaces.{list_can}
use Rattle.row_packing.proofs.ObjectPlaces.{object_can}
use Rattle.row_packing.proofs.BucketPlaces.{set_can, map_can}

-- ---- limits

pub shape_is : (schemas : List Schema) (type_index : ℕ) (schema : Schema) → slice_get schemas type_index ≡ Some schema → shape_at schemas type_index ≡ schema.shape
shape_is schemas type_index schema at = ap (λ (o : Option Schema). option_map_or (λ s. s.shape) o (Shape.List [])) at

-- the bytes of both states are few
pub bytes_few : (shape : Shape) (old new : Table) (type_index : ℕ) → KeepsCounts shape old new type_index → bytes_held (rows_of_both old new type_index) ≤ 2 ^ 26
bytes_few shape old new type_index keeps =
    omega (arith, keeps.old_bytes, keeps.new_bytes, sum_two old new type_index row_bytes (2 ^ 22) (λ ordinal row at. keeps.ordinals ordinal (inr (ap is_some at))))

pub rows_bytes_few : (shape : Shape) (old new : Table) (type_index : ℕ) → KeepsCounts shape old new type_index → length (rows_bytes (rows_of_both old new type_index)) < 2 ^ 62
rows_bytes_few shape old new type_index keeps = omega (arith, rows_count (rows_of_both old new type_index), bytes_few shape old new type_index keeps)

pub list_few : (element : List ℕ) (rows : List Row) → chosen_total (Shape.List element) rows ≤ 2 ^ 25 → length (flat_map elements_of_row rows) ≤ 2 ^ 25
list_few element rows few = omega (arith, few)

pub buckets_few : (rows : List Row) → bucket_total rows ≤ 2 ^ 25 → buckets_of_rows rows ≤ 2 ^ 25
buckets_few rows few = omega (arith, few)

-- ---- the rows of both states

pub rows_of_type : (schemas : List Schema) (old new : Table) (type_index : ℕ) (schema : Schema) → slice_get schemas type_index ≡ Some schema → IsTableOf schemas old → IsTableOf schemas new
    → All (IsRowOf schema.shape) (rows_of_both old new type_index)
rows_of_type schemas old new type_index schema at before after =
    all_both (IsRowOf schema.shape) old new type_index
    (λ ordinal row found. (before.rows type_index ordinal schema row at found, before.ranges type_index ordinal schema row at found))
    (λ ordinal row found. (after.rows type_index ordinal schema row at found, after.ranges type_index ordinal schema row at found))

pub rows_known : (schemas : List Schema) (old new : Table) (type_index : ℕ) → type_index < length schemas → IsTableOf schemas old → IsTableOf schemas new
    → All (IsRowOf (shape_at schemas type_index)) (rows_of_both old new type_index)
rows_known schemas old new type_index known before after =
    let none : Schema = record { name = []; shape = Shape.List [] } in
    let at = slice_get-get_or schemas type_index none known in
    subst (λ (s : Shape). All (IsRowOf s) (rows_of_both old new type_index)) (sym (shape_is schemas type_index (get_or schemas type_index none) at))
    (rows_of_type schemas old new type_index (get_or schemas type_index none) at before after)

-- ---- the greatest ordinal

-- a snapshot has few places
pub places_few : (shape : Shape) (new : Table) (type_index : ℕ) (chosen : Chosen) → Suits shape new type_index chosen → places_of chosen.max ≤ 2 ^ 22
places_few shape new type_index chosen suits = by_max chosen.max suits.is.max
  where
    by_max : (max : Option ℕ) → IsGreatestOrdinal suits.old new type_index max → places_of max ≤ 2 ^ 22
    by_max None greatest = omega arith
    by_max (Some max) greatest = omega (arith, suits.keeps.ordinals max greatest.0)

-- ---- the ordinals of places

rise_pairs : (from : ℕ) (ordinals : List ℕ) → All (λ ordinal. from ≤ ordinal) ordinals → AllPairs (λ earlier later. earlier < later) ordinals → RiseFrom from ordinals
rise_pairs from [] low pairs = tt
rise_pairs from (ordinal ∷ rest) low pairs = (
  All-head (λ o. from ≤ o) ordinal rest low,
  rise_pairs (ordinal + 1) rest (λ k d inside. let above = pairs 0 (suc k) d (omega arith) (omega arith) in omega arith) (λ i j d less inside. pairs (suc i) (suc j) d (omega arith) (omega arith)),
)

pub rise_from : (ordinals : List ℕ) → IsStrictlyIncreasing ordinals → RiseFrom 0 ordinals
rise_from ordinals rising = rise_pairs 0 ordinals (λ k d inside. omega arith) (AllPairs-from_increasing ordinals rising)

-- rising ordinals below a limit are no more than it
rise_few : (limit from : ℕ) (ordinals : List ℕ) → RiseFrom from ordinals → All (λ ordinal. ordinal < limit) ordinals → from ≤ limit → length ordinals + from ≤ limit
rise_few limit from [] rise all low = omega arith
rise_few limit from (ordinal ∷ rest) rise all low =
    let here = All-head (λ o. o < limit) ordinal rest all in
    omega (arith, rise.0, rise_few limit (ordinal + 1) rest rise.1 (All-tail (λ o. o < limit) ordinal rest all) (omega arith))

-- ---- where both states have no row

some_row : (row : Option Row) → IsSome row → (found : Row) × (row ≡ Some found)
some_row None live = absurd cc
some_row (Some row) live = (row, refl)

pub no_live : (old new : Table) (type_index ordinal : ℕ) → Agree old new type_index → rows_of_both old new type_index ≡ [] → IsLiveInEither old new type_index ordinal → ⊥
no_live old new type_index ordinal agree none (inl live) =
    let found = some_row (row_at old type_index ordinal) live in
    each_in (λ row. ⊥) (rows_in old type_index) ordinal found.0 (all_left (λ row. ⊥) (rows_from 0 (rows_in old type_index)) _ (subst (All (λ row. ⊥)) (sym none) (all_none (λ row. ⊥))))
    (get_in old type_index ordinal ∙ found.1)
no_live old new type_index ordinal agree none (inr live) =
    let found = some_row (row_at new type_index ordinal) live in
    each_both old new type_index agree (λ row. ⊥) ordinal found.0 (subst (All (λ row. ⊥)) (sym none) (all_none (λ row. ⊥))) found.1

-- ---- what is chosen holds the places

module _ (schemas : List Schema) (type_index : ℕ) (schema : Schema) (at : slice_get schemas type_index ≡ Some schema) (model : IsModel schemas) where
  -- by the kind of the type
  can_pack_as : (shape : Shape) (old new : Table) (chosen : Chosen) → length (shape_fields shape) ≤ 1024 → Agree old new type_index → KeepsCounts shape old new type_index → IsChosen shape old new type_index chosen
      → (ordinals : List ℕ) → RiseFrom 0 ordinals → length ordinals ≤ 2 ^ 22 → (rows_of_both old new type_index ≡ [] → ordinals ≡ []) → CanPackPlaces shape chosen.widths (places_under new type_index ordinals)
  can_pack_as (Shape.Object key fields) old new chosen few agree keeps is ordinals rise short none =
      subst (λ (widths : List ℕ). CanPackPlaces (Shape.Object key fields) widths (places_under new type_index ordinals)) (sym is.widths)
      (object_can key fields old new type_index (record { agree = agree; rows = is.rows; bytes = omega (arith, bytes_few (Shape.Object key fields) old new type_index keeps); few = few }) ordinals rise short none)
  can_pack_as (Shape.List element) old new chosen few agree keeps is ordinals rise short none =
      subst (λ (widths : List ℕ). CanPackPlaces (Shape.List element) widths (places_under new type_index ordinals)) (sym is.widths)
      (list_can element old new type_index (record { agree = agree; rows = is.rows; few = list_few element (rows_of_both old new type_index) keeps.items }) ordinals rise)
  can_pack_as (Shape.Set element) old new chosen few agree keeps is ordinals rise short none =
      subst (λ (widths : List ℕ). CanPackPlaces (Shape.Set element) widths (places_under new type_index ordinals)) (sym is.widths)
      (set_can element old new type_index (record { agree = agree; rows = is.rows; few = buckets_few (rows_of_both old new type_index) keeps.items }) ordinals rise short)
  can_pack_as (Shape.Map key value) old new chosen few agree keeps is ordinals rise short none =
      subst (λ (widths : List ℕ). CanPackPlaces (Shape.Map key value) widths (places_under new type_index ordinals)) (sym is.widths)
      (map_can key value old new type_index (record { agree = agree; rows = is.rows; few = buckets_few (rows_of_both old new type_index) keeps.items }) ordinals rise short)

  can_pack : (new : Table) (chosen : Chosen) (suits : Suits (shape_at schemas type_index) new type_index chosen) (ordinals : List ℕ) → RiseFrom 0 ordinals → length ordinals ≤ 2 ^ 22
      → (rows_of_both suits.old new type_index ≡ [] → ordinals ≡ []) → CanPackPlaces schema.shape chosen.widths (places_under new type_index ordinals)
  can_pack new chosen suits ordinals rise short none =
      let is = shape_is schemas type_index schema at in
      can_pack_as schema.shape suits.old new chosen (few_fields schemas type_index schema at (model TooMany)) suits.agree
      (subst (λ (shape : Shape). KeepsCounts shape suits.old new type_index) is suits.keeps) (subst (λ (shape : Shape). IsChosen shape suits.old new type_index chosen) is suits.is) ordinals rise short none

  -- the places of a snapshot
  pub can_pack_snapshot : (new : Table) (chosen : Chosen) → Suits (shape_at schemas type_index) new type_index chosen
      → CanPackPlaces schema.shape chosen.widths (places_under new type_index (range_with_len 0 (places_of chosen.max)))
  can_pack_snapshot new chosen suits =
      can_pack new chosen suits (range_with_len 0 (places_of chosen.max)) (rise_all (places_of chosen.max))
      (omega (arith, length-range_with_len 0 (places_of chosen.max), places_few (shape_at schemas type_index) new type_index chosen suits))
      (λ empty. no_places suits.old new chosen.max suits.agree suits.is.max empty)
    where
      no_places : (old after : Table) (max : Option ℕ) → Agree old after type_index → IsGreatestOrdinal old after type_index max → rows_of_both old after type_index ≡ [] → range_with_len 0 (places_of max) ≡ []
      no_places old after None agree greatest empty = refl
      no_places old after (Some max) agree greatest empty = absurd (no_live old after type_index max agree empty greatest.0)

  -- the places of a delta
  pub can_pack_delta : (new : Table) (chosen : Chosen) (added : List ℕ) → Suits (shape_at schemas type_index) new type_index chosen → AreAdded new type_index added
      → CanPackPlaces schema.shape chosen.widths (places_under new type_index added)
  can_pack_delta new chosen added suits are =
      let rise = rise_from added are.rising in
      let below : All (λ ordinal. ordinal < 2 ^ 22) added = all_gives (IsLive new type_index) (λ ordinal. ordinal < 2 ^ 22) added (λ ordinal live. suits.keeps.ordinals ordinal (inr live)) are.live in
      can_pack new chosen suits added rise (omega (arith, rise_few (2 ^ 22) 0 added rise below (omega arith))) (λ empty. no_added added are.live empty)
    where
      no_added : (ordinals : List ℕ) → All (IsLive new type_index) ordinals → rows_of_both suits.old new type_index ≡ [] → ordinals ≡ []
      no_added [] live empty = refl
      no_added (ordinal ∷ rest) live empty = absurd (no_live suits.old new type_index ordinal suits.agree empty (inr (All-head (IsLive new type_index) ordinal rest live)))

-- ---- what is chosen

-- what an answer is, by an equal value
pub answer_same : {T E : Type 0} (result : Result T E) (a b : T) → a ≡ b → IfOk result (λ x. x ≡ a) → IfOk result (λ x. x ≡ b)
answer_same result a b same is = subst (λ y. IfOk result (λ x. x ≡ y)) same is

module _ (schemas : List Schema) (type_index : ℕ) (schema : Schema) (at : slice_get schemas type_index ≡ Some schema) (rows : List Row) where
  shape_here : (shape : Shape) → schema.shape ≡ shape → shape ≡ shape_at schemas type_index
  shape_here shape kind = sym (shape_is schemas type_index schema at ∙ kind)

  pub object_widths_are : (key : Option (List (List ℕ))) (fields : List Field) → schema.shape ≡ Shape.Object key fields
      → object_widths (fields_at schemas type_index) rows ≡ chosen_widths (shape_at schemas type_index) rows
  object_widths_are key fields kind =
      let named = ap (λ (o : Option Schema). option_map_or fields_of o []) at ∙ ap shape_fields kind in
      ap (λ (fs : List Field). object_widths fs rows) named ∙ ap (λ (s : Shape). chosen_widths s rows) (shape_here (Shape.Object key fields) kind)

  pub list_widths_are : (element : List ℕ) → schema.shape ≡ Shape.List element → list_widths (flat_map elements_of_row rows) ≡ chosen_widths (shape_at schemas type_index) rows
  list_widths_are element kind = ap (λ (s : Shape). chosen_widths s rows) (shape_here (Shape.List element) kind)

  pub object_total_is : (key : Option (List (List ℕ))) (fields : List Field) → schema.shape ≡ Shape.Object key fields → 0 ≡ chosen_total (shape_at schemas type_index) rows
  object_total_is key fields kind = ap (λ (s : Shape). chosen_total s rows) (shape_here (Shape.Object key fields) kind)

  pub list_total_is : (element : List ℕ) → schema.shape ≡ Shape.List element → list_total (flat_map elements_of_row rows) ≡ chosen_total (shape_at schemas type_index) rows
  list_total_is element kind = ap (λ (s : Shape). chosen_total s rows) (shape_here (Shape.List element) kind)

  buckets_as : (shape : Shape) → schema.shape ≡ shape → ((key : Option (List (List ℕ))) (fields : List Field) → schema.shape ≡ Shape.Object key fields → ⊥)
      → ((element : List ℕ) → schema.shape ≡ Shape.List element → ⊥)
      → (bucket_widths shape rows ≡ chosen_widths (shape_at schemas type_index) rows) × (bucket_total rows ≡ chosen_total (shape_at schemas type_index) rows)
  buckets_as (Shape.Object key fields) kind not_object not_list = absurd (not_object key fields kind)
  buckets_as (Shape.List element) kind not_object not_list = absurd (not_list element kind)
  buckets_as (Shape.Set element) kind not_object not_list =
      (ap (λ (s : Shape). chosen_widths s rows) (shape_here (Shape.Set element) kind), ap (λ (s : Shape). chosen_total s rows) (shape_here (Shape.Set element) kind))
  buckets_as (Shape.Map key value) kind not_object not_list =
      (ap (λ (s : Shape). chosen_widths s rows) (shape_here (Shape.Map key value) kind), ap (λ (s : Shape). chosen_total s rows) (shape_here (Shape.Map key value) kind))

  pub buckets_total_is : ((key : Option (List (List ℕ))) (fields : List Field) → schema.shape ≡ Shape.Object key fields → ⊥)
      → ((element : List ℕ) → schema.shape ≡ Shape.List element → ⊥) → bucket_total rows ≡ chosen_total (shape_at schemas type_index) rows
  buckets_total_is not_object not_list = (buckets_as schema.shape refl not_object not_list).1

  pub buckets_widths_are : {E : Type 0} (old_schemas : List Schema) (result : Result (List ℕ) E) → old_schemas ≡ schemas
      → ((key : Option (List (List ℕ))) (fields : List Field) → schema.shape ≡ Shape.Object key fields → ⊥) → ((element : List ℕ) → schema.shape ≡ Shape.List element → ⊥)
      → IfOk result (λ widths. IsSomeAnd (slice_get old_schemas type_index) (λ s. widths ≡ bucket_widths s.shape rows)) → IfOk result (λ widths. widths ≡ chosen_widths (shape_at schemas type_index) rows)
  buckets_widths_are old_schemas (Ok widths) one not_object not_list is =
      subst (λ (o : Option Schema). IsSomeAnd o (λ s. widths ≡ bucket_widths s.shape rows)) (ap (λ (ss : List Schema). slice_get ss type_index) one ∙ at) is
      ∙ (buckets_as schema.shape refl not_object not_list).0
  buckets_widths_are old_schemas (Err error) one not_object not_list is = is
