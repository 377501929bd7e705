-- A delta between the same states is written in one way: what is carried of a type has the same bytes, and so have all changes.
use Rattle.std.proofs.Common.{◌≡◌, ℕ, ℤ, ◌^◌, ◌<◌, List, [], ◌∷◌, ◌++◌, get_or, length, Option, Some, Result, Ok, Err, refl, sym, ap, ◌∙◌, subst, arith, length-append}
use Rattle.std.specs.Prelude.{All, Contains, OnOk, slice_get}
use Rattle.std.specs.List.{cons_option}
use Rattle.std.specs.FinMap.{keys}
use Rattle.std.proofs.lemmas.List.{get_or_default}
use Rattle.std.proofs.lemmas.List.Kept.{IsStrictlyIncreasing-filter}
use Rattle.ordinal_set.specs.Ordinals.{lacking}
use Rattle.ordinal_set.proofs.Members.{Contains-filter}
use Rattle.schema_model.specs.Model.{IsModel}
use Rattle.row_model.specs.Table.{Table, IsLive}
use Rattle.row_model.specs.declared.packed.Packed.{Packed}
use Rattle.schema_model.specs.declared.schema.Schema.{Schema}
use Rattle.schema_model.specs.declared.schema.Shape.{Shape}
use Rattle.row_model.specs.BothStates.{rows_in}
use Rattle.row_packing.specs.declared.chosen.Chosen.{Chosen}
use Rattle.row_packing.specs.Chosen.{shape_at, IsChosen, Suits}
use Rattle.row_packing.specs.Packs.{CanPackPlaces, PacksPlaces}
use Rattle.row_packing.specs.Places.{places_under, AreAdded}
use Rattle.row_packing.specs.States.{AreWritable}
use Rattle.row_packing.proofs.LiveRows.{is_live, rising_keys}
use Rattle.row_packing.proofs.PackedOnce.{ArePlacesPackedOnce}
use Rattle.row_packing.proofs.Suiting.{shape_is, can_pack_delta}
use Rattle.blob_frame.specs.Written.{schemas_at, schema_list_bytes, header_bytes}
use Rattle.blob_sections.specs.declared.section.PackedRows.{PackedRows}
use Rattle.blob_writing.specs.Carried.{FitBytes, FitGaps}
use Rattle.blob_writing.specs.Written.{rows_by, delta_type_bytes}
use Rattle.blob_writing.proofs.ListLength.{header_long}
use Rattle.blob_writing.proofs.Once.{inside, one_greatest, rows_once, same_schema}
use Rattle.blob_writing.proofs.Progress.{counted_once}
use Rattle.blob_writing.specs.Delta.{TypeChange, change_bytes, body_bytes, schemas_of}
use Rattle.blob_writing.specs.Changes.{AreChanged, gone, IsChangeOf, AreChangesOf, IsDeltaBetween}
use Rattle.blob_writing.proofs.ChangedTypes.{changed_once}

-- ---- the ordinals

pub all_of : (P : ℕ → Type 0) (xs : List ℕ) → ((n : ℕ) → Contains xs n → P n) → All P xs
all_of P xs each k d within = each (get_or xs k d) (k, within, get_or_default xs k (get_or xs k d) d within)

-- the ordinals that come are live in the new state
pub gone_live : (from to : Table) (index : ℕ) → AreAdded from index (gone from to index)
unfolding lacking
gone_live from to index = record {
  rising = IsStrictlyIncreasing-filter _ (keys (rows_in from index)) (rising_keys (rows_in from index));
  live = all_of (IsLive from index) (gone from to index) (λ n among. is_live from index n (Contains-filter _ (keys (rows_in from index)) n among));
}

-- the members that one set of live ordinals has and the other lacks
pub gone_as : (from to : Table) (index : ℕ) (before after list : List ℕ) → before ≡ keys (rows_in from index) → after ≡ keys (rows_in to index) → list ≡ lacking before after → list ≡ gone from to index
gone_as from to index before after list is_before is_after is =
    is ∙ ap (λ (set : List ℕ). lacking set after) is_before ∙ ap (λ (set : List ℕ). lacking (keys (rows_in from index)) set) is_after

-- ---- the changes of a type

same_change : (a b : TypeChange) → a.schema ≡ b.schema → a.max ≡ b.max → a.removed ≡ b.removed → a.added ≡ b.added → a.rows ≡ b.rows → change_bytes a ≡ change_bytes b
same_change a b schema max removed added rows =
    ap (λ (s : Schema). delta_type_bytes s a.max a.removed a.added a.rows) schema
    ∙ ap (λ (m : Option ℕ). delta_type_bytes b.schema m a.removed a.added a.rows) max
    ∙ ap (λ (os : List ℕ). delta_type_bytes b.schema b.max os a.added a.rows) removed
    ∙ ap (λ (os : List ℕ). delta_type_bytes b.schema b.max b.removed os a.rows) added
    ∙ ap (λ (r : PackedRows). delta_type_bytes b.schema b.max b.removed b.added r) rows

-- what was chosen of what is carried
abbrev chosen_of : TypeChange → Chosen
chosen_of change = record { max = change.max; widths = change.rows.widths; total = change.rows.total }

-- the schemas of the changes are those of the types
pub listed : (schemas : List Schema) (old new : Table) (types : List ℕ) (changes : List TypeChange) → AreChangesOf schemas old new types changes → schemas_of changes ≡ schemas_at schemas types
listed schemas old new [] [] are = refl
listed schemas old new [] (change ∷ changes) are = absurd are
listed schemas old new (index ∷ types) [] are = absurd are
listed schemas old new (index ∷ types) (change ∷ changes) are =
    ap (λ (ss : List Schema). change.schema ∷ ss) (listed schemas old new types changes are.1)
    ∙ ap (λ (o : Option Schema). cons_option o (schemas_at schemas types)) (sym are.0.schema)

module _ (law : ArePlacesPackedOnce) (schemas : List Schema) (model : IsModel schemas) (old new : Table) (can : AreWritable schemas old new) where
  suits : (index : ℕ) (change : TypeChange) → IsChangeOf schemas old new index change → Suits (shape_at schemas index) new index (chosen_of change)
  suits index change is =
      let known = inside schemas index change.schema is.schema in
      record { old = old; agree = can.agree index known; keeps = can.keeps index known; is = is.chosen }

  pub change_once : (index : ℕ) (a b : TypeChange) → IsChangeOf schemas old new index a → IsChangeOf schemas old new index b → change_bytes a ≡ change_bytes b
  change_once index a b one other =
      let shape = shape_at schemas index in
      let places = places_under new index a.added in
      let here : shape ≡ a.schema.shape = shape_is schemas index a.schema one.schema in
      let there : shape ≡ b.schema.shape = shape_is schemas index b.schema other.schema in
      let added : a.added ≡ b.added = one.added ∙ sym other.added in
      let live : AreAdded new index a.added = subst (AreAdded new index) (sym one.added) (gone_live new old index) in
      let packable : CanPackPlaces shape a.rows.widths places =
      subst (λ (s : Shape). CanPackPlaces s a.rows.widths places) (sym here) (can_pack_delta schemas index a.schema one.schema model new (chosen_of a) a.added (suits index a one) live) in
      let packed : PacksPlaces shape b.rows.widths places b.rows.packed.first b.rows.packed.second b.rows.packed.areas =
      subst (λ (os : List ℕ). PacksPlaces shape b.rows.widths (places_under new index os) b.rows.packed.first b.rows.packed.second b.rows.packed.areas) (sym added) other.packed in
      let rows = rows_once law shape places a.rows b.rows packable (one.chosen.widths ∙ sym other.chosen.widths) (one.chosen.total ∙ sym other.chosen.total)
      (subst (λ (s : Shape). FitBytes s a.rows) (sym here) one.fits) (subst (λ (s : Shape). FitBytes s b.rows) (sym there) other.fits) one.packed packed in
      same_change a b (same_schema schemas index a.schema b.schema one.schema other.schema) (one_greatest old new index a.max b.max one.chosen.max other.chosen.max)
      (one.removed ∙ sym other.removed) added rows

  -- ---- the whole

  -- the parts of a delta by the types that change
  pub delta_is : (origin destination : ℤ) (blob : List ℕ) (types : List ℕ) → AreChanged (length schemas) old new types → IsDeltaBetween schemas old new origin destination blob
      → (changes : List TypeChange) × AreChangesOf schemas old new types changes × (blob ≡ header_bytes origin destination (schemas_at schemas types) ++ body_bytes changes)
  delta_is origin destination blob types are delta =
      let same = changed_once (length schemas) old new delta.are.types types delta.are.changed are in
      let carried = subst (λ (ts : List ℕ). AreChangesOf schemas old new ts delta.changes) same delta.are.carried in
      (delta.changes, carried, delta.is ∙ ap (λ (ss : List Schema). header_bytes origin destination ss ++ body_bytes delta.changes) (listed schemas old new types delta.changes carried))

  pub delta_once : (origin destination : ℤ) (a b : List ℕ) → IsDeltaBetween schemas old new origin destination a → IsDeltaBetween schemas old new origin destination b → a ≡ b
  delta_once origin destination a b one other =
      let mine = delta_is origin destination a one.are.types one.are.changed one in
      let yours = delta_is origin destination b one.are.types one.are.changed other in
      mine.2 ∙ ap (λ (bytes : List ℕ). header_bytes origin destination (schemas_at schemas one.are.types) ++ bytes)
      (counted_once (IsChangeOf schemas old new) change_bytes change_once one.are.types mine.0 yours.0 mine.1 yours.1) ∙ sym yours.2

  -- a delta is as long as its list of schemas
  pub long_list : (types : List ℕ) (origin destination : ℤ) (blob : List ℕ) → AreChanged (length schemas) old new types → 2 ^ 28 < length (schema_list_bytes (schemas_at schemas types))
      → IsDeltaBetween schemas old new origin destination blob → 2 ^ 28 < length blob
  long_list types origin destination blob are over delta =
      let whole = delta_is origin destination blob types are delta in
      let here = ap (λ (l : List ℕ). length l) whole.2 in
      omega (arith, over, here, header_long origin destination (schemas_at schemas types), length-append (header_bytes origin destination (schemas_at schemas types)) (body_bytes whole.0))

  module _ (types : List ℕ) (origin destination : ℤ) (header : List ℕ) (are : AreChanged (length schemas) old new types)
      (is : header ≡ header_bytes origin destination (schemas_at schemas types)) where
    pub delta_written : (blob : List ℕ) → (changes : List TypeChange) × AreChangesOf schemas old new types changes × (blob ≡ header ++ body_bytes changes)
        → IsDeltaBetween schemas old new origin destination blob
    delta_written blob (changes, carried, put) = record {
      changes = changes;
      are = record { types = types; changed = are; carried = carried };
      is = put ∙ ap (λ (h : List ℕ). h ++ body_bytes changes) (is ∙ ap (λ (ss : List Schema). header_bytes origin destination ss) (sym (listed schemas old new types changes carried)));
    }

    pub delta_large : ((changes : List TypeChange) → AreChangesOf schemas old new types changes → 2 ^ 28 < length (header ++ body_bytes changes))
        → (blob : List ℕ) → IsDeltaBetween schemas old new origin destination blob → 2 ^ 28 < length blob
    delta_large large blob delta =
        let whole = delta_is origin destination blob types are delta in
        let over = large whole.0 whole.1 in
        let here = ap (λ (l : List ℕ). length l) (whole.2 ∙ ap (λ (h : List ℕ). h ++ body_bytes whole.0) (sym is)) in
        omega (arith, over, here)

-- what was put of a type is what is carried of it
pub put_changed : {T E : Type 0} (schemas : List Schema) (old new : Table) (index : ℕ) (schema : Schema) (chosen : Chosen) (packed : Packed) (removed added : List ℕ) (result : Result T E) (out more : List ℕ)
    → slice_get schemas index ≡ Some schema → IsChosen (shape_at schemas index) old new index chosen
    → PacksPlaces (shape_at schemas index) chosen.widths (places_under new index added) packed.first packed.second packed.areas → removed ≡ gone old new index → added ≡ gone new old index
    → OnOk result (more ≡ out ++ delta_type_bytes schema chosen.max removed added (rows_by chosen packed))
    → OnOk result (FitGaps removed × FitGaps added × FitBytes schema.shape (rows_by chosen packed))
    → OnOk result ((change : TypeChange) × IsChangeOf schemas old new index change × (more ≡ out ++ change_bytes change))
put_changed schemas old new index schema chosen packed removed added (Ok x) out more there is packs goes comes put fits = (
  record { schema = schema; max = chosen.max; removed = removed; added = added; rows = rows_by chosen packed },
  record { schema = there; chosen = is; removed = goes; added = comes; packed = packs; fits = fits.2 },
  put,
)
put_changed schemas old new index schema chosen packed removed added (Err e) out more there is packs goes comes put fits = tt
