-- A snapshot of the same states is written in one way: what is carried of a type has the same bytes, and so have all types.
use Rattle.std.proofs.Common.{◌≡◌, ℕ, ℤ, ◌+◌, ◌^◌, ◌<◌, List, [], ◌∷◌, ◌++◌, length, Option, Some, refl, sym, ap, ◌∙◌, subst, arith, length-append, append_assoc}
use Rattle.std.specs.Prelude.{slice_get}
use Rattle.std.specs.List.{cons_option, filter_map, range_with_len}
use Rattle.std.specs.FinMap.{keys}
use Rattle.ordinal_set.specs.Population.{IsPopulation}
use Rattle.ordinal_set.proofs.OnePopulation.{populated_once}
use Rattle.schema_model.specs.Model.{IsModel}
use Rattle.schema_model.specs.declared.schema.Schema.{Schema}
use Rattle.schema_model.specs.declared.schema.Shape.{Shape}
use Rattle.row_model.specs.Table.{Table}
use Rattle.row_model.specs.BothStates.{rows_in}
use Rattle.row_packing.specs.declared.chosen.Chosen.{Chosen}
use Rattle.row_packing.specs.Chosen.{shape_at, Suits}
use Rattle.row_packing.specs.Packs.{CanPackPlaces, PacksPlaces}
use Rattle.row_packing.specs.Places.{snapshot_places}
use Rattle.row_packing.specs.States.{AreWritable}
use Rattle.row_packing.proofs.PackedOnce.{ArePlacesPackedOnce}
use Rattle.row_packing.proofs.Suiting.{shape_is, can_pack_snapshot}
use Rattle.blob_frame.specs.Written.{schemas_at, schema_list_bytes, header_bytes}
use Rattle.blob_sections.specs.declared.section.PackedRows.{PackedRows}
use Rattle.blob_writing.specs.Carried.{FitBytes}
use Rattle.blob_writing.specs.Written.{snapshot_type_bytes}
use Rattle.blob_writing.proofs.ListLength.{header_long}
use Rattle.blob_writing.proofs.Once.{inside, one_greatest, rows_once, same_schema}
use Rattle.blob_writing.proofs.Progress.{counted_once}
use Rattle.blob_writing.specs.Snapshot.{TypeRows, type_bytes, body_bytes, IsCarriedOf, IsWrittenSnapshot}

-- ---- a type

same_type : (a b : TypeRows) → a.schema ≡ b.schema → a.max ≡ b.max → a.rows ≡ b.rows → a.population ≡ b.population → type_bytes a ≡ type_bytes b
same_type a b schema max rows population =
    ap (λ (s : Schema). snapshot_type_bytes s a.max a.rows a.population) schema
    ∙ ap (λ (m : Option ℕ). snapshot_type_bytes b.schema m a.rows a.population) max
    ∙ ap (λ (r : PackedRows). snapshot_type_bytes b.schema b.max r a.population) rows
    ∙ ap (λ (p : List ℕ). snapshot_type_bytes b.schema b.max b.rows p) population

-- what was chosen of what is carried
abbrev chosen_of : TypeRows → Chosen
chosen_of carried = record { max = carried.max; widths = carried.rows.widths; total = carried.rows.total }

module _ (law : ArePlacesPackedOnce) (schemas : List Schema) (model : IsModel schemas) (old new : Table) (can : AreWritable schemas old new) where
  suits : (index : ℕ) (carried : TypeRows) → IsCarriedOf schemas old new index carried → Suits (shape_at schemas index) new index (chosen_of carried)
  suits index carried is =
      let known = inside schemas index carried.schema is.schema in
      record { old = old; agree = can.agree index known; keeps = can.keeps index known; is = is.chosen }

  pub carried_once : (index : ℕ) (a b : TypeRows) → IsCarriedOf schemas old new index a → IsCarriedOf schemas old new index b → type_bytes a ≡ type_bytes b
  carried_once index a b one other =
      let shape = shape_at schemas index in
      let places = snapshot_places new index a.max in
      let here : shape ≡ a.schema.shape = shape_is schemas index a.schema one.schema in
      let there : shape ≡ b.schema.shape = shape_is schemas index b.schema other.schema in
      let max = one_greatest old new index a.max b.max one.chosen.max other.chosen.max in
      let packable : CanPackPlaces shape a.rows.widths places =
      subst (λ (s : Shape). CanPackPlaces s a.rows.widths places) (sym here) (can_pack_snapshot schemas index a.schema one.schema model new (chosen_of a) (suits index a one)) in
      let packed : PacksPlaces shape b.rows.widths places b.rows.packed.first b.rows.packed.second b.rows.packed.areas =
      subst (λ (m : Option ℕ). PacksPlaces shape b.rows.widths (snapshot_places new index m) b.rows.packed.first b.rows.packed.second b.rows.packed.areas) (sym max) other.packed in
      let rows = rows_once law shape places a.rows b.rows packable (one.chosen.widths ∙ sym other.chosen.widths) (one.chosen.total ∙ sym other.chosen.total)
      (subst (λ (s : Shape). FitBytes s a.rows) (sym here) one.fits) (subst (λ (s : Shape). FitBytes s b.rows) (sym there) other.fits) one.packed packed in
      let population = populated_once (keys (rows_in new index)) a.max a.population b.population one.population
      (subst (λ (m : Option ℕ). IsPopulation (keys (rows_in new index)) m b.population) (sym max) other.population) in
      same_type a b (same_schema schemas index a.schema b.schema one.schema other.schema) max rows population

  pub snapshot_once : (origin destination : ℤ) (a b : List ℕ) → IsWrittenSnapshot schemas old new origin destination a → IsWrittenSnapshot schemas old new origin destination b → a ≡ b
  snapshot_once origin destination a b one other =
      one.is ∙ ap (λ (bytes : List ℕ). header_bytes origin destination schemas ++ bytes) (counted_once (IsCarriedOf schemas old new) type_bytes carried_once (range_with_len 0 (length schemas)) one.types other.types one.carried other.carried) ∙ sym other.is

-- ---- the header

at_front : (front : List Schema) (schema : Schema) (rest : List Schema) → slice_get (front ++ schema ∷ rest) (length front) ≡ Some schema
at_front [] schema rest = refl
at_front (s ∷ front) schema rest = at_front front schema rest

schemas_from : (front rest : List Schema) → filter_map (slice_get (front ++ rest)) (range_with_len (length front) (length rest)) ≡ rest
schemas_from front [] = refl
schemas_from front (schema ∷ rest) =
    let long : length (front ++ schema ∷ []) ≡ length front + 1 = omega (arith, length-append front (schema ∷ [])) in
    let behind : filter_map (slice_get (front ++ schema ∷ rest)) (range_with_len (length front + 1) (length rest)) ≡ rest =
    subst (λ (n : ℕ). filter_map (slice_get (front ++ schema ∷ rest)) (range_with_len n (length rest)) ≡ rest) long
    (subst (λ (all : List Schema). filter_map (slice_get all) (range_with_len (length (front ++ schema ∷ [])) (length rest)) ≡ rest) (append_assoc front (schema ∷ []) rest)
    (schemas_from (front ++ schema ∷ []) rest)) in
    ap (λ (o : Option Schema). cons_option o (filter_map (slice_get (front ++ schema ∷ rest)) (range_with_len (length front + 1) (length rest)))) (at_front front schema rest)
    ∙ ap (λ (ss : List Schema). schema ∷ ss) behind

pub all_schemas : (schemas : List Schema) → schemas_at schemas (range_with_len 0 (length schemas)) ≡ schemas
all_schemas schemas = schemas_from [] schemas

-- a snapshot is as long as its list of schemas
pub long_list : (schemas : List Schema) (old new : Table) (types : List ℕ) (origin destination : ℤ) (blob : List ℕ) → types ≡ range_with_len 0 (length schemas)
    → 2 ^ 28 < length (schema_list_bytes (schemas_at schemas types)) → IsWrittenSnapshot schemas old new origin destination blob → 2 ^ 28 < length blob
long_list schemas old new types origin destination blob all over is =
    let same : schemas_at schemas types ≡ schemas = ap (λ (ts : List ℕ). schemas_at schemas ts) all ∙ all_schemas schemas in
    let listed = ap (λ (ss : List Schema). length (schema_list_bytes ss)) same in
    let here = ap (λ (l : List ℕ). length l) is.is in
    omega (arith, over, listed, here, header_long origin destination schemas, length-append (header_bytes origin destination schemas) (body_bytes is.types))
