-- A snapshot as it is written: the indexes of its types, what is put of each, and when it is too long.
use Rattle.std.proofs.Common.{◌≡◌, ℕ, ℤ, ◌+◌, ◌^◌, ◌<◌, Some, List, [], ◌∷◌, ◌++◌, length, Result, Ok, Err, sym, ap, ◌∙◌, subst, arith}
use Rattle.std.specs.Prelude.{All, OnOk, slice_get}
use Rattle.std.specs.List.{range_with_len}
use Rattle.std.specs.FinMap.{keys}
use Rattle.std.proofs.lemmas.List.FromFn.{length-range_with_len, get_or-range_with_len}
use Rattle.std.proofs.lemmas.List.Kept.{AllPairs-from_increasing}
use Rattle.ordinal_set.specs.Population.{IsPopulation}
use Rattle.ordinal_set.proofs.Members.{rising-range}
use Rattle.row_model.specs.Row.{Rises}
use Rattle.row_model.specs.declared.packed.Packed.{Packed}
use Rattle.schema_model.specs.declared.schema.Schema.{Schema}
use Rattle.row_model.specs.Table.{Table}
use Rattle.row_model.specs.BothStates.{rows_in}
use Rattle.row_packing.specs.declared.chosen.Chosen.{Chosen}
use Rattle.row_packing.specs.Chosen.{shape_at, IsChosen}
use Rattle.row_packing.specs.Packs.{PacksPlaces}
use Rattle.row_packing.specs.Places.{snapshot_places}
use Rattle.row_packing.proofs.ByType.{first_types}
use Rattle.blob_frame.specs.Written.{schemas_at, schema_list_bytes, header_bytes}
use Rattle.blob_writing.specs.Carried.{FitBytes}
use Rattle.blob_writing.specs.Written.{rows_by, snapshot_type_bytes}
use Rattle.blob_writing.specs.Snapshot.{TypeRows, type_bytes, body_bytes, IsCarriedOf, AreCarriedOf, IsFrontLong, IsWrittenSnapshot}
use Rattle.blob_writing.proofs.OneSnapshot.{all_schemas}

-- ---- the indexes of the types

pub types_more : (index : ℕ) (types more : List ℕ) → types ≡ range_with_len 0 index → more ≡ types ++ index ∷ [] → more ≡ range_with_len 0 (index + 1)
types_more index types more so_far pushed = pushed ∙ ap (λ (ts : List ℕ). ts ++ index ∷ []) so_far ∙ first_types index

pub in_types : (count : ℕ) (types : List ℕ) → types ≡ range_with_len 0 count → All (λ index. index < count) types
in_types count types all =
    subst (All (λ (index : ℕ). index < count)) (sym all) (λ k d inside.
    let long = length-range_with_len 0 count in
    let at = get_or-range_with_len 0 count k d (omega (arith, inside, long)) in
    omega (arith, at, inside, long))

pub rising_types : (count : ℕ) (types : List ℕ) → types ≡ range_with_len 0 count → Rises types
rising_types count types all = subst Rises (sym all) (AllPairs-from_increasing (range_with_len 0 count) (rising-range 0 count))

-- ---- a type

-- what was put of a type is what is carried of it
pub put_carried : {T E : Type 0} (schemas : List Schema) (old new : Table) (index : ℕ) (schema : Schema) (chosen : Chosen) (packed : Packed) (live : List ℕ) (result : Result T E) (out more : List ℕ)
    → slice_get schemas index ≡ Some schema → IsChosen (shape_at schemas index) old new index chosen
    → PacksPlaces (shape_at schemas index) chosen.widths (snapshot_places new index chosen.max) packed.first packed.second packed.areas → live ≡ keys (rows_in new index)
    → OnOk result ((bytes : List ℕ) × (more ≡ out ++ snapshot_type_bytes schema chosen.max (rows_by chosen packed) bytes) × IsPopulation live chosen.max bytes)
    → OnOk result (FitBytes schema.shape (rows_by chosen packed))
    → OnOk result ((carried : TypeRows) × IsCarriedOf schemas old new index carried × (more ≡ out ++ type_bytes carried))
put_carried schemas old new index schema chosen packed live (Ok x) out more there is packs all put fits = (
  record { schema = schema; max = chosen.max; rows = rows_by chosen packed; population = put.0 },
  record { schema = there; chosen = is; packed = packs; fits = fits; population = subst (λ (set : List ℕ). IsPopulation set chosen.max put.0) all put.2 },
  put.1,
)
put_carried schemas old new index schema chosen packed live (Err e) out more there is packs all put fits = tt

-- ---- the whole

pub long_schemas : (schemas : List Schema) (types : List ℕ) → types ≡ range_with_len 0 (length schemas) → 2 ^ 28 < length (schema_list_bytes (schemas_at schemas types))
    → 2 ^ 28 < length (schema_list_bytes schemas)
long_schemas schemas types all =
    subst (λ (ss : List Schema). 2 ^ 28 < length (schema_list_bytes ss)) (ap (λ (ts : List ℕ). schemas_at schemas ts) all ∙ all_schemas schemas)

module _ (schemas : List Schema) (old new : Table) (types : List ℕ) (origin destination : ℤ) (header : List ℕ) (all : types ≡ range_with_len 0 (length schemas))
    (is : header ≡ header_bytes origin destination (schemas_at schemas types)) where
  header_is : header ≡ header_bytes origin destination schemas
  header_is = is ∙ ap (λ (listed : List Schema). header_bytes origin destination listed) (ap (λ (ts : List ℕ). schemas_at schemas ts) all ∙ all_schemas schemas)

  pub snapshot_written : (blob : List ℕ) → (carried : List TypeRows) × AreCarriedOf schemas old new types carried × (blob ≡ header ++ body_bytes carried)
      → IsWrittenSnapshot schemas old new origin destination blob
  snapshot_written blob (carried, are, put) = record {
    types = carried;
    carried = subst (λ (ts : List ℕ). AreCarriedOf schemas old new ts carried) all are;
    is = put ∙ ap (λ (h : List ℕ). h ++ body_bytes carried) header_is;
  }

  pub snapshot_large : ((carried : List TypeRows) → AreCarriedOf schemas old new types carried → 2 ^ 28 < length (header ++ body_bytes carried))
      → (blob : List ℕ) → IsWrittenSnapshot schemas old new origin destination blob → 2 ^ 28 < length blob
  snapshot_large large blob written =
      let over = large written.types (subst (λ (ts : List ℕ). AreCarriedOf schemas old new ts written.types) (sym all) written.carried) in
      let whole = ap (λ (l : List ℕ). length l) (written.is ∙ ap (λ (h : List ℕ). h ++ body_bytes written.types) (sym header_is)) in
      omega (arith, over, whole)

  pub snapshot_front : IsFrontLong schemas old new types header → IsFrontLong schemas old new (range_with_len 0 (length schemas)) (header_bytes origin destination schemas)
  snapshot_front front =
      subst (λ (ts : List ℕ). IsFrontLong schemas old new ts (header_bytes origin destination schemas)) all (subst (λ (h : List ℕ). IsFrontLong schemas old new types h) header_is front)
