-- Whole blobs of two states that can be laid out together: there is a snapshot, and a delta; and a blob is refused as too large exactly where it is.
use Rattle.std.proofs.Common.{◌≡◌, ℕ, ℤ, ◌+◌, ◌^◌, ◌<◌, ◌≤◌, suc, zero, inl, inr, List, [], ◌∷◌, ◌++◌, length, Result, Ok, Err, refl, ap, subst, arith}
use Rattle.std.specs.Prelude.{All, IfErr, IfOk}
use Rattle.std.specs.List.{range_with_len}
use Rattle.hol_varint.specs.Yields.{Yields}
use Rattle.schema_model.specs.Model.{IsModel}
use Rattle.schema_model.specs.declared.schema.Schema.{Schema}
use Rattle.row_model.specs.Table.{IsTableOf, Table}
use Rattle.row_packing.specs.States.{AreWritable}
use Rattle.blob_writing.specs.Changes.{AreChanged, AreChangesOf, IsDeltaBetween}
use Rattle.blob_writing.specs.Delta.{TypeChange, delta_bytes}
use Rattle.blob_writing.specs.Limits.{IsFreeWrite, IsTooLarge, MeansLarge}
use Rattle.blob_writing.specs.Snapshot.{AreCarriedOf, IsWrittenSnapshot, TypeRows, snapshot_bytes}
use Rattle.blob_writing.specs.declared.fault.WriteFault.{WriteFault}
use Rattle.blob_writing.specs.declared.fault.WriteFault.TheVariants.{Large, Memory}
use Rattle.blob_writing.proofs.CarryingTypes.{type_carried, type_changed}
use Rattle.blob_writing.proofs.ChangedTypes.{all_below, none_changed, one_changed, one_same, same_or_changed}
use Rattle.blob_writing.proofs.WritingSnapshots.{in_types}

module _ (schemas : List Schema) (model : IsModel schemas) (old new : Table) (before : IsTableOf schemas old) (after : IsTableOf schemas new) (can : AreWritable schemas old new) where
  -- ---- which types change

  changed_up_to : (count : ℕ) → count ≤ length schemas → (types : List ℕ) × AreChanged count old new types
  changed_up_to zero within = ([], none_changed old new)
  changed_up_to (suc count) within =
      let so_far = changed_up_to count (omega arith) in
      let next : count + 1 ≡ suc count = omega arith in
      elim (same_or_changed old new count (can.agree count (omega arith))) [
        | inl same ↦ (so_far.0, subst (λ (n : ℕ). AreChanged n old new so_far.0) next (one_same count old new so_far.0 so_far.1 same))
        | inr changed ↦
            (so_far.0 ++ count ∷ [], subst (λ (n : ℕ). AreChanged n old new (so_far.0 ++ count ∷ [])) next (one_changed count old new so_far.0 (so_far.0 ++ count ∷ []) so_far.1 changed refl))
      ]

  -- ---- what is carried of some types

  types_carried : (types : List ℕ) → All (λ type_index. type_index < length schemas) types → (carried : List TypeRows) × AreCarriedOf schemas old new types carried
  types_carried [] known = ([], tt)
  types_carried (type_index ∷ types) known =
      let one = type_carried schemas model old new before after can type_index (known 0 0 (omega arith)) in
      let rest = types_carried types (λ k d inside. known (suc k) d (omega arith)) in
      (one.0 ∷ rest.0, (one.1, rest.1))

  types_changed : (types : List ℕ) → All (λ type_index. type_index < length schemas) types → (changes : List TypeChange) × AreChangesOf schemas old new types changes
  types_changed [] known = ([], tt)
  types_changed (type_index ∷ types) known =
      let one = type_changed schemas model old new before after can type_index (known 0 0 (omega arith)) in
      let rest = types_changed types (λ k d inside. known (suc k) d (omega arith)) in
      (one.0 ∷ rest.0, (one.1, rest.1))

  -- ---- the blobs

  pub snapshot_is_there : (origin destination : ℤ) → (blob : List ℕ) × IsWrittenSnapshot schemas old new origin destination blob
  snapshot_is_there origin destination =
      let types = range_with_len 0 (length schemas) in
      let carried = types_carried types (in_types (length schemas) types refl) in
      (snapshot_bytes origin destination schemas carried.0, record { types = carried.0; carried = carried.1; is = refl })

  pub delta_is_there : (origin destination : ℤ) → (blob : List ℕ) × IsDeltaBetween schemas old new origin destination blob
  delta_is_there origin destination =
      let types = changed_up_to (length schemas) (omega arith) in
      let changes = types_changed types.0 (all_below (length schemas) (length schemas) old new types.0 refl types.1) in
      (delta_bytes origin destination changes.0, record { changes = changes.0; are = record { types = types.0; changed = types.1; carried = changes.1 }; is = refl })

-- ---- what a refusal means

-- where there is one such blob, it is refused as too large exactly where it is
pub exactly_large : {T : Type 0} (IsBlob : List ℕ → Type 0) (bytes : T → List ℕ) (result : Result T WriteFault) → (blob : List ℕ) × IsBlob blob → ((a b : List ℕ) → IsBlob a → IsBlob b → a ≡ b)
    → IfOk result (λ blob. IsBlob (bytes blob)) → IfOk result (λ blob. length (bytes blob) ≤ 2 ^ 28) → IfErr result (MeansLarge ((blob : List ℕ) → IsBlob blob → 2 ^ 28 < length blob))
    → Yields IsFreeWrite result (Err Large) (IsTooLarge IsBlob)
exactly_large IsBlob bytes (Ok blob) there once written short large = (
  λ e. absurd cc,
  λ over. let same = ap (λ (l : List ℕ). length l) (once (bytes blob) over.0 written over.1) in absurd (omega (arith, same, short, over.2)),
)
exactly_large IsBlob bytes (Err Large) there once written short large = (λ e. (there.0, there.1, large there.0 there.1), λ over. inl refl)
exactly_large IsBlob bytes (Err Memory) there once written short large = (λ e. absurd cc, λ over. inr tt)

-- the same between tags, as the code holds them
pub exactly_between : {T : Type 0} (IsBlob : ℤ → ℤ → List ℕ → Type 0) (bytes : T → List ℕ) (result : Result T WriteFault) (origin origin' destination destination' : ℤ) → origin ≡ origin'
    → destination ≡ destination' → (blob : List ℕ) × IsBlob origin' destination' blob → ((a b : List ℕ) → IsBlob origin' destination' a → IsBlob origin' destination' b → a ≡ b)
    → IfOk result (λ blob. IsBlob origin destination (bytes blob)) → IfOk result (λ blob. length (bytes blob) ≤ 2 ^ 28)
    → IfErr result (MeansLarge ((blob : List ℕ) → IsBlob origin destination blob → 2 ^ 28 < length blob)) → Yields IsFreeWrite result (Err Large) (IsTooLarge (IsBlob origin' destination'))
exactly_between IsBlob bytes result origin origin' destination destination' from to there once written short large =
    let Means : ℤ → ℤ → Type 0 = λ a b. IfErr result (MeansLarge ((blob : List ℕ) → IsBlob a b blob → 2 ^ 28 < length blob)) in
    let Writes : ℤ → ℤ → Type 0 = λ a b. IfOk result (λ blob. IsBlob a b (bytes blob)) in
    exactly_large (IsBlob origin' destination') bytes result there once (subst (λ a. Writes a destination') from (subst (λ b. Writes origin b) to written)) short
    (subst (λ a. Means a destination') from (subst (λ b. Means origin b) to large))
