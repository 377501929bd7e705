-- A patch without a bad ordinal: what it removes is live, what it adds is not, and what it adds and what stays has a place.
use Rattle.std.proofs.Common.{◌≡◌, ℕ, inl, inr, get_or, None, Some, refl, ap}
use Rattle.std.specs.Prelude.{Contains, is_some}
use Rattle.std.specs.FinMap.{get, keys}
use Rattle.std.proofs.lemmas.Bool.{cases_lt}
use Rattle.std.proofs.lemmas.Option.{slice_get-get_or}
use Rattle.schema_model.specs.declared.schema.Shape.{Shape}
use Rattle.schema_model.specs.declared.reason.Reason.{Reason}
use Rattle.row_model.specs.Table.{RowMap}
use Rattle.type_rows.specs.declared.fault.RowFault.{RowFault}
use Rattle.type_rows.specs.declared.patch.PatchSection.{PatchSection}
use Rattle.type_rows.specs.Layout.{places_of}
use Rattle.type_rows.specs.Patches.{places_in}
use Rattle.type_rows.proofs.Removal.{has_or}
use Rattle.type_rows.specs.MoveFault.{AddedPass, FailsMove, OrdinalsPass, RemovedPass}
use Rattle.type_rows.proofs.FirstPlaces.{no_ordinals, no_width}
use Rattle.type_rows.proofs.MoveFaults.{key_of_live, live_key}
use Rattle.type_rows.proofs.PatchOrdinals.{added_rise, removed_rise}
use Rattle.type_state.specs.FirstFaults.{FailsAdds}
use Rattle.type_state.specs.Moving.{AreAddable, AreRemovable}

pub removable : (patch : PatchSection) (old : RowMap) → RemovedPass patch old → AreRemovable old patch.removed
removable patch old pass = record {
  rise = removed_rise (keys old) patch.removed pass;
  live = λ k d inside. elim (has_or (keys old) (get_or patch.removed k d)) [
    | inl at ↦ live_key old (get_or patch.removed k d) at
    | inr out ↦ absurd (pass k (get_or patch.removed k d) (slice_get-get_or patch.removed k d inside) (inr out))
  ];
}

none_there : (old : RowMap) (o : ℕ) → (Contains (keys old) o → ⊥) → get old o ≡ None
none_there old o out = elim (get old o) as (λ found. get old o ≡ found → found ≡ None) [
  | None ↦ λ is. refl
  | Some row ↦ λ is. absurd (out (key_of_live old o (ap is_some is)))
] refl

pub addable : (patch : PatchSection) (old : RowMap) → AddedPass patch old → AreAddable old (places_of patch.max) patch.added
addable patch old pass = record {
  rise = added_rise (keys old) (places_of patch.max) patch.added pass;
  placed = λ k d inside. elim (cases_lt (get_or patch.added k d) (places_of patch.max)) [
    | inl low ↦ low
    | inr high ↦ absurd (pass k (get_or patch.added k d) (slice_get-get_or patch.added k d inside) (inr (inl high)))
  ];
  free = λ k d inside. none_there old (get_or patch.added k d) (λ at. pass k (get_or patch.added k d) (slice_get-get_or patch.added k d inside) (inr (inr at)));
}

-- The first place that spells no row is the first fault, where no ordinal is bad.
pub fails_adds : (shape : Shape) (patch : PatchSection) (old : RowMap) (fault : RowFault) → OrdinalsPass patch old → FailsAdds shape patch fault → FailsMove shape patch old fault
fails_adds shape patch old (RowFault.At Reason.BadOrdinals o) pass f = absurd (no_ordinals shape (places_in patch) f.place f.fails)
fails_adds shape patch old (RowFault.At Reason.BadWidth o) pass f = absurd (no_width shape (places_in patch) f.place f.fails)
fails_adds shape patch old (RowFault.At reason o) pass f = (pass, f)
fails_adds shape patch old (RowFault.Limit limit) pass f = absurd f
fails_adds shape patch old RowFault.Memory pass f = tt
