-- The walks over the ordinals of a patch, one after the other.
use Rattle.std.proofs.Common.{inl, inr, ◌≡◌, ℕ, ◌+◌, List, get_or, subst, sym, arith}
use Rattle.std.specs.List.Sorted.{IsStrictlyIncreasing}
use Rattle.std.specs.FinMap.{keys}
use Rattle.std.proofs.lemmas.Bool.{cases_lt}
use Rattle.std.proofs.lemmas.Option.{slice_get-get_or}
use Rattle.row_model.specs.Table.{RowMap}
use Rattle.type_rows.specs.declared.patch.PatchSection.{PatchSection}
use Rattle.type_rows.specs.Layout.{places_of}
use Rattle.type_rows.specs.First.{FirstFails, NoneFails}
use Rattle.type_rows.specs.MoveFault.{AddedPass, FailsOrdinals, RemovedPass, StayingPass}
use Rattle.type_rows.specs.Ordinals.{FailsAdded, FailsRemoved, HoldsNowhere, IsLeast, IsNotAbove, StaysOutside}

-- Numbers of which none fails rise, where one that is not above the one before it fails.
rising : (Test : ℕ → ℕ → Type 0) (numbers : List ℕ) → ((index number : ℕ) → IsNotAbove numbers index number → Test index number) → NoneFails Test numbers → IsStrictlyIncreasing numbers
rising Test numbers low_fails none k inside = elim (cases_lt (get_or numbers k 0) (get_or numbers (k + 1) 0)) [
  | inl low ↦ low
  | inr high ↦ absurd (none (k + 1) (get_or numbers (k + 1) 0) (slice_get-get_or numbers (k + 1) 0 inside)
      (low_fails (k + 1) (get_or numbers (k + 1) 0) (record { earlier = k; previous = get_or numbers k 0; behind = omega arith; stands = slice_get-get_or numbers k 0 (omega (arith, inside)); below = high })))
]

pub removed_rise : (live removed : List ℕ) → NoneFails (FailsRemoved live removed) removed → IsStrictlyIncreasing removed
removed_rise live removed none = rising (FailsRemoved live removed) removed (λ index number low. inl low) none

pub added_rise : (live : List ℕ) (places : ℕ) (added : List ℕ) → NoneFails (FailsAdded live places added) added → IsStrictlyIncreasing added
added_rise live places added none = rising (FailsAdded live places added) added (λ index number low. inl low) none

module _ (patch : PatchSection) (live : List ℕ) (old : RowMap) (same : keys old ≡ live) where
  pub removed_pass : (removed : List ℕ) → removed ≡ patch.removed → NoneFails (FailsRemoved live removed) removed → RemovedPass patch old
  removed_pass removed is none =
      subst (λ (l : List ℕ). NoneFails (FailsRemoved l patch.removed) patch.removed) (sym same) (subst (λ (r : List ℕ). NoneFails (FailsRemoved live r) r) is none)

  pub added_pass : (places : ℕ) (added : List ℕ) → places ≡ places_of patch.max → added ≡ patch.added → NoneFails (FailsAdded live places added) added → AddedPass patch old
  added_pass places added one two none =
      subst (λ (l : List ℕ). NoneFails (FailsAdded l (places_of patch.max) patch.added) patch.added) (sym same)
      (subst (λ (p : ℕ). NoneFails (FailsAdded live p patch.added) patch.added) one (subst (λ (a : List ℕ). NoneFails (FailsAdded live places a) a) two none))

  pub added_first : (places : ℕ) (added : List ℕ) (ordinal : ℕ) → places ≡ places_of patch.max → added ≡ patch.added → RemovedPass patch old → FirstFails (FailsAdded live places added) added ordinal → FailsOrdinals patch old ordinal
  added_first places added ordinal one two passed first =
      inr (inl (
        passed,
        subst (λ (l : List ℕ). FirstFails (FailsAdded l (places_of patch.max) patch.added) patch.added ordinal) (sym same)
            (subst (λ (p : ℕ). FirstFails (FailsAdded live p patch.added) patch.added ordinal) one (subst (λ (a : List ℕ). FirstFails (FailsAdded live places a) a ordinal) two first)),
      ))

  pub staying_pass : (places : ℕ) (removed : List ℕ) → places ≡ places_of patch.max → removed ≡ patch.removed → HoldsNowhere (StaysOutside live removed places) → StayingPass patch old
  staying_pass places removed one two none =
      subst (λ (l : List ℕ). HoldsNowhere (StaysOutside l patch.removed (places_of patch.max))) (sym same)
      (subst (λ (p : ℕ). HoldsNowhere (StaysOutside live patch.removed p)) one (subst (λ (r : List ℕ). HoldsNowhere (StaysOutside live r places)) two none))

  pub staying_first : (places : ℕ) (removed : List ℕ) (ordinal : ℕ) → places ≡ places_of patch.max → removed ≡ patch.removed → RemovedPass patch old → AddedPass patch old → IsLeast (StaysOutside live removed places) ordinal
      → FailsOrdinals patch old ordinal
  staying_first places removed ordinal one two gone came least =
      inr (inr (
        gone,
        came,
        subst (λ (l : List ℕ). IsLeast (StaysOutside l patch.removed (places_of patch.max)) ordinal) (sym same)
            (subst (λ (p : ℕ). IsLeast (StaysOutside live patch.removed p) ordinal) one (subst (λ (r : List ℕ). IsLeast (StaysOutside live r places) ordinal) two least)),
      ))
