-- A patch of some rows has one first fault at most, and none where it moves them.
use Rattle.std.proofs.Common.{inl, inr, true, Option, ◌≡◌, ℕ, ◌<◌, List, [], None, Some, subst, ap, sym, ◌∙◌, arith, get_or, length}
use Rattle.std.specs.Prelude.{◌≢◌, All, Contains, IsSome, is_some, slice_get}
use Rattle.std.specs.List.{range_with_len}
use Rattle.std.specs.List.Sorted.{IsStrictlyIncreasing}
use Rattle.std.specs.FinMap.{contains_key-keys, get, keys, nat_cmp-IsAntisymmetric}
use Rattle.std.proofs.lemmas.Option.{slice_get-get_or, slice_get_within}
use Rattle.std.proofs.lemmas.Bool.{false≢true}
use Rattle.std.proofs.lemmas.Map.Views.{Contains-from_any, list_any-from_Contains, tells_apart}
use Rattle.std.specs.Cmp.{nat_cmp_total, eq_by_cmp_equiv}
use Rattle.std.proofs.lemmas.List.FromFn.{length-range_with_len, get_or-range_with_len}
use Rattle.schema_model.specs.declared.schema.Shape.{Shape}
use Rattle.schema_model.specs.declared.reason.Reason.{Reason}
use Rattle.row_model.specs.declared.row.Row.{Row}
use Rattle.row_model.specs.Table.{RowMap}
use Rattle.type_rows.specs.declared.patch.PatchSection.{PatchSection}
use Rattle.type_rows.specs.declared.fault.RowFault.{RowFault}
use Rattle.type_rows.specs.Layout.{places_of}
use Rattle.type_rows.specs.Patches.{IsMovedBy, patch_layout, places_in}
use Rattle.type_rows.proofs.MovedRows.{one_result}
use Rattle.type_rows.specs.Ordinals.{FailsAdded, FailsRemoved, IsNotAbove, StaysOutside}
use Rattle.type_rows.specs.Places.{FirstPlaceFails, SpellsSome}
use Rattle.type_rows.specs.MoveFault.{AddedPass, FailsMove, FailsOrdinals, LeadsTo, OrdinalsPass, RemovedPass, StayingPass, move_tests}
use Rattle.type_rows.proofs.OnceFirst.{first_once, first_or_none, place_once, some_once, spelled_or_failed}
use Rattle.type_rows.proofs.OneFault.{AreApart, fault_once, fault_or_rows}
use Rattle.type_rows.proofs.LoadFaults.{holds_at, least_once}

module _ (patch : PatchSection) (old : RowMap) where
  -- The first bad ordinal is one, by whichever walk it is met.
  ordinal_once : (a b : ℕ) → FailsOrdinals patch old a → FailsOrdinals patch old b → a ≡ b
  ordinal_once a b (inl f) (inl g) = first_once (FailsRemoved (keys old) patch.removed) patch.removed a b f g
  ordinal_once a b (inl f) (inr (inl g)) = absurd (first_or_none (FailsRemoved (keys old) patch.removed) patch.removed a f g.0)
  ordinal_once a b (inl f) (inr (inr g)) = absurd (first_or_none (FailsRemoved (keys old) patch.removed) patch.removed a f g.0)
  ordinal_once a b (inr (inl f)) (inl g) = absurd (first_or_none (FailsRemoved (keys old) patch.removed) patch.removed b g f.0)
  ordinal_once a b (inr (inl f)) (inr (inl g)) = first_once (FailsAdded (keys old) (places_of patch.max) patch.added) patch.added a b f.1 g.1
  ordinal_once a b (inr (inl f)) (inr (inr g)) = absurd (first_or_none (FailsAdded (keys old) (places_of patch.max) patch.added) patch.added a f.1 g.1)
  ordinal_once a b (inr (inr f)) (inl g) = absurd (first_or_none (FailsRemoved (keys old) patch.removed) patch.removed b g f.0)
  ordinal_once a b (inr (inr f)) (inr (inl g)) = absurd (first_or_none (FailsAdded (keys old) (places_of patch.max) patch.added) patch.added b g.1 f.1)
  ordinal_once a b (inr (inr f)) (inr (inr g)) = least_once (StaysOutside (keys old) patch.removed (places_of patch.max)) a b f.2 g.2

  ordinal_or_ordered : (a : ℕ) → FailsOrdinals patch old a → OrdinalsPass patch old → ⊥
  ordinal_or_ordered a (inl f) pass = first_or_none (FailsRemoved (keys old) patch.removed) patch.removed a f pass.removed
  ordinal_or_ordered a (inr (inl f)) pass = first_or_none (FailsAdded (keys old) (places_of patch.max) patch.added) patch.added a f.1 pass.added
  ordinal_or_ordered a (inr (inr f)) pass = pass.staying a f.2.holds

-- The number at an index of those from 0 on is the index.
pub counted : (many index number : ℕ) → slice_get (range_with_len 0 many) index ≡ Some number → (index ≡ number) × (index < many)
counted many index number at =
    let inside : index < many = omega (arith, slice_get_within (range_with_len 0 many) index number at, length-range_with_len 0 many) in
    let there = slice_get-get_or (range_with_len 0 many) index 0 (omega (arith, inside, length-range_with_len 0 many)) in
    let is : get_or (range_with_len 0 many) index 0 ≡ number = some_once (get_or (range_with_len 0 many) index 0) number (sym there ∙ at) in
    let count = get_or-range_with_len 0 many index 0 inside in
    (omega (arith, is, count), inside)

place_or_rows : (shape : Shape) (patch : PatchSection) (old : RowMap) (reason : Reason) (ordinal : ℕ) (rows : RowMap)
    → FirstPlaceFails shape (places_in patch) (range_with_len 0 (length patch.added)) patch.added reason ordinal → LeadsTo shape patch old rows → ⊥
place_or_rows shape patch old reason ordinal rows f leads =
    let at = counted (length patch.added) f.index f.place f.stands in
    let row : Row = get_or leads.rows f.index (Row.List []) in
    let there = slice_get-get_or leads.rows f.index (Row.List []) (omega (arith, at.1, leads.adds.each)) in
    spelled_or_failed shape (places_in patch) f.place reason
    (subst (λ place. SpellsSome shape (places_in patch) place) at.0 (row, leads.adds.spelled f.index row there)) f.fails

apart : (shape : Shape) (patch : PatchSection) (old : RowMap) → AreApart (move_tests shape patch old)
apart shape patch old = record {
  ordinal_once = ordinal_once patch old;
  ordinal_or_ordered = ordinal_or_ordered patch old;
  place_once = place_once shape (places_in patch) (range_with_len 0 (length patch.added)) patch.added;
  place_or_rows = place_or_rows shape patch old;
  rows_once = λ a b f g. one_result shape patch old a b f.rows g.rows f.adds g.adds f.moves g.moves;
  ordered = λ rows leads. leads.ordinals;
}

pub move_fault_once : (shape : Shape) (patch : PatchSection) (old : RowMap) (a b : RowFault) → a ≢ RowFault.Memory → b ≢ RowFault.Memory → FailsMove shape patch old a → FailsMove shape patch old b → a ≡ b
move_fault_once shape patch old = fault_once shape patch.own (patch_layout patch) (move_tests shape patch old) (apart shape patch old)

-- Numbers that rise are each above the one before.
rising_above : (numbers : List ℕ) (index number : ℕ) → IsStrictlyIncreasing numbers → slice_get numbers index ≡ Some number → IsNotAbove numbers index number → ⊥
rising_above numbers index number rise at low =
    let inside : index < length numbers = slice_get_within numbers index number at in
    let here = slice_get-get_or numbers index 0 inside in
    let before = slice_get-get_or numbers low.earlier 0 (omega (arith, inside, low.behind)) in
    let is : get_or numbers index 0 ≡ number = some_once (get_or numbers index 0) number (sym here ∙ at) in
    let was : get_or numbers low.earlier 0 ≡ low.previous = some_once (get_or numbers low.earlier 0) low.previous (sym before ∙ low.stands) in
    let up = rise low.earlier (omega (arith, inside, low.behind)) in
    omega (arith, low.below, is, was, subst (λ (next : ℕ). get_or numbers low.earlier 0 < get_or numbers next 0) (sym low.behind) up)

-- What holds of all numbers holds of one that is among them.
among : (P : ℕ → Type 0) (numbers : List ℕ) (number : ℕ) → All P numbers → Contains numbers number → P number
among P numbers number all at = subst P at.2 (all at.0 number at.1)

pub key_of_live : (rows : RowMap) (ordinal : ℕ) → IsSome (get rows ordinal) → Contains (keys rows) ordinal
key_of_live rows ordinal live = Contains-from_any (tells_apart nat_cmp-IsAntisymmetric) ordinal (keys rows) (sym (contains_key-keys rows ordinal) ∙ live)

pub live_key : (rows : RowMap) (ordinal : ℕ) → Contains (keys rows) ordinal → IsSome (get rows ordinal)
live_key rows ordinal at = contains_key-keys rows ordinal ∙ list_any-from_Contains (eq_by_cmp_equiv nat_cmp_total) ordinal (keys rows) at

dead_key : (rows : RowMap) (ordinal : ℕ) → get rows ordinal ≡ None → Contains (keys rows) ordinal → ⊥
dead_key rows ordinal none at = false≢true (subst (λ (found : Option Row). is_some found ≡ true) none (live_key rows ordinal at))

module _ (shape : Shape) (patch : PatchSection) (old new : RowMap) (moved : IsMovedBy shape patch old new) where
  removed_pass : RemovedPass patch old
  removed_pass index number at (inl low) = rising_above patch.removed index number moved.ordinals.removed_rise at low
  removed_pass index number at (inr dead) = dead (key_of_live old number (holds_at (λ o. IsSome (get old o)) patch.removed index number moved.ordinals.removed_live at))

  added_pass : AddedPass patch old
  added_pass index number at (inl low) = rising_above patch.added index number moved.ordinals.added_rise at low
  added_pass index number at (inr (inl high)) = omega (arith, high, holds_at (λ o. o < places_of patch.max) patch.added index number moved.ordinals.added_placed at)
  added_pass index number at (inr (inr live)) = dead_key old number (holds_at (λ o. get old o ≡ None) patch.added index number moved.ordinals.added_free at) live

  staying_pass : StayingPass patch old
  staying_pass ordinal (live, stays, high) =
      let other = λ (added : Contains patch.added ordinal). dead_key old ordinal (among (λ o. get old o ≡ None) patch.added ordinal moved.ordinals.added_free added) live in
      let there : IsSome (get new ordinal) = ap is_some (moved.moves.kept ordinal stays other) ∙ live_key old ordinal live in
      omega (arith, high, among (λ o. o < places_of patch.max) (keys new) ordinal moved.held.places (key_of_live new ordinal there))

  leads : LeadsTo shape patch old new
  leads = record {
    ordinals = record { removed = removed_pass; added = added_pass; staying = staying_pass };
    rows = moved.added;
    adds = moved.adds;
    moves = moved.moves;
  }

pub moved_or_fault : (shape : Shape) (patch : PatchSection) (old new : RowMap) (fault : RowFault) → fault ≢ RowFault.Memory → IsMovedBy shape patch old new → FailsMove shape patch old fault → ⊥
moved_or_fault shape patch old new fault told moved =
    fault_or_rows shape patch.own (patch_layout patch) (move_tests shape patch old) (apart shape patch old) fault new told
    record { leads = leads shape patch old new moved; held = moved.held.parts } (λ pass. omega (arith, pass, moved.within.words)) (λ pass. omega (arith, pass, moved.within.bytes))
