-- The test of the places of a patch: each spells the row that is computed of it, or one is the first that spells none.
use Rattle.std.proofs.Common.{◌≡◌, ℕ, zero, suc, ◌+◌, ◌^◌, ◌++◌, [], ◌∷◌, ◌<◌, ◌≤◌, inl, inr, List, length, get_or, Some, ap, sym, ◌∙◌, subst, arith}
use Rattle.std.specs.Prelude.{All, slice_get, slice_index}
use Rattle.std.specs.List.{range_with_len}
use Rattle.std.specs.List.Sorted.{IsStrictlyIncreasing}
use Rattle.std.proofs.lemmas.Bool.{cases_lt}
use Rattle.std.proofs.lemmas.List.FromFn.{get_or-range_with_len, length-range_with_len}
use Rattle.std.proofs.lemmas.Option.{slice_get-get_or}
use Rattle.schema_model.specs.declared.schema.Shape.{Shape}
use Rattle.schema_model.specs.declared.reason.Reason.{Reason}
use Rattle.schema_model.specs.Parts.{shape_fields}
use Rattle.row_model.specs.declared.row.Row.{Row}
use Rattle.row_model.specs.declared.row.Value.{Value}
use Rattle.object_codec.specs.ObjectPlace.{FailsObject, HoldsPlace, IsObject, SpellsObject}
use Rattle.object_codec.specs.Sound.{IsFirstFault, SpellSome}
use Rattle.type_rows.specs.declared.patch.PatchSection.{PatchSection}
use Rattle.type_rows.specs.Layout.{places_of}
use Rattle.type_rows.specs.Loads.{Spells}
use Rattle.type_rows.specs.Patches.{IsReadablePatch, places_in}
use Rattle.type_rows.specs.Rows.{row_in}
use Rattle.type_rows.specs.Fails.{Fails}
use Rattle.type_rows.proofs.PlacesUpTo.{place_below}
use Rattle.type_rows.proofs.Rows.{spelled}
use Rattle.type_rows.specs.Places.{FirstPlaceFails}
use Rattle.type_rows.proofs.MoveFaults.{counted}
use Rattle.type_state.specs.Differences.{AreSpelled}
use Rattle.type_state.proofs.Comings.{patch_holds}

-- The places below one spell rows.
abbrev pub SpellBelow : Shape → PatchSection → ℕ → Type 0
SpellBelow shape patch place = (k : ℕ) → k < place → Spells shape (places_in patch) k (row_in shape (places_in patch) k)

computed : (shape : Shape) (patch : PatchSection) (place : ℕ) (row : Row) → Spells shape (places_in patch) place row → Spells shape (places_in patch) place (row_in shape (places_in patch) place)
computed shape patch place row h = subst (Spells shape (places_in patch) place) (sym (spelled shape (places_in patch) place row h)) h

pub spelled_more : (shape : Shape) (patch : PatchSection) (place : ℕ) (row : Row) → SpellBelow shape patch place → Spells shape (places_in patch) place row → SpellBelow shape patch (place + 1)
spelled_more shape patch place row before here k below = elim (cases_lt k place) [
  | inl lt ↦ before k lt
  | inr ge ↦ (let same : place ≡ k = omega arith in subst (λ p. Spells shape (places_in patch) p (row_in shape (places_in patch) p)) same (computed shape patch place row here))
]

-- Each number from 0 on stands at its own index.
number_at : (many number : ℕ) → number < many → get_or (range_with_len 0 many) number 0 ≡ number
number_at many number inside = let count = get_or-range_with_len 0 many number 0 inside in omega (arith, count)

number_there : (many number : ℕ) → number < many → slice_get (range_with_len 0 many) number ≡ Some number
number_there many number inside = slice_get-get_or (range_with_len 0 many) number 0 (omega (arith, inside, length-range_with_len 0 many)) ∙ ap Some (number_at many number inside)

-- A place that spells no row is the first such, where those before it spell one.
pub first_failed : (shape : Shape) (patch : PatchSection) (place o : ℕ) (reason : Reason) → SpellBelow shape patch place → place < length patch.added → o ≡ get_or patch.added place 0
    → Fails shape (places_in patch) place reason → FirstPlaceFails shape (places_in patch) (range_with_len 0 (length patch.added)) patch.added reason o
first_failed shape patch place o reason before inside is fails = record {
  index = place;
  place = place;
  stands = number_there (length patch.added) place inside;
  of = slice_get-get_or patch.added place 0 inside ∙ ap Some (sym is);
  fails = fails;
  before = λ earlier other low at.
      (let same = counted (length patch.added) earlier other at in
      (row_in shape (places_in patch) other, subst (λ p. Spells shape (places_in patch) p (row_in shape (places_in patch) p)) same.0 (before earlier low)));
}

-- One number more.
range_on : (a n : ℕ) → range_with_len a (n + 1) ≡ range_with_len a n ++ (a + n) ∷ []
range_on a zero = let same : a ≡ a + 0 = omega arith in ap (λ m. m ∷ []) same
range_on a (suc n) =
    let more : suc n + 1 ≡ suc (n + 1) = omega arith in
    let same : a + 1 + n ≡ a + suc n = omega arith in
    ap (range_with_len a) more ∙ ap (λ rest. a ∷ rest) (range_on (a + 1) n ∙ ap (λ m. range_with_len (a + 1) n ++ m ∷ []) same)

pub listed_more : (places new : List ℕ) (place : ℕ) → places ≡ range_with_len 0 place → new ≡ places ++ place ∷ [] → new ≡ range_with_len 0 (place + 1)
listed_more places new place are is = let same : 0 + place ≡ place = omega arith in is ∙ ap (λ ps. ps ++ place ∷ []) are ∙ sym (range_on 0 place ∙ ap (λ m. range_with_len 0 place ++ m ∷ []) same)

-- ---- records

-- A patch has fewer places than there are ordinals.
pub few_places : (shape : Shape) (patch : PatchSection) (place : ℕ) → IsReadablePatch shape patch → IsStrictlyIncreasing patch.added → All (λ o. o < places_of patch.max) patch.added → place < length patch.added → place < 2 ^ 22
few_places shape patch place readable rise placed inside =
    let low = place_below patch.added place rise inside in
    let high = placed place 0 inside in
    omega (arith, low, high, readable.few)

pub holds_each : (shape : Shape) (patch : PatchSection) (places : List ℕ) (k : ℕ) → IsObject shape → IsReadablePatch shape patch → IsStrictlyIncreasing patch.added → All (λ o. o < places_of patch.max) patch.added
    → places ≡ range_with_len 0 (length patch.added) → k < length places → HoldsPlace (shape_fields shape) patch.widths patch.first patch.areas (slice_index places k)
holds_each shape patch places k object readable rise placed are inside =
    let long = length-range_with_len 0 (length patch.added) in
    let same = ap length are in
    let within : k < length patch.added = omega (arith, inside, same, long) in
    let is : get_or places k 0 ≡ k = ap (λ ps. get_or ps k 0) are ∙ number_at (length patch.added) k within in
    subst (HoldsPlace (shape_fields shape) patch.widths patch.first patch.areas) (sym is) (patch_holds shape patch k object readable rise placed within)

spells_values : (shape : Shape) (patch : PatchSection) (place : ℕ) (values : List Value) → IsObject shape → SpellsObject (shape_fields shape) patch.widths patch.first patch.areas place values → Spells shape (places_in patch) place (row_in shape (places_in patch) place)
spells_values (Shape.Object key fields) patch place values object h = computed (Shape.Object key fields) patch place (Row.Object values) h
spells_values (Shape.List element) patch place values object h = absurd object
spells_values (Shape.Set element) patch place values object h = absurd object
spells_values (Shape.Map key value) patch place values object h = absurd object

fails_values : (shape : Shape) (patch : PatchSection) (place : ℕ) (reason : Reason) → IsObject shape → FailsObject (shape_fields shape) patch.widths patch.first patch.areas place reason → Fails shape (places_in patch) place reason
fails_values (Shape.Object key fields) patch place reason object h = h
fails_values (Shape.List element) patch place reason object h = absurd object
fails_values (Shape.Set element) patch place reason object h = absurd object
fails_values (Shape.Map key value) patch place reason object h = absurd object

below_so : (shape : Shape) (patch : PatchSection) (places : List ℕ) (count : ℕ) → IsObject shape → places ≡ range_with_len 0 (length patch.added) → count ≤ length patch.added
    → SpellSome (shape_fields shape) patch.widths patch.first patch.areas places count → SpellBelow shape patch count
below_so shape patch places count object are within told k below =
    let is : get_or places k 0 ≡ k = ap (λ ps. get_or ps k 0) are ∙ number_at (length patch.added) k (omega (arith, below, within)) in
    let some = told k below in
    subst (λ p. Spells shape (places_in patch) p (row_in shape (places_in patch) p)) is (spells_values shape patch (get_or places k 0) some.0 object some.1)

pub records_spelled : (shape : Shape) (patch : PatchSection) (places : List ℕ) → IsObject shape → places ≡ range_with_len 0 (length patch.added) → SpellSome (shape_fields shape) patch.widths patch.first patch.areas places (length places) → AreSpelled shape patch
records_spelled shape patch places object are told =
    let same = ap length are in
    let long = length-range_with_len 0 (length patch.added) in
    record { each = λ place inside. below_so shape patch places (length places) object are (omega (arith, same, long)) told place (omega (arith, same, long, inside)) }

pub fault_inside : (shape : Shape) (patch : PatchSection) (places : List ℕ) (place : ℕ) (reason : Reason) → places ≡ range_with_len 0 (length patch.added)
    → IsFirstFault (shape_fields shape) patch.widths patch.first patch.areas places (place, reason) → place < length patch.added
fault_inside shape patch places place reason are first =
    let same = ap length are in
    let long = length-range_with_len 0 (length patch.added) in
    let within : first.index < length patch.added = omega (arith, first.inside, same, long) in
    let is : get_or places first.index 0 ≡ first.index = ap (λ ps. get_or ps first.index 0) are ∙ number_at (length patch.added) first.index within in
    omega (arith, within, is, first.is)

pub record_failed : (shape : Shape) (patch : PatchSection) (places : List ℕ) (place o : ℕ) (reason : Reason) → IsObject shape → places ≡ range_with_len 0 (length patch.added)
    → IsFirstFault (shape_fields shape) patch.widths patch.first patch.areas places (place, reason) → o ≡ get_or patch.added place 0
    → FirstPlaceFails shape (places_in patch) (range_with_len 0 (length patch.added)) patch.added reason o
record_failed shape patch places place o reason object are first is =
    let within = fault_inside shape patch places place reason are first in
    let same = ap length are in
    let long = length-range_with_len 0 (length patch.added) in
    let inside : first.index < length patch.added = omega (arith, first.inside, same, long) in
    let at : first.index ≡ place = sym (ap (λ ps. get_or ps first.index 0) are ∙ number_at (length patch.added) first.index inside) ∙ first.is in
    first_failed shape patch place o reason (subst (SpellBelow shape patch) at (below_so shape patch places first.index object are (omega (arith, inside)) first.earlier)) within is (fails_values shape patch place reason object first.fails)
