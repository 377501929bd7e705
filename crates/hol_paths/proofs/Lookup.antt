-- The rows that have an entry with a value: those of the slots with its number.
use Rattle.std.proofs.Common.{◌≡◌, ◌↔◌, ℕ, ◌<◌, ◌∙◌, Option, Some, None, refl, sym, ap, subst, arith, List, [], ◌++◌, length, get_or, map}
use Rattle.std.specs.Prelude.{All, Contains, option_map, slice_get}
use Rattle.std.proofs.lemmas.Option.{get_or_from_slice_get, slice_get-get_or, slice_get_within}
use Rattle.std.proofs.lemmas.List.{get_or-map, length-map}
use Rattle.std.proofs.lemmas.List.Elements.{Contains-get_or}
use Rattle.key_index.proofs.Lists.{contains_none}
use Rattle.row_model.specs.declared.row.Value.{Value}
use Rattle.row_model.specs.declared.row.Value.TheVariants.{Null}
use Rattle.hol_paths.specs.declared.entries.Slot.{Slot}
use Rattle.hol_paths.specs.Distinct.{StandsOnlyAt}
use Rattle.hol_paths.specs.Groups.{AreGathered}
use Rattle.hol_paths.specs.Reached.{AreRisingOf}
use Rattle.hol_paths.specs.Slots.{AreKnown, entries_of, entry_of, no_slot, number_at, owner_of}
use Rattle.hol_paths.specs.Walked.{AreWith, Entry}

pub from_map : (f : ℕ → ℕ) (xs : List ℕ) (y : ℕ) → Contains (map f xs) y → (x : ℕ) × Contains xs x × (f x ≡ y)
from_map f xs y h =
    let within : h.0 < length xs = omega (arith, h.1, length-map xs f) in
    (get_or xs h.0 0, Contains-get_or xs h.0 0 within, sym (get_or-map f xs h.0 0 y within) ∙ h.2)

pub in_map : (f : ℕ → ℕ) (xs : List ℕ) (x y : ℕ) → Contains xs x → f x ≡ y → Contains (map f xs) y
in_map f xs x y h e = (h.0, omega (arith, h.1, length-map xs f), get_or-map f xs h.0 x y h.1 ∙ ap f h.2 ∙ e)

module _ (values : List Value) (slots : List Slot) (value : Value) (known : AreKnown values slots) where
  abbrev entries : List Entry
  entries = entries_of values slots

  -- the value of an entry stands at the number of its slot
  stands : (o : ℕ) (h : Contains entries (o, value)) → (h.0 < length slots) × ((get_or slots h.0 no_slot).owner ≡ o) × (slice_get values (get_or slots h.0 no_slot).number ≡ Some value)
  stands o h =
      let within : h.0 < length slots = omega (arith, h.1, length-map slots (entry_of values)) in
      let slot = get_or slots h.0 no_slot in
      let same : entry_of values slot ≡ (o, value) = sym (get_or-map (entry_of values) slots h.0 no_slot (o, value) within) ∙ h.2 in
      (within, ap (λ (e : Entry). e.0) same, slice_get-get_or values slot.number Null (known h.0 no_slot within) ∙ ap (λ (e : Entry). Some e.1) same)

  here : (p : ℕ) → p < length slots → slice_get values (get_or slots p no_slot).number ≡ Some value → Contains entries ((get_or slots p no_slot).owner, value)
  here p within is =
      let slot = get_or slots p no_slot in (
        p,
        omega (arith, within, length-map slots (entry_of values)),
        get_or-map (entry_of values) slots p no_slot (slot.owner, value) within ∙ ap (λ v. (slot.owner, v)) (get_or_from_slice_get values slot.number value Null is),
      )

  pub with_none : (found : Option ℕ) (ordinals : List ℕ) → StandsOnlyAt values value found → found ≡ None → ordinals ≡ [] → AreWith entries value ordinals
  with_none found ordinals only none empty =
      let never : (place : ℕ) → ¬ (slice_get values place ≡ Some value) = subst (λ f. StandsOnlyAt values value f) none only in
      subst (AreWith entries value) (sym empty) record {
        rising = λ i j d before within. absurd (omega (arith, within));
        are = λ o. ((λ h. absurd (contains_none o h)), (λ h. absurd (never (get_or slots h.0 no_slot).number (stands o h).2)));
      }

  module _ (number : ℕ) (found : Option ℕ) (only_at : StandsOnlyAt values value found) (is : found ≡ Some number)
      (reads : ℕ → Option ℕ) (numbered : (p : ℕ) → reads p ≡ number_at slots p) (none places : List ℕ) (empty : none ≡ []) (gathered : AreGathered reads number none places) where
    only : (place : ℕ) → (slice_get values place ≡ Some value) ↔ (place ≡ number)
    only = subst (λ f. StandsOnlyAt values value f) is only_at

    among : (p : ℕ) → Contains places p ↔ (number_at slots p ≡ Some number)
    among p =
        let same : places ≡ gathered.found = gathered.behind ∙ ap (λ l. l ++ gathered.found) empty in
        ((λ h. sym (numbered p) ∙ (gathered.are p).0 (subst (λ l. Contains l p) same h)), (λ e. subst (λ l. Contains l p) (sym same) ((gathered.are p).1 (numbered p ∙ e))))

    place_in : (p : ℕ) → number_at slots p ≡ Some number → (p < length slots) × ((get_or slots p no_slot).number ≡ number)
    place_in p e = by (slice_get slots p) refl e
      where
        by : (slot : Option Slot) → slice_get slots p ≡ slot → option_map (λ (s : Slot). s.number) slot ≡ Some number → (p < length slots) × ((get_or slots p no_slot).number ≡ number)
        by None read e' = absurd cc
        by (Some slot) read e' =
            let same : slot.number ≡ number = cc in
            (slice_get_within slots p slot read, ap (λ (s : Slot). s.number) (get_or_from_slice_get slots p slot no_slot read) ∙ same)

    pub places_inside : All (λ p. p < length slots) places
    places_inside = λ k d within. (place_in (get_or places k d) ((among (get_or places k d)).0 (Contains-get_or places k d within))).0

    pub with_some : (owners rising : List ℕ) → owners ≡ map (owner_of slots) places → AreRisingOf owners rising → AreWith entries value rising
    with_some owners rising owned risen = record {
      rising = risen.rises;
      are = λ o. (
        (λ h.
            let at = from_map (owner_of slots) places o (subst (λ l. Contains l o) owned ((risen.same o).0 h)) in
            let inside = place_in at.0 ((among at.0).0 at.1) in
            subst (λ q. Contains entries (q, value)) at.2 (here at.0 inside.0 ((only (get_or slots at.0 no_slot).number).1 inside.1))),
        (λ h.
            let at = stands o h in
            let number_is : number_at slots h.0 ≡ Some number =
            ap (option_map (λ (s : Slot). s.number)) (slice_get-get_or slots h.0 no_slot at.0) ∙ ap Some ((only (get_or slots h.0 no_slot).number).0 at.2) in
            (risen.same o).1 (subst (λ l. Contains l o) (sym owned) (in_map (owner_of slots) places h.0 o ((among h.0).1 number_is) at.1))),
      );
    }
