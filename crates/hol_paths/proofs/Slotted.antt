-- What is read at a place of a list of slots when one is pushed, or taken out; and slots stay in their groups.
use Rattle.std.proofs.Common.{◌≡◌, ℕ, zero, suc, ◌-◌, ◌<◌, ◌≤◌, ◌∙◌, cond, Option, Some, None, refl, sym, ap, subst, inl, inr, arith, List, [], ◌∷◌, ◌++◌, length, get_or}
use Rattle.std.specs.Prelude.{nat_eq, option_map, slice_get}
use Rattle.std.specs.List.{swap_remove}
use Rattle.std.proofs.lemmas.Bool.{cases_eq, cases_lt}
use Rattle.std.proofs.lemmas.Option.{get_or_from_slice_get, slice_get-get_or, slice_get_past, slice_get_within}
use Rattle.std.proofs.lemmas.List.{length_push}
use Rattle.std.proofs.lemmas.List.Elements.{All-push}
use Rattle.linked_slots.specs.Chained.{Chained, hash_of}
use Rattle.linked_slots.proofs.Tests.{same_test, other_test}
use Rattle.row_model.specs.declared.row.Value.{Value}
use Rattle.hol_paths.specs.Distinct.{Finds, StandsOnlyAt, Stay}
use Rattle.hol_paths.specs.declared.entries.Slot.{Slot}
use Rattle.hol_paths.specs.Slots.{AreKnown, AreSlotted, no_slot, without_slot}
use Rattle.hol_paths.proofs.Apart.{AreApart, at_other, at_taken, one_place, swapped_length}

-- ---- the place of a value

pub finds_only : (values : List Value) (value : Value) (found : Option ℕ) → AreApart values → Finds values value found → StandsOnlyAt values value found
finds_only values value None apart finds = finds
finds_only values value (Some n) apart finds = λ place. (
  (λ is. one_place values place n value apart (slice_get_within values place value is) (slice_get_within values n value finds)
      (get_or_from_slice_get values place value value is ∙ sym (get_or_from_slice_get values n value value finds))),
  (λ e. ap (slice_get values) e ∙ finds),
)

-- ---- what is read at a place

module _ {X : Type 0} where
  read_end : (xs : List X) (x : X) → slice_get (xs ++ x ∷ []) (length xs) ≡ Some x
  read_end [] x = refl
  read_end (y ∷ xs) x = read_end xs x

  read_before : (xs : List X) (x : X) (q : ℕ) → (q ≡ length xs → ⊥) → slice_get (xs ++ x ∷ []) q ≡ slice_get xs q
  read_before [] x zero other = absurd (other refl)
  read_before [] x (suc q) other = refl
  read_before (y ∷ xs) x zero other = refl
  read_before (y ∷ xs) x (suc q) other = read_before xs x q (λ e. other (ap suc e))

  module _ {Y : Type 0} (f : X → Y) where
    pub read_pushed : (xs : List X) (x : X) (q place : ℕ) → place ≡ length xs → cond (nat_eq q place) (Some (f x)) (option_map f (slice_get xs q)) ≡ option_map f (slice_get (xs ++ x ∷ []) q)
    read_pushed xs x q place is =
        elim (cases_eq q place) [
          | inl e ↦ same_test q place (Some (f x)) (option_map f (slice_get xs q)) e ∙ sym (ap (λ n. option_map f (slice_get (xs ++ x ∷ []) n)) (e ∙ is) ∙ ap (option_map f) (read_end xs x))
          | inr other ↦ other_test q place (Some (f x)) (option_map f (slice_get xs q)) other ∙ sym (ap (option_map f) (read_before xs x q (λ e. other (e ∙ sym is))))
        ]

    pub read_swapped : (xs : List X) (i : ℕ) (d : X) → i < length xs → (q last : ℕ) → last ≡ length xs - 1
        → cond (nat_eq q last) None (cond (nat_eq q i) (Some (f (get_or xs last d))) (option_map f (slice_get xs q))) ≡ option_map f (slice_get (swap_remove xs i d) q)
    read_swapped xs i d inside q last is =
        let rest = swap_remove xs i d in
        let long = swapped_length xs i d inside in
        let then_ = cond (nat_eq q i) (Some (f (get_or xs last d))) (option_map f (slice_get xs q)) in
        elim (cases_eq q last) [
          | inl e ↦ same_test q last None then_ e ∙ sym (ap (option_map f) (slice_get_past rest q (omega (arith, long, e, is))))
          | inr other ↦ other_test q last None then_ other ∙ elim (cases_eq q i) [
            | inl at ↦ (let low : q < length rest = omega (arith, long, at, inside, other, is) in
                same_test q i (Some (f (get_or xs last d))) (option_map f (slice_get xs q)) at
                ∙ ap (λ n. Some (f (get_or xs n d))) is
                ∙ sym (ap (option_map f) (slice_get-get_or rest q d low) ∙ ap (λ x. Some (f x)) (at_taken xs i d inside q d at low)))
            | inr beside ↦ other_test q i (Some (f (get_or xs last d))) (option_map f (slice_get xs q)) beside ∙ elim (cases_lt q (length rest)) [
              | inl low ↦ ap (option_map f) (slice_get-get_or xs q d (omega (arith, long, low)) ∙ ap Some (sym (at_other xs i d inside q d beside low)) ∙ sym (slice_get-get_or rest q d low))
              | inr high ↦ ap (option_map f) (slice_get_past xs q (omega (arith, long, high, other, is)) ∙ sym (slice_get_past rest q high))
            ]
          ]
        ]

-- ---- values that stay

pub still_there : (old new : List Value) (n : ℕ) → Stay old new → n < length old → n < length new
still_there old new n stay below = slice_get_within new n (get_or old n Value.Null) (stay n (get_or old n Value.Null) (slice_get-get_or old n Value.Null below))

pub known_longer : (old new : List Value) (slots : List Slot) → Stay old new → AreKnown old slots → AreKnown new slots
known_longer old new slots stay known = λ k d within. still_there old new (get_or slots k d).number stay (known k d within)

-- ---- slots in their groups

pub none_kept : (slots : List Slot) (capacity : ℕ) (owners numbers : Chained) (values : List Value) → slots ≡ [] → owners ≡ record { slots = 0; chains = [] } → numbers ≡ record { slots = 0; chains = [] }
    → AreSlotted slots capacity owners numbers values 0
none_kept slots capacity owners numbers values none no_owners no_numbers =
    subst (λ ss. AreSlotted ss capacity owners numbers values 0) (sym none)
    (subst (λ cs. AreSlotted [] capacity cs numbers values 0) (sym no_owners) (subst (λ cs. AreSlotted [] capacity (record { slots = 0; chains = [] }) cs values 0) (sym no_numbers) record {
      few = omega arith;
      places = omega arith;
      owner_places = omega arith;
      number_places = omega arith;
      owned = λ q. refl;
      numbered = λ q. refl;
      known = λ k d within. absurd (omega (arith, within));
    }))

module _ (slots : List Slot) (capacity : ℕ) (owners numbers : Chained) (values : List Value) (room : ℕ) (kept : AreSlotted slots capacity owners numbers values room) where
  -- more room
  pub roomy_kept : (capacity' : ℕ) (owners' numbers' : Chained) (room' : ℕ) → ((q : ℕ) → hash_of owners' q ≡ hash_of owners q) → ((q : ℕ) → hash_of numbers' q ≡ hash_of numbers q)
      → length slots ≤ room' → room' ≤ capacity' → room' ≤ owners'.slots → room' ≤ numbers'.slots → AreSlotted slots capacity' owners' numbers' values room'
  roomy_kept capacity' owners' numbers' room' same_owners same_numbers few places owner_places number_places = record {
    few = few;
    places = places;
    owner_places = owner_places;
    number_places = number_places;
    owned = λ q. same_owners q ∙ kept.owned q;
    numbered = λ q. same_numbers q ∙ kept.numbered q;
    known = kept.known;
  }

  -- more values
  pub valued_kept : (values' : List Value) → Stay values values' → AreSlotted slots capacity owners numbers values' room
  valued_kept values' stay = record {
    few = kept.few;
    places = kept.places;
    owner_places = kept.owner_places;
    number_places = kept.number_places;
    owned = kept.owned;
    numbered = kept.numbered;
    known = known_longer values values' slots stay kept.known;
  }

  -- a slot is put
  pub put_kept : (place : ℕ) (slot : Slot) (owners' numbers' : Chained) (slots' : List Slot) (capacity' : ℕ) → place ≡ length slots → length slots < room → slot.number < length values
      → ((q : ℕ) → hash_of owners' q ≡ cond (nat_eq q place) (Some slot.owner) (hash_of owners q)) → ((q : ℕ) → hash_of numbers' q ≡ cond (nat_eq q place) (Some slot.number) (hash_of numbers q))
      → owners'.slots ≡ owners.slots → numbers'.slots ≡ numbers.slots → slots' ≡ slots ++ slot ∷ [] → capacity ≤ capacity' → AreSlotted slots' capacity' owners' numbers' values room
  put_kept place slot owners' numbers' slots' capacity' at room_left known owned numbered owner_slots number_slots is more =
      subst (λ ss. AreSlotted ss capacity' owners' numbers' values room) (sym is) record {
        few = omega (arith, length_push slots slot, room_left);
        places = omega (arith, kept.places, more);
        owner_places = omega (arith, kept.owner_places, owner_slots);
        number_places = omega (arith, kept.number_places, number_slots);
        owned = λ q. owned q ∙ ap (λ h. cond (nat_eq q place) (Some slot.owner) h) (kept.owned q) ∙ read_pushed (λ (s : Slot). s.owner) slots slot q place at;
        numbered = λ q. numbered q ∙ ap (λ h. cond (nat_eq q place) (Some slot.number) h) (kept.numbered q) ∙ read_pushed (λ (s : Slot). s.number) slots slot q place at;
        known = All-push (λ (s : Slot). s.number < length values) slots slot kept.known known;
      }

  -- a slot is taken out
  module _ (place last : ℕ) (slot : Slot) (inside : place < length slots) (last_is : last ≡ length slots - 1) (slot_is : slot ≡ get_or slots last no_slot) where
    known_left : AreKnown values (without_slot place slots)
    known_left = λ k d within.
        let long = swapped_length slots place no_slot inside in
        elim (cases_eq k place) [
          | inl e ↦ subst (λ (s : Slot). s.number < length values) (sym (at_taken slots place no_slot inside k d e within)) (kept.known (length slots - 1) d (omega (arith, inside)))
          | inr other ↦ subst (λ (s : Slot). s.number < length values) (sym (at_other slots place no_slot inside k d other within)) (kept.known k d (omega (arith, long, within)))
        ]

    pub taken_kept : (owners' numbers' : Chained) (slots' : List Slot) (capacity' : ℕ)
        → ((q : ℕ) → hash_of owners' q ≡ cond (nat_eq q last) None (cond (nat_eq q place) (Some slot.owner) (hash_of owners q)))
        → ((q : ℕ) → hash_of numbers' q ≡ cond (nat_eq q last) None (cond (nat_eq q place) (Some slot.number) (hash_of numbers q)))
        → owners'.slots ≡ owners.slots → numbers'.slots ≡ numbers.slots → slots' ≡ without_slot place slots → capacity' ≡ capacity → AreSlotted slots' capacity' owners' numbers' values room
    taken_kept owners' numbers' slots' capacity' owned numbered owner_slots number_slots is same =
        subst (λ ss. AreSlotted ss capacity' owners' numbers' values room) (sym is) record {
          few = omega (arith, swapped_length slots place no_slot inside, kept.few);
          places = omega (arith, kept.places, same);
          owner_places = omega (arith, kept.owner_places, owner_slots);
          number_places = omega (arith, kept.number_places, number_slots);
          owned = λ q. owned q ∙ ap (λ h. cond (nat_eq q last) None (cond (nat_eq q place) h (hash_of owners q))) (ap (λ (s : Slot). Some s.owner) slot_is)
              ∙ ap (λ h. cond (nat_eq q last) None (cond (nat_eq q place) (Some (get_or slots last no_slot).owner) h)) (kept.owned q)
              ∙ read_swapped (λ (s : Slot). s.owner) slots place no_slot inside q last last_is;
          numbered = λ q. numbered q ∙ ap (λ h. cond (nat_eq q last) None (cond (nat_eq q place) h (hash_of numbers q))) (ap (λ (s : Slot). Some s.number) slot_is)
              ∙ ap (λ h. cond (nat_eq q last) None (cond (nat_eq q place) (Some (get_or slots last no_slot).number) h)) (kept.numbered q)
              ∙ read_swapped (λ (s : Slot). s.number) slots place no_slot inside q last last_is;
          known = known_left;
        }
