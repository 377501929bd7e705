-- The ordinals under a key, and how many rows have one.
use Rattle.std.proofs.Common.{◌≡◌, ◌↔◌, ℕ, zero, suc, ◌+◌, ◌<◌, Bool, true, false, cond, List, [], ◌∷◌, Option, Some, None, length, refl, sym, ap, subst, ◌∙◌, inl, inr, arith}
use Rattle.std.specs.Prelude.{Contains, IsSome, IsSomeAnd, count_by, filter, slice_get, slice_index_or, option_and_then}
use Rattle.std.proofs.lemmas.List.Elements.{All-contains_itself}
use Rattle.std.proofs.lemmas.List.Kept.{AllPairs-cons}
use Rattle.std.proofs.lemmas.List.Sums.{length-filter}
use Rattle.row_model.specs.declared.row.Value.{Value}
use Rattle.row_model.specs.Row.{Rises}
use Rattle.key_index.specs.Indexed.{AreUnder, CountsKeys}
use Rattle.key_index.specs.Slots.{AreSorted, has_key, key_in, keys_of, read_at, row_key}
use Rattle.key_index.specs.declared.slot.Slot.{Slot}
use Rattle.key_index.specs.declared.slot.Slot.TheVariants.{Free, Keyless, One, More}
use Rattle.key_index.proofs.Lists.{contains_either, contains_first, contains_later, contains_none}
use Rattle.key_index.proofs.SlotKeys.{get_keys}

-- ---- the ordinals under a key

key_of_row : (slot : Option Slot) (key : List Value) → option_and_then key_in slot ≡ Some key → option_and_then row_key slot ≡ Some (Some key)
key_of_row None key is = absurd cc
key_of_row (Some Free) key is = absurd cc
key_of_row (Some Keyless) key is = absurd cc
key_of_row (Some (One value)) key is = ap Some is
key_of_row (Some (More values)) key is = ap Some is

row_of_key : (slot : Option Slot) (key : List Value) → option_and_then row_key slot ≡ Some (Some key) → option_and_then key_in slot ≡ Some key
row_of_key None key is = absurd cc
row_of_key (Some Free) key is = absurd cc
row_of_key (Some Keyless) key is = absurd cc
row_of_key (Some (One value)) key is = cc
row_of_key (Some (More values)) key is = cc

pub under_key : (slots : List Slot) (key : List Value) (found ordinals : List ℕ) → ((o : ℕ) → Contains found o ↔ (read_at key_in slots o ≡ Some key)) → AreSorted found ordinals
    → AreUnder (keys_of slots) key ordinals
under_key slots key found ordinals are sorted = record {
  rising = sorted.rising;
  are = λ o. (
    (λ h. get_keys slots o ∙ key_of_row (slice_get slots o) key ((are o).0 ((sorted.same o).0 h))),
    (λ h. (sorted.same o).1 ((are o).1 (row_of_key (slice_get slots o) key (sym (get_keys slots o) ∙ h)))),
  );
}

-- ---- how many rows have a key

-- the places, from one on, of the slots that have a key
abbrev places : ℕ → List Slot → List ℕ
places place [] = []
places place (slot ∷ slots) = cond (has_key slot) (place ∷ places (place + 1) slots) (places (place + 1) slots)

abbrev HasKeyAt : List Slot → ℕ → Type 0
HasKeyAt slots o = IsSomeAnd (read_at (row_key) slots o) (λ key. IsSome key)

keyed_has : (slot : Slot) → has_key slot ≡ true → IsSomeAnd (row_key slot) (λ k. IsSome k)
keyed_has Free is = absurd cc
keyed_has Keyless is = absurd cc
keyed_has (One value) is = refl
keyed_has (More values) is = refl

has_keyed : (slot : Slot) → IsSomeAnd (row_key slot) (λ k. IsSome k) → has_key slot ≡ true
has_keyed Free has = absurd has
has_keyed Keyless has = absurd cc
has_keyed (One value) has = refl
has_keyed (More values) has = refl

place_from : (slots : List Slot) (place o : ℕ) → Contains (places place slots) o → (k : ℕ) × (o ≡ place + k) × HasKeyAt slots k
place_from [] place o h = absurd (contains_none o h)
place_from (slot ∷ slots) place o h = tested (λ later. place_from slots (place + 1) o later) (has_key slot) refl h
  where
    tested : (Contains (places (place + 1) slots) o → (k : ℕ) × (o ≡ place + 1 + k) × HasKeyAt slots k) → (b : Bool) → has_key slot ≡ b
        → Contains (cond b (place ∷ places (place + 1) slots) (places (place + 1) slots)) o → (k : ℕ) × (o ≡ place + k) × HasKeyAt (slot ∷ slots) k
    tested again true is h = elim (contains_either place o (places (place + 1) slots) h) [
      | inl e ↦ (0, omega arith, keyed_has slot is)
      | inr later ↦ (let there = again later in (suc there.0, omega (arith, there.1), there.2))
    ]
    tested again false is h = let there = again h in (suc there.0, omega (arith, there.1), there.2)

place_has : (slots : List Slot) (place k o : ℕ) → o ≡ place + k → HasKeyAt slots k → Contains (places place slots) o
place_has [] place k o e has = absurd has
place_has (slot ∷ slots) place zero o e has = tested (has_key slot) refl
  where
    tested : (b : Bool) → has_key slot ≡ b → Contains (cond b (place ∷ places (place + 1) slots) (places (place + 1) slots)) o
    tested true is = contains_first place o (places (place + 1) slots) (omega arith)
    tested false is = (let both : true ≡ false = sym (has_keyed slot has) ∙ is in absurd cc)
place_has (slot ∷ slots) place (suc k) o e has = tested (place_has slots (place + 1) k o (omega arith) has) (has_key slot)
  where
    tested : Contains (places (place + 1) slots) o → (b : Bool) → Contains (cond b (place ∷ places (place + 1) slots) (places (place + 1) slots)) o
    tested later true = contains_later place o (places (place + 1) slots) later
    tested later false = later

places_rise : (slots : List Slot) (place : ℕ) → Rises (places place slots)
places_rise [] place = λ i j d before within. absurd (omega arith)
places_rise (slot ∷ slots) place = tested (places_rise slots (place + 1)) (has_key slot)
  where
    tested : Rises (places (place + 1) slots) → (b : Bool) → Rises (cond b (place ∷ places (place + 1) slots) (places (place + 1) slots))
    tested again true = AllPairs-cons (λ earlier later. earlier < later) place (places (place + 1) slots)
        (λ j d within.
        let there = place_from slots (place + 1) (slice_index_or (places (place + 1) slots) j d) (All-contains_itself (places (place + 1) slots) j d within) in
        omega (arith, there.1))
        again
    tested again false = again

places_long : (slots : List Slot) (place : ℕ) → length (places place slots) ≡ length (filter has_key slots)
places_long [] place = refl
places_long (slot ∷ slots) place = tested (places_long slots (place + 1)) (has_key slot)
  where
    tested : length (places (place + 1) slots) ≡ length (filter has_key slots) → (b : Bool)
        → length (cond b (place ∷ places (place + 1) slots) (places (place + 1) slots)) ≡ length (cond b (slot ∷ filter has_key slots) (filter has_key slots))
    tested again true = ap suc again
    tested again false = again

pub count_keys : (slots : List Slot) → CountsKeys (keys_of slots) (count_by has_key slots)
count_keys slots = (
  places 0 slots,
  places_rise slots 0,
  (λ o. (
    (λ h.
        let there = place_from slots 0 o h in
        let same : there.0 ≡ o = omega (arith, there.1) in
        subst (λ k. IsSomeAnd k (λ key. IsSome key)) (sym (get_keys slots o)) (subst (λ q. HasKeyAt slots q) same there.2)),
    (λ h. place_has slots 0 o o (omega arith) (subst (λ k. IsSomeAnd k (λ key. IsSome key)) (get_keys slots o) h)),
  )),
  sym (places_long slots 0 ∙ length-filter has_key slots),
)
