-- Slots and chains of the keys' hashes stay in agreement, and how many slots have a key.
use Rattle.std.proofs.Common.{◌≡◌, ℕ, zero, suc, ◌+◌, ◌<◌, ◌≤◌, ◌^◌, Bool, true, cond, List, [], ◌∷◌, Option, Some, None, length, max, refl, sym, ap, subst, ◌∙◌, inl, inr, arith}
use Rattle.std.specs.Prelude.{IsSome, count_by, is_some, nat_eq, replicate, slice_set}
use Rattle.std.specs.Int.{IsPowerOfTwo}
use Rattle.std.specs.FinMap.{remove}
use Rattle.std.proofs.lemmas.Bool.{cases_eq, cases_lt}
use Rattle.std.proofs.lemmas.List.Sums.{sum_by-append, sum_by-cons}
use Rattle.std.proofs.lemmas.Nat.{pow_pos}
use Rattle.linked_slots.specs.Chained.{Chained, IsBuckets, IsReserved, hash_of}
use Rattle.linked_slots.proofs.Tests.{same_test, other_test}
use Rattle.row_model.specs.declared.row.Value.{Value}
use Rattle.key_index.specs.Slots.{AreHashed, AreKept, Roomy, Widens, has_key, key_hash, key_in, keys_of, one_if, placed, read_at, row_key}
use Rattle.key_index.specs.declared.slot.Slot.{Slot}
use Rattle.key_index.specs.declared.slot.Slot.TheVariants.{Free}
use Rattle.key_index.proofs.SlotKeys.{keys_past, keys_placed, length_set, read_beside, read_more, read_set}

-- what contracts see of slots
abbrev pub seen : Bool → List Slot → Roomy
seen large slots = record { room = length slots; large = large; keys = keys_of slots }

pub placed_seen : (large : Bool) (slots : List Slot) (o : ℕ) (slot : Slot) → o < length slots → seen large (slice_set slots o slot) ≡ record (seen large slots) { keys = placed (keys_of slots) o (row_key slot) }
placed_seen large slots o slot inside = λ i. record { room = length_set slots o slot i; large = large; keys = keys_placed slots o slot inside i }

-- past the slots there is nothing to remove
pub removed_past : (large : Bool) (slots : List Slot) (o : ℕ) → length slots ≤ o → seen large slots ≡ record (seen large slots) { keys = remove (keys_of slots) o }
removed_past large slots o past = λ i. record { room = length slots; large = large; keys = sym (keys_past slots o past) i }

-- ---- how many slots have a key

pub count_cons : (slot : Slot) (slots : List Slot) → count_by has_key (slot ∷ slots) ≡ one_if (has_key slot) + count_by has_key slots
count_cons slot slots = sum_by-cons (λ s. one_if (has_key s)) slot slots

count_set : (slots : List Slot) (o : ℕ) (slot : Slot) → o < length slots → count_by has_key (slice_set slots o slot) + one_if (is_some (read_at key_in slots o)) ≡ count_by has_key slots + one_if (has_key slot)
count_set [] o slot inside = absurd (omega arith)
count_set (s ∷ slots) zero slot inside = omega (arith, count_cons slot slots, count_cons s slots)
count_set (s ∷ slots) (suc o) slot inside = omega (arith, count_cons s (slice_set slots o slot), count_cons s slots, count_set slots o slot (omega arith))

count_free : (n : ℕ) → count_by has_key (replicate n Free) ≡ 0
count_free zero = refl
count_free (suc n) = omega (arith, count_cons Free (replicate n Free), count_free n)

count_here : (slots : List Slot) (o : ℕ) → one_if (is_some (read_at key_in slots o)) ≤ count_by has_key slots
count_here [] o = omega arith
count_here (s ∷ slots) zero = omega (arith, count_cons s slots)
count_here (s ∷ slots) (suc o) = omega (arith, count_cons s slots, count_here slots o)

-- ---- numbers of buckets

pub greater_power : (fresh before : ℕ) → IsPowerOfTwo fresh → IsBuckets before → IsPowerOfTwo (max fresh before)
greater_power fresh before power (inl none) = (power.0, omega (arith, power.1, none))
greater_power fresh before power (inr power') = elim (cases_lt fresh before) [
  | inl below ↦ (power'.0, omega (arith, power'.1, below))
  | inr above ↦ (power.0, omega (arith, power.1, above))
]

pub some_buckets : (buckets : ℕ) → IsPowerOfTwo buckets → 0 < buckets
some_buckets buckets power = omega (arith, power.1, pow_pos power.0)

-- ---- the invariant

pub some_hash : (key : Option (List Value)) → is_some (key_hash key) ≡ is_some key
some_hash None = refl
some_hash (Some key) = refl

module _ (slots : List Slot) (chains : Chained) (buckets keyed : ℕ) (kept : AreKept slots chains buckets keyed) where
  -- more chain places and buckets
  pub reserved_kept : (room more : ℕ) (chains' : Chained) → IsPowerOfTwo more → IsReserved chains room more chains' → AreKept slots chains' more keyed
  reserved_kept room more chains' power reserved = record {
    few = kept.few;
    room = omega (arith, kept.room, reserved.slots_are);
    buckets_are = reserved.buckets_are;
    powered = inr power;
    bucketed = λ some. some_buckets more power;
    hashed = λ o. reserved.hashes o ∙ kept.hashed o;
    count = kept.count;
  }

  -- chain places and buckets first, and then slots
  pub widened_kept : (room more : ℕ) (chains' : Chained) → IsPowerOfTwo more → IsReserved chains room more chains' → (slots' : List Slot) → Widens slots room slots' → room < 2 ^ 32 → AreKept slots' chains' more keyed
  widened_kept room more chains' power reserved slots' widens low =
      let kept' = reserved_kept room more chains' power reserved in
      record {
        few = omega (arith, widens.short, kept.few);
        room = omega (arith, widens.short, kept.room, reserved.slots_are);
        buckets_are = kept'.buckets_are;
        powered = kept'.powered;
        bucketed = λ _. some_buckets more power;
        hashed = λ o. kept'.hashed o ∙ ap key_hash (sym (ap (λ ss. read_at key_in ss o) widens.padded ∙ read_more key_in refl slots widens.count o));
        count =
            kept.count
            ∙ omega (arith, sum_by-append (λ s. one_if (has_key s)) slots (replicate widens.count Free), count_free widens.count, ap (count_by has_key) widens.padded);
      }

  pub linked_is : (o : ℕ) → is_some (hash_of chains o) ≡ is_some (read_at key_in slots o)
  linked_is o = ap is_some (kept.hashed o) ∙ some_hash (read_at key_in slots o)

  -- an ordinal that is linked is counted
  pub counted : (o : ℕ) → IsSome (hash_of chains o) → 0 < keyed
  counted o linked =
      let here : is_some (read_at key_in slots o) ≡ true = sym (linked_is o) ∙ linked in
      omega (arith, kept.count, count_here slots o, ap one_if here)

  -- the slot of an ordinal is written
  module _ (o : ℕ) (inside : o < length slots) (unlinked linked : Chained) (less more : ℕ) (slot : Slot)
      (leaves : (q : ℕ) → hash_of unlinked q ≡ cond (nat_eq q o) None (hash_of chains q))
      (comes : (q : ℕ) → hash_of linked q ≡ cond (nat_eq q o) (key_hash (key_in slot)) (hash_of unlinked q))
      (places : linked.slots ≡ chains.slots) (parts : length linked.chains ≡ length chains.chains)
      (one_less : less + one_if (is_some (hash_of chains o)) ≡ keyed) (one_more : more ≡ less + one_if (has_key slot)) where
    placed_hashes : AreHashed (slice_set slots o slot) linked
    placed_hashes q =
        elim (cases_eq q o) [
          | inl e ↦ comes q ∙ same_test q o _ _ e ∙ ap key_hash (sym (ap (read_at key_in (slice_set slots o slot)) e ∙ read_set key_in slots o slot inside))
          | inr apart ↦ comes q ∙ other_test q o _ _ apart ∙ leaves q ∙ other_test q o _ _ apart ∙ kept.hashed q ∙ ap key_hash (sym (read_beside key_in slots o q slot apart))
        ]

    pub placed_kept : AreKept (slice_set slots o slot) linked buckets more
    placed_kept = record {
      few = subst (λ n. n < 2 ^ 32) (sym (length_set slots o slot)) kept.few;
      room = omega (arith, places, kept.room, length_set slots o slot);
      buckets_are = parts ∙ kept.buckets_are;
      powered = kept.powered;
      bucketed = λ some. kept.bucketed (omega (arith, length_set slots o slot));
      hashed = placed_hashes;
      count = omega (arith, one_less, one_more, kept.count, count_set slots o slot inside, ap one_if (linked_is o));
    }

  -- the slot of an ordinal is freed
  pub freed_kept : (o : ℕ) (unlinked : Chained) (less : ℕ) → o < length slots → ((q : ℕ) → hash_of unlinked q ≡ cond (nat_eq q o) None (hash_of chains q)) → unlinked.slots ≡ chains.slots →
      length unlinked.chains ≡ length chains.chains → less + one_if (is_some (hash_of chains o)) ≡ keyed → AreKept (slice_set slots o Free) unlinked buckets less
  freed_kept o unlinked less inside leaves places parts one_less = placed_kept o inside unlinked unlinked less less Free leaves stays places parts one_less (omega arith)
    where
      stays : (q : ℕ) → hash_of unlinked q ≡ cond (nat_eq q o) None (hash_of unlinked q)
      stays q =
          elim (cases_eq q o) [
            | inl e ↦ leaves q ∙ same_test q o None (hash_of chains q) e ∙ sym (same_test q o None (hash_of unlinked q) e)
            | inr apart ↦ sym (other_test q o None (hash_of unlinked q) apart)
          ]
