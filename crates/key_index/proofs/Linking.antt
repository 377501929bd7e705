-- All slots linked in empty chains, one behind another.
use Rattle.std.proofs.Common.{◌≡◌, ℕ, zero, suc, ◌+◌, ◌<◌, ◌≤◌, ◌^◌, true, false, cond, List, [], ◌∷◌, Option, None, length, take, refl, sym, ap, subst, ◌∙◌, inl, inr, arith}
use Rattle.std.specs.Prelude.{count_by, is_some, nat_eq}
use Rattle.std.specs.Int.{IsPowerOfTwo}
use Rattle.std.proofs.lemmas.Bool.{cases_eq}
use Rattle.std.proofs.lemmas.List.{take_all}
use Rattle.linked_slots.specs.Chained.{Chained, IsReserved, hash_of}
use Rattle.linked_slots.proofs.Tests.{same_test, other_test}
use Rattle.key_index.specs.Slots.{AreHashed, AreKept, has_key, key_hash, key_in, one_if, read_at}
use Rattle.key_index.specs.declared.slot.Slot.{Slot}
use Rattle.key_index.proofs.Keeping.{count_cons, some_buckets, some_hash}

-- ---- the first slots

-- the key behind the first slots is not among theirs
taken_none : (slots : List Slot) (n : ℕ) → read_at key_in (take n slots) n ≡ None
taken_none [] zero = refl
taken_none [] (suc n) = refl
taken_none (s ∷ slots) zero = refl
taken_none (s ∷ slots) (suc n) = taken_none slots n

taken_here : (slots : List Slot) (n : ℕ) → read_at key_in (take (suc n) slots) n ≡ read_at key_in slots n
taken_here [] n = refl
taken_here (s ∷ slots) zero = refl
taken_here (s ∷ slots) (suc n) = taken_here slots n

taken_beside : (slots : List Slot) (n q : ℕ) → (q ≡ n → ⊥) → read_at key_in (take (suc n) slots) q ≡ read_at key_in (take n slots) q
taken_beside [] zero q apart = refl
taken_beside [] (suc n) q apart = refl
taken_beside (s ∷ slots) zero zero apart = absurd (apart refl)
taken_beside (s ∷ slots) zero (suc q) apart = refl
taken_beside (s ∷ slots) (suc n) zero apart = refl
taken_beside (s ∷ slots) (suc n) (suc q) apart = taken_beside slots n q (λ e. apart (omega arith))

count_taken : (slots : List Slot) (n : ℕ) → count_by has_key (take (suc n) slots) ≡ count_by has_key (take n slots) + one_if (is_some (read_at key_in slots n))
count_taken [] zero = refl
count_taken [] (suc n) = refl
count_taken (s ∷ slots) zero = omega (arith, count_cons s [])
count_taken (s ∷ slots) (suc n) = omega (arith, count_cons s (take (suc n) slots), count_cons s (take n slots), count_taken slots n)

count_few : (slots : List Slot) → count_by has_key slots ≤ length slots
count_few [] = omega arith
count_few (s ∷ slots) = omega (arith, count_cons s slots, one_most s, count_few slots)
  where
    one_most : (slot : Slot) → one_if (has_key slot) ≤ 1
    one_most slot = elim (has_key slot) as (λ b. one_if b ≤ 1) [ true ↦ omega arith | false ↦ omega arith ]

length_taken : (slots : List Slot) (n : ℕ) → length (take n slots) ≤ n
length_taken [] zero = omega arith
length_taken [] (suc n) = omega arith
length_taken (s ∷ slots) zero = omega arith
length_taken (s ∷ slots) (suc n) = omega (arith, length_taken slots n)

-- ---- the loop

-- The first slots are linked, and so many of them have a key.
pub record AreLinkedTo (slots : List Slot) (chains : Chained) (n keyed : ℕ) : Type 0 where
  pub hashed : AreHashed (take n slots) chains
  pub count : keyed ≡ count_by has_key (take n slots)

pub none_linked : (slots : List Slot) (chains : Chained) (keyed : ℕ) → keyed ≡ 0 → ((o : ℕ) → hash_of chains o ≡ None) → AreLinkedTo slots chains 0 keyed
none_linked slots chains keyed none empty = record { hashed = λ o. empty o; count = none }

module _ (slots : List Slot) (chains : Chained) (n keyed : ℕ) (linked : AreLinkedTo slots chains n keyed) where
  pub next_free : hash_of chains n ≡ None
  next_free = linked.hashed n ∙ ap key_hash (taken_none slots n)

  pub few_linked : keyed ≤ n
  few_linked = omega (arith, linked.count, count_few (take n slots), length_taken slots n)

  module _ (hash : Option ℕ) (chains' : Chained) (keyed' : ℕ) (is : hash ≡ key_hash (read_at key_in slots n))
      (comes : (q : ℕ) → hash_of chains' q ≡ cond (nat_eq q n) hash (hash_of chains q)) (one_more : keyed' ≡ keyed + one_if (is_some hash)) where
    next_hashed : AreHashed (take (suc n) slots) chains'
    next_hashed q =
        elim (cases_eq q n) [
          | inl e ↦ comes q ∙ same_test q n _ _ e ∙ is ∙ ap key_hash (sym (ap (read_at key_in (take (suc n) slots)) e ∙ taken_here slots n))
          | inr apart ↦ comes q ∙ other_test q n _ _ apart ∙ linked.hashed q ∙ ap key_hash (sym (taken_beside slots n q apart))
        ]

    pub next_linked : (m : ℕ) → m ≡ suc n → AreLinkedTo slots chains' m keyed'
    next_linked m e = subst (λ k. AreLinkedTo slots chains' k keyed') (sym e) record {
      hashed = next_hashed;
      count = omega (arith, one_more, linked.count, count_taken slots n, ap one_if (ap is_some is ∙ some_hash (read_at key_in slots n)));
    }

module _ (slots : List Slot) (chains : Chained) (n keyed : ℕ) (linked : AreLinkedTo slots chains n keyed) (all : length slots ≤ n) where
  pub all_hashed : AreHashed slots chains
  all_hashed = subst (λ ss. AreHashed ss chains) (take_all n slots all) linked.hashed

  pub all_counted : keyed ≡ count_by has_key slots
  all_counted = linked.count ∙ ap (count_by has_key) (take_all n slots all)

-- ---- all slots

module _ (slots : List Slot) (none fresh : Chained) (room buckets : ℕ) (few : length slots < 2 ^ 32) (long : room ≡ length slots)
    (is_none : none ≡ record { slots = 0; chains = [] }) (power : IsPowerOfTwo buckets) (reserved : IsReserved none room buckets fresh) where
  pub fresh_slots : length slots ≤ fresh.slots
  fresh_slots = omega (arith, long, reserved.slots_are, ap (λ (c : Chained). c.slots) is_none)

  pub fresh_buckets : 0 < length fresh.chains
  fresh_buckets = omega (arith, some_buckets buckets power, reserved.buckets_are)

  pub fresh_empty : (o : ℕ) → hash_of fresh o ≡ None
  fresh_empty o = reserved.hashes o ∙ ap (λ c. hash_of c o) is_none

  pub all_kept : (chains : Chained) (keyed : ℕ) → AreHashed slots chains → chains.slots ≡ fresh.slots → length chains.chains ≡ length fresh.chains → keyed ≡ count_by has_key slots → AreKept slots chains buckets keyed
  all_kept chains keyed hashed places parts count = record {
    few = few;
    room = omega (arith, places, fresh_slots);
    buckets_are = parts ∙ reserved.buckets_are;
    powered = inr power;
    bucketed = λ _. some_buckets buckets power;
    hashed = hashed;
    count = count;
  }
