-- The keys that slots make: what stands under an ordinal, and what a change of a slot or further free slots leave.
use Rattle.std.proofs.Common.{◌≡◌, ℕ, zero, suc, ◌+◌, ◌<◌, ◌≤◌, cond, List, [], ◌∷◌, ◌++◌, Option, Some, None, length, refl, sym, ap, ◌∙◌, inl, inr, arith}
use Rattle.std.specs.Prelude.{slice_set, replicate}
use Rattle.std.specs.Ordering.{nat_cmp, is_eq}
use Rattle.std.specs.declared.cmp.Ordering.{Ordering}
use Rattle.std.specs.declared.cmp.Ordering.TheVariants.{Less, Equal, Greater}
use Rattle.std.specs.Cmp.{ranked, nat_cmp_is, nat_cmp_total}
use Rattle.std.specs.FinMap.{get, find, insert, remove, empty, get-insert, get-remove, get-empty, get-from_entries, same_map, nat_cmp-IsAntisymmetric}
use Rattle.std.proofs.lemmas.Bool.{cases_eq}
use Rattle.row_model.specs.declared.row.Value.{Value}
use Rattle.key_index.specs.Indexed.{KeyMap}
use Rattle.key_index.specs.Slots.{entries_from, keys_of, placed, read_at, row_key, with_place, Widens}
use Rattle.key_index.specs.declared.slot.Slot.{Slot}
use Rattle.key_index.specs.declared.slot.Slot.TheVariants.{Free}

pub same_keys : (m n : KeyMap) → ((q : ℕ) → get m q ≡ get n q) → m ≡ n
same_keys m n same = same_map nat_cmp_total nat_cmp-IsAntisymmetric m n same

pub get_inserted : (m : KeyMap) (o : ℕ) (key : Option (List Value)) → get (insert m o key) o ≡ Some key
get_inserted m o key = get-insert nat_cmp_total m o key o ∙ grind arith

pub get_beside : (m : KeyMap) (o q : ℕ) (key : Option (List Value)) → (q ≡ o → ⊥) → get (insert m o key) q ≡ get m q
get_beside m o q key apart = get-insert nat_cmp_total m o key q ∙ grind arith

pub get_removed : (m : KeyMap) (o : ℕ) → get (remove m o) o ≡ None
get_removed m o = get-remove nat_cmp_total m o o ∙ grind arith

pub get_left : (m : KeyMap) (o q : ℕ) → (q ≡ o → ⊥) → get (remove m o) q ≡ get m q
get_left m o q apart = get-remove nat_cmp_total m o q ∙ grind arith

-- ---- what stands under an ordinal

module _ {X : Type 0} where
  skips : (q place : ℕ) (x : X) (es : List (ℕ × X)) → (q ≡ place → ⊥) → find nat_cmp q ((place, x) ∷ es) ≡ find nat_cmp q es
  skips q place x es other = skipped (nat_cmp q place) refl
    where
      skipped : (o : Ordering) → o ≡ nat_cmp q place → cond (is_eq (nat_cmp q place)) (Some x) (find nat_cmp q es) ≡ find nat_cmp q es
      skipped Less is = ap (λ o. cond (is_eq o) (Some x) (find nat_cmp q es)) (sym is)
      skipped Equal is = absurd (other (ranked q place Equal is))
      skipped Greater is = ap (λ o. cond (is_eq o) (Some x) (find nat_cmp q es)) (sym is)

  finds : (place : ℕ) (x : X) (es : List (ℕ × X)) → find nat_cmp place ((place, x) ∷ es) ≡ Some x
  finds place x es = ap (λ o. cond (is_eq o) (Some x) (find nat_cmp place es)) (sym (nat_cmp_is place place Equal refl))

  module _ (read : Slot → Option X) where
    passed : (q place : ℕ) (x : Option X) (es : List (ℕ × X)) → (q ≡ place → ⊥) → find nat_cmp q (with_place place x es) ≡ find nat_cmp q es
    passed q place None es apart = refl
    passed q place (Some x) es apart = skips q place x es apart

    before : (q place : ℕ) (slots : List Slot) → q < place → find nat_cmp q (entries_from read place slots) ≡ None
    before q place [] below = refl
    before q place (slot ∷ slots) below = passed q place (read slot) (entries_from read (place + 1) slots) (λ e. omega arith) ∙ before q (place + 1) slots (omega arith)

    first : (place : ℕ) (x : Option X) (es : List (ℕ × X)) → find nat_cmp place es ≡ None → find nat_cmp place (with_place place x es) ≡ x
    first place None es none = none
    first place (Some x) es none = finds place x es

    at_place : (place k q : ℕ) (slots : List Slot) → q ≡ place + k → find nat_cmp q (entries_from read place slots) ≡ read_at read slots k
    at_place place k q [] e = refl
    at_place place zero q (slot ∷ slots) e =
        let same : q ≡ place = omega arith in
        ap (λ n. find nat_cmp n (entries_from read place (slot ∷ slots))) same
        ∙ first place (read slot) (entries_from read (place + 1) slots) (before place (place + 1) slots (omega arith))
    at_place place (suc k) q (slot ∷ slots) e =
        passed q place (read slot) (entries_from read (place + 1) slots) (λ same. omega arith)
        ∙ at_place (place + 1) k q slots (omega arith)

    pub read_set : (slots : List Slot) (o : ℕ) (slot : Slot) → o < length slots → read_at read (slice_set slots o slot) o ≡ read slot
    read_set [] o slot inside = absurd (omega arith)
    read_set (s ∷ slots) zero slot inside = refl
    read_set (s ∷ slots) (suc o) slot inside = read_set slots o slot (omega arith)

    pub read_beside : (slots : List Slot) (o q : ℕ) (slot : Slot) → (q ≡ o → ⊥) → read_at read (slice_set slots o slot) q ≡ read_at read slots q
    read_beside [] o q slot apart = refl
    read_beside (s ∷ slots) zero zero slot apart = absurd (apart refl)
    read_beside (s ∷ slots) zero (suc q) slot apart = refl
    read_beside (s ∷ slots) (suc o) zero slot apart = refl
    read_beside (s ∷ slots) (suc o) (suc q) slot apart = read_beside slots o q slot (λ e. apart (omega arith))

    read_free : read Free ≡ None → (n q : ℕ) → read_at read (replicate n Free) q ≡ None
    read_free none zero q = refl
    read_free none (suc n) zero = none
    read_free none (suc n) (suc q) = read_free none n q

    pub read_more : read Free ≡ None → (slots : List Slot) (n q : ℕ) → read_at read (slots ++ replicate n Free) q ≡ read_at read slots q
    read_more none [] n q = read_free none n q
    read_more none (s ∷ slots) n zero = refl
    read_more none (s ∷ slots) n (suc q) = read_more none slots n q

    pub read_past : (slots : List Slot) (o : ℕ) → length slots ≤ o → read_at read slots o ≡ None
    read_past [] o past = refl
    read_past (s ∷ slots) zero past = absurd (omega arith)
    read_past (s ∷ slots) (suc o) past = read_past slots o (omega arith)

pub get_keys : (slots : List Slot) (o : ℕ) → get (keys_of slots) o ≡ read_at row_key slots o
unfolding keys_of
get_keys slots o = get-from_entries nat_cmp_total (entries_from row_key 0 slots) o ∙ at_place row_key 0 o o slots (omega arith)

pub no_slots : keys_of [] ≡ empty
no_slots = same_keys _ _ (λ q. get_keys [] q ∙ sym (get-empty nat_cmp q))

-- ---- one slot changes

pub length_set : (slots : List Slot) (o : ℕ) (slot : Slot) → length (slice_set slots o slot) ≡ length slots
length_set [] o slot = refl
length_set (s ∷ slots) zero slot = refl
length_set (s ∷ slots) (suc o) slot = ap suc (length_set slots o slot)

placed_here : (m : KeyMap) (o : ℕ) (key : Option (Option (List Value))) → get (placed m o key) o ≡ key
placed_here m o None = get_removed m o
placed_here m o (Some key) = get_inserted m o key

placed_beside : (m : KeyMap) (o q : ℕ) (key : Option (Option (List Value))) → (q ≡ o → ⊥) → get (placed m o key) q ≡ get m q
placed_beside m o q None apart = get_left m o q apart
placed_beside m o q (Some key) apart = get_beside m o q key apart

pub keys_placed : (slots : List Slot) (o : ℕ) (slot : Slot) → o < length slots → keys_of (slice_set slots o slot) ≡ placed (keys_of slots) o (row_key slot)
keys_placed slots o slot inside = same_keys _ _ (λ q.
    get_keys (slice_set slots o slot) q
    ∙ elim (cases_eq q o) [
      | inl e ↦ ap (read_at row_key (slice_set slots o slot)) e ∙ read_set row_key slots o slot inside ∙ sym (ap (get (placed (keys_of slots) o (row_key slot))) e ∙ placed_here (keys_of slots) o (row_key slot))
      | inr apart ↦ read_beside row_key slots o q slot apart ∙ sym (get_keys slots q) ∙ sym (placed_beside (keys_of slots) o q (row_key slot) apart)
    ])

-- past the slots there is nothing to remove
pub keys_past : (slots : List Slot) (o : ℕ) → length slots ≤ o → remove (keys_of slots) o ≡ keys_of slots
keys_past slots o past = same_keys _ _ (λ q.
    elim (cases_eq q o) [
      | inl e ↦ ap (get (remove (keys_of slots) o)) e ∙ get_removed (keys_of slots) o ∙ sym (ap (get (keys_of slots)) e ∙ get_keys slots o ∙ read_past row_key slots o past)
      | inr apart ↦ get_left (keys_of slots) o q apart
    ])

-- ---- more slots, which are free

pub keys_more : (slots more : List Slot) (room : ℕ) → Widens slots room more → keys_of more ≡ keys_of slots
keys_more slots more room widens = same_keys _ _ (λ q.
    get_keys more q ∙ ap (λ s. read_at row_key s q) widens.padded ∙ read_more row_key refl slots widens.count q ∙ sym (get_keys slots q))
