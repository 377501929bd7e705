-- Small slots and those for keys of any kind: what a write, further free slots and a reading are in both.
use Rattle.std.proofs.Common.{◌≡◌, ℕ, zero, suc, ◌+◌, ◌-◌, ◌<◌, ◌≤◌, List, [], ◌∷◌, ◌++◌, Option, Some, length, map, take, refl, sym, ap, ◌∙◌, arith, append_assoc}
use Rattle.std.specs.Prelude.{option_and_then, option_map, replicate, slice_get, slice_set}
use Rattle.std.proofs.lemmas.List.{append-nil, length-append, length-map, length-replicate, map-append, replicate_more, take_all}
use Rattle.std.proofs.lemmas.Option.{same_Some, slice_get-map}
use Rattle.row_model.specs.declared.row.Value.{Value}
use Rattle.key_index.specs.Slots.{Widens, key_in, read_at, slot_of}
use Rattle.key_index.specs.declared.slot.Slot.{Slot}
use Rattle.key_index.specs.declared.slot.Slot.TheVariants.{Free}
use Rattle.key_index.specs.declared.slot.SmallSlot.{SmallSlot}

-- ---- a write

pub small_set : (slots : List SmallSlot) (o : ℕ) (small : SmallSlot) (slot : Slot) → slot_of small ≡ slot → map slot_of (slice_set slots o small) ≡ slice_set (map slot_of slots) o slot
small_set [] o small slot is = refl
small_set (s ∷ slots) zero small slot is = ap (λ x. x ∷ map slot_of slots) is
small_set (s ∷ slots) (suc o) small slot is = ap (λ xs. slot_of s ∷ xs) (small_set slots o small slot is)

-- ---- further free slots

free_slots : (n : ℕ) → map slot_of (replicate n SmallSlot.Free) ≡ replicate n Free
free_slots zero = refl
free_slots (suc n) = ap (λ xs. Free ∷ xs) (free_slots n)

pub widens_none : (slots : List Slot) (room : ℕ) → Widens slots room slots
widens_none slots room = record { count = 0; padded = sym (append-nil slots); short = omega arith }

pub widens_more : (slots middle more : List Slot) (room : ℕ) → Widens slots room middle → length middle < room → more ≡ middle ++ Free ∷ [] → Widens slots room more
widens_more slots middle more room widens below is = record {
  count = widens.count + 1;
  padded = is ∙ ap (λ s. s ++ Free ∷ []) widens.padded ∙ append_assoc slots (replicate widens.count Free) (Free ∷ []) ∙ ap (λ s. slots ++ s) (replicate_more widens.count Free);
  short = omega (arith, ap length is, length-append middle (Free ∷ []), below, widens.short);
}

pub small_widens : (slots more : List SmallSlot) (room long : ℕ) → long ≡ length slots → length slots ≤ room → more ≡ take room slots ++ replicate (room - long) SmallSlot.Free
    → Widens (map slot_of slots) room (map slot_of more)
small_widens slots more room long longer below is =
    let n = room - long in
    let joined : more ≡ slots ++ replicate n SmallSlot.Free = is ∙ ap (λ xs. xs ++ replicate n SmallSlot.Free) (take_all room slots below) in
    record {
      count = n;
      padded = ap (map slot_of) joined ∙ map-append slot_of slots (replicate n SmallSlot.Free) ∙ ap (λ xs. map slot_of slots ++ xs) (free_slots n);
      short = omega (arith, longer, length-map more slot_of, ap length joined, length-append slots (replicate n SmallSlot.Free), length-replicate n SmallSlot.Free, length-map slots slot_of);
    }

-- ---- a reading

-- a small slot has a key of one value
pub one_long : (small : SmallSlot) (key : List Value) → key_in (slot_of small) ≡ Some key → length key ≡ 1
one_long SmallSlot.Free key is = absurd cc
one_long SmallSlot.Keyless key is = absurd cc
one_long (SmallSlot.Int number) key is = sym (ap length (same_Some _ _ is))
one_long (SmallSlot.Long number) key is = sym (ap length (same_Some _ _ is))
one_long (SmallSlot.Bool flag) key is = sym (ap length (same_Some _ _ is))
one_long (SmallSlot.Ref ordinal) key is = sym (ap length (same_Some _ _ is))

pub small_read : (slots : List SmallSlot) (o : ℕ) (small : Option SmallSlot) → small ≡ slice_get slots o → read_at key_in (map slot_of slots) o ≡ option_and_then key_in (option_map slot_of small)
small_read slots o small is = ap (option_and_then key_in) (slice_get-map slot_of slots o ∙ ap (option_map slot_of) (sym is))
