-- How many rows have an entry: over a step those whose entries leave go, and those whose entries come are new.
use Rattle.std.proofs.Common.{◌≡◌, ◌↔◌, ℕ, suc, ◌+◌, ◌-◌, ◌<◌, ◌≤◌, ◌∙◌, refl, sym, ap, subst, inl, inr, arith, List, [], ◌∷◌, ◌++◌, Some, length, get_or, map}
use Rattle.std.specs.Prelude.{Contains, option_map}
use Rattle.std.specs.List.{swap_remove}
use Rattle.std.proofs.lemmas.Option.{slice_get-get_or}
use Rattle.std.proofs.lemmas.List.{get_or-map, length-append, length-map}
use Rattle.std.proofs.lemmas.List.Elements.{Contains-append_cases, Contains-append_left, Contains-append_right}
use Rattle.key_index.proofs.Lists.{contains_either, contains_first, contains_later, contains_none}
use Rattle.row_model.specs.Row.{Rises}
use Rattle.row_model.specs.declared.row.Value.{Value}
use Rattle.row_model.specs.declared.row.Value.TheVariants.{Null}
use Rattle.hol_paths.specs.declared.entries.Slot.{Slot}
use Rattle.hol_paths.specs.Reached.{AreRisingOf}
use Rattle.hol_paths.specs.Slots.{AreLeaving, entries_of, entry_of, no_slot, owner_at, owner_in, owner_of}
use Rattle.hol_paths.specs.Walked.{CountsOwners, Entry}
use Rattle.hol_paths.proofs.Apart.{AreApart, apart_append, apart_tail, from_rest, never_taken, no_more, swapped_apart, swapped_length, taken_or_rest}
use Rattle.hol_paths.proofs.Coming.{places_there}
use Rattle.hol_paths.proofs.Lookup.{from_map, in_map}

-- numbers that rise are apart
pub rises_apart : (xs : List ℕ) → Rises xs → AreApart xs
rises_apart xs rises = λ i j d before within same. omega (arith, rises i j d before within, same)

-- What is left of numbers without others that stand among them.
pub record IsLeft (xs ys : List ℕ) : Type 0 where
  pub rest : List ℕ
  pub apart : AreApart rest
  pub are : (n : ℕ) → Contains rest n ↔ (Contains xs n × ¬ Contains ys n)
  pub long : length rest + length ys ≡ length xs

pub minus : (xs ys : List ℕ) → AreApart xs → AreApart ys → ((n : ℕ) → Contains ys n → Contains xs n) → IsLeft xs ys
minus xs [] apart once all = record {
  rest = xs;
  apart = apart;
  are = λ n. ((λ h. (h, λ none. contains_none n none)), (λ h. h.0));
  long = omega arith;
}
minus xs (y ∷ ys) apart once all =
    let before = minus xs ys apart (apart_tail y ys once) (λ n h. all n (contains_later y n ys h)) in
    let there : Contains before.rest y = (before.are y).1 (all y (contains_first y y ys refl), (λ h. once 0 (suc h.0) y (omega arith) (omega (arith, h.1)) (sym h.2))) in
    record {
      rest = swap_remove before.rest there.0 y;
      apart = swapped_apart before.rest there.0 y there.1 before.apart;
      are = λ n. (
        (λ h.
            let was = (before.are n).0 (from_rest before.rest there.0 y there.1 n h) in (
              was.0,
              (λ among. elim (contains_either y n ys among) [
                | inl e ↦ never_taken before.rest there.0 y there.1 before.apart (subst (Contains (swap_remove before.rest there.0 y)) (sym e ∙ sym there.2) h)
                | inr later ↦ was.1 later
              ]),
            )),
        (λ h. elim (taken_or_rest before.rest there.0 y there.1 n ((before.are n).1 (h.0, (λ later. h.1 (contains_later y n ys later))))) [
          | inl taken ↦ absurd (h.1 (contains_first y n ys (sym there.2 ∙ taken)))
          | inr rest ↦ rest
        ]),
      );
      long = omega (arith, before.long, swapped_length before.rest there.0 y there.1);
    }

-- ---- rows of entries

-- The row has an entry.
abbrev pub HasEntry : List Entry → ℕ → Type 0
HasEntry entries ordinal = (value : Value) × Contains entries (ordinal, value)

abbrev first_of : Entry → ℕ
first_of entry = entry.0

pub counts_few : (entries : List Entry) (count : ℕ) → CountsOwners entries count → count ≤ length entries
counts_few entries count counts =
    omega (
      arith,
      counts.3,
      length-map entries first_of,
      no_more counts.0 (map first_of entries) counts.1 (λ o h.
          let has = (counts.2 o).0 h in
          let at = has.1 in
          (at.0, omega (arith, at.1, length-map entries first_of), get_or-map first_of entries at.0 (o, has.0) o at.1 ∙ ap first_of at.2)),
    )

pub once_few : (numbers rising : List ℕ) → AreRisingOf numbers rising → length rising ≤ length numbers
once_few numbers rising are = no_more rising numbers (rises_apart rising are.rises) (λ n h. (are.same n).0 h)

pub counts_none : CountsOwners [] 0
counts_none = ([], (λ i j d before within. absurd (omega (arith, within))), (λ o. ((λ h. absurd (contains_none o h)), (λ h. absurd (contains_none (o, h.0) h.1)))), refl)

-- the rows of slots are those of their entries
module _ (values : List Value) (slots : List Slot) where
  pub of_slot : (o : ℕ) → Contains (map owner_in slots) o → HasEntry (entries_of values slots) o
  of_slot o h =
      let within : h.0 < length slots = omega (arith, h.1, length-map slots owner_in) in
      let slot = get_or slots h.0 no_slot in
      let is : slot.owner ≡ o = sym (get_or-map owner_in slots h.0 no_slot o within) ∙ h.2 in
      let value = get_or values slot.number Null in
      (value, (h.0, omega (arith, within, length-map slots (entry_of values)), get_or-map (entry_of values) slots h.0 no_slot (o, value) within ∙ ap (λ (q : ℕ). (q, value)) is))

  pub of_entry : (o : ℕ) → HasEntry (entries_of values slots) o → Contains (map owner_in slots) o
  of_entry o has =
      let at = has.1 in
      let within : at.0 < length slots = omega (arith, at.1, length-map slots (entry_of values)) in
      let same : entry_of values (get_or slots at.0 no_slot) ≡ (o, has.0) = sym (get_or-map (entry_of values) slots at.0 no_slot (o, has.0) within) ∙ at.2 in
      (at.0, omega (arith, within, length-map slots owner_in), get_or-map owner_in slots at.0 no_slot o within ∙ ap first_of same)

  -- the rows of the slots that leave are the rows that are removed and have an entry
  module _ (removed leaving : List ℕ) (leaves : AreLeaving slots removed leaving) where
    at_place : (p : ℕ) → p < length slots → owner_at slots p ≡ Some (owner_of slots p)
    at_place p within = ap (option_map owner_in) (slice_get-get_or slots p no_slot within)

    pub gone_rows : (o : ℕ) → Contains (map (owner_of slots) leaving) o ↔ (Contains removed o × HasEntry (entries_of values slots) o)
    gone_rows o = (
      (λ h.
          let from = from_map (owner_of slots) leaving o h in
          let among = from.1 in
          let within : from.0 < length slots = subst (λ (n : ℕ). n < length slots) among.2 (places_there slots removed leaving leaves among.0 from.0 among.1) in
          let who = (leaves.are from.0).0 among in
          let read : Some who.0 ≡ Some (owner_of slots from.0) = sym who.2 ∙ at_place from.0 within in
          let same : who.0 ≡ o = owner_same who.0 (owner_of slots from.0) read ∙ from.2 in (
            subst (Contains removed) same who.1,
            of_slot o (from.0, omega (arith, within, length-map slots owner_in), get_or-map owner_in slots from.0 no_slot o within ∙ from.2),
          )),
      (λ h.
          let at = h.1.1 in
          let within : at.0 < length slots = omega (arith, at.1, length-map slots (entry_of values)) in
          let same : entry_of values (get_or slots at.0 no_slot) ≡ (o, h.1.0) = sym (get_or-map (entry_of values) slots at.0 no_slot (o, h.1.0) within) ∙ at.2 in
          let is : owner_of slots at.0 ≡ o = ap first_of same in
          in_map (owner_of slots) leaving at.0 o ((leaves.are at.0).1 (o, h.0, at_place at.0 within ∙ ap Some is)) is),
    )
      where
        owner_same : (a b : ℕ) → Some a ≡ Some b → a ≡ b
        owner_same a b e = cc

-- ---- over a step

module _ (entries kept came : List Entry) (removed : List ℕ) (stays : (o : ℕ) (v : Value) → Contains kept (o, v) ↔ (Contains entries (o, v) × ¬ Contains removed o)) where
  module _ (keyed : ℕ) (counts : CountsOwners entries keyed) (owners gone : List ℕ) (gone_are : AreRisingOf owners gone)
      (rows : (o : ℕ) → Contains owners o ↔ (Contains removed o × HasEntry entries o)) where
    rest : IsLeft counts.0 gone
    rest = minus counts.0 gone counts.1 (rises_apart gone gone_are.rises) (λ o h. (counts.2 o).1 ((rows o).0 ((gone_are.same o).0 h)).1)

    pub not_more : length gone ≤ keyed
    not_more = omega (arith, rest.long, counts.3)

    in_rest : (o : ℕ) → Contains rest.rest o ↔ HasEntry kept o
    in_rest o = (
      (λ h.
          let was = (rest.are o).0 h in
          let has = (counts.2 o).0 was.0 in
          (has.0, (stays o has.0).1 (has.1, (λ out. was.1 ((gone_are.same o).1 ((rows o).1 (out, has))))))),
      (λ h.
          let was = (stays o h.0).0 h.1 in
          (rest.are o).1 ((counts.2 o).1 (h.0, was.0), (λ out. was.1 ((rows o).0 ((gone_are.same o).0 out)).0))),
    )

    -- those that come are of rows that had none
    pub counts_next : (never : (o : ℕ) → HasEntry came o → HasEntry entries o → ⊥) (comers new : List ℕ) → AreRisingOf comers new → ((o : ℕ) → Contains comers o ↔ HasEntry came o)
        → CountsOwners (kept ++ came) (keyed - length gone + length new)
    counts_next never comers new new_are of_came = (
      rest.rest ++ new,
      apart_append rest.rest new rest.apart (rises_apart new new_are.rises) (λ o was comes.
          let has = (in_rest o).0 was in
          never o ((of_came o).0 ((new_are.same o).0 comes)) (has.0, ((stays o has.0).0 has.1).0)),
      (λ o. (
        (λ h. elim (Contains-append_cases rest.rest new o h) [
          | inl was ↦ (let has = (in_rest o).0 was in (has.0, Contains-append_left kept came (o, has.0) has.1))
          | inr comes ↦ (let has = (of_came o).0 ((new_are.same o).0 comes) in (has.0, Contains-append_right kept came (o, has.0) has.1))
        ]),
        (λ h. elim (Contains-append_cases kept came (o, h.0) h.1) [
          | inl was ↦ Contains-append_left rest.rest new o ((in_rest o).1 (h.0, was))
          | inr comes ↦ Contains-append_right rest.rest new o ((new_are.same o).1 ((of_came o).1 (h.0, comes)))
        ]),
      )),
      omega (arith, rest.long, counts.3, length-append rest.rest new),
    )
