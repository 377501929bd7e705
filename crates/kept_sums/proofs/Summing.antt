-- A row is added to sums, or taken from them.
use Rattle.std.proofs.Common.{◌≡◌, ◌∙◌, ◌+◌, ◌-◌, ◌<◌, ◌≤◌, ◌⊎◌, ◌++◌, ℕ, zero, suc, List, [], ◌∷◌, get_or, length, set, replicate, inl, inr, refl, sym, ap, subst, arith}
use Rattle.std.proofs.lemmas.Bool.{cases_eq, cases_lt}
use Rattle.std.proofs.lemmas.List.{get_or-set_other, get_or-set_same, get_or_append_left, length-set, length_push}
use Rattle.schema_model.specs.declared.schema.Shape.{Shape}
use Rattle.row_model.specs.declared.row.Row.{Row}
use Rattle.kept_sums.specs.Steps.{AreAdded, AreNone, AreTaken}
use Rattle.kept_sums.specs.Sums.{AddsRow, AreSumsOf, PartSums, TakesRow, TypeSums, bytes_at, bytes_in, items_in, one_if, part_count, part_of, takes}
use Rattle.kept_sums.proofs.Most.{one_other, one_same}

-- ---- one counter

module _ (counts : List ℕ) (place count : ℕ) (inside : place < length counts) where
  pub counted_more : count ≡ get_or counts place 0 + 1 → (n : ℕ) → get_or (set counts place count) n 0 ≡ get_or counts n 0 + one_if place n
  counted_more is n =
      elim (cases_eq n place) [
        | inl same ↦ (let here = ap (λ k. get_or (set counts place count) k 0) same ∙ get_or-set_same counts place count 0 inside in let was = ap (λ k. get_or counts k 0) same in let one = one_same place n (sym same) in omega (arith, here, was, one, is))
        | inr apart ↦ (let there = get_or-set_other counts place n count 0 apart in let none = one_other place n (λ same. apart (sym same)) in omega (arith, there, none))
      ]

  pub counted_less : count ≡ get_or counts place 0 - 1 → (n : ℕ) → get_or (set counts place count) n 0 ≡ get_or counts n 0 - one_if place n
  counted_less is n =
      elim (cases_eq n place) [
        | inl same ↦ (let here = ap (λ k. get_or (set counts place count) k 0) same ∙ get_or-set_same counts place count 0 inside in let was = ap (λ k. get_or counts k 0) same in let one = one_same place n (sym same) in omega (arith, here, was, one, is))
        | inr apart ↦ (let there = get_or-set_other counts place n count 0 apart in let none = one_other place n (λ same. apart (sym same)) in omega (arith, there, none))
      ]

-- ---- the parts

none_at : (count n : ℕ) → get_or (replicate count zero) n zero ≡ zero
none_at zero n = refl
none_at (suc count) zero = refl
none_at (suc count) (suc n) = none_at count n

pub none_start : AreNone 0 []
none_start = record { long = refl; counts = λ part bits. refl; bytes = λ part. refl }

pub none_more : (count : ℕ) (parts more : List PartSums) (part : PartSums) → AreNone count parts → part ≡ record { counts = replicate 65 0; bytes = 0 } → more ≡ parts ++ part ∷ [] → AreNone (count + 1) more
none_more count parts more part none is push = subst (AreNone (count + 1)) (sym push) (record {
  long = length_push parts part ∙ (let long = none.long in omega (arith, long));
  counts = λ p bits. (elim (cases_lt p (length parts)) [
    | inl before ↦ ap (λ (s : PartSums). get_or s.counts bits 0) (get_or_append_left parts (part ∷ []) (record { counts = []; bytes = 0 }) p before) ∙ none.counts p bits
    | inr from ↦ behind p bits from
  ]);
  bytes = λ p. (elim (cases_lt p (length parts)) [
    | inl before ↦ ap (λ (s : PartSums). s.bytes) (get_or_append_left parts (part ∷ []) (record { counts = []; bytes = 0 }) p before) ∙ none.bytes p
    | inr from ↦ behind_bytes p from
  ]);
})
  where
    at_most : (xs : List PartSums) (p : ℕ) → length xs ≤ p → (get_or (xs ++ part ∷ []) p (record { counts = []; bytes = 0 }) ≡ part) ⊎ (get_or (xs ++ part ∷ []) p (record { counts = []; bytes = 0 }) ≡ record { counts = []; bytes = 0 })
    at_most [] zero from = inl refl
    at_most [] (suc p) from = inr refl
    at_most (x ∷ xs) zero from = absurd (omega (arith, from))
    at_most (x ∷ xs) (suc p) from = at_most xs p (omega (arith, from))

    behind : (p bits : ℕ) → length parts ≤ p → get_or (part_of (parts ++ part ∷ []) p).counts bits 0 ≡ 0
    behind p bits from =
        elim (at_most parts p from) [
          | inl last ↦ ap (λ (s : PartSums). get_or s.counts bits 0) (last ∙ is) ∙ none_at 65 bits
          | inr past ↦ ap (λ (s : PartSums). get_or s.counts bits 0) past
        ]

    behind_bytes : (p : ℕ) → length parts ≤ p → (part_of (parts ++ part ∷ []) p).bytes ≡ 0
    behind_bytes p from =
        elim (at_most parts p from) [
          | inl last ↦ ap (λ (s : PartSums). s.bytes) (last ∙ is)
          | inr past ↦ ap (λ (s : PartSums). s.bytes) past
        ]

-- the sums of no rows
pub none_sums : (shape : Shape) (count : ℕ) (parts : List PartSums) → count ≡ part_count shape → AreNone count parts → AreSumsOf shape [] (record { parts = parts; items = 0; bytes = 0 })
none_sums shape count parts many none = record {
  parts = record { long = none.long ∙ many; counts = λ part bits inside. none.counts part bits; bytes = λ part inside. none.bytes part };
  items = refl;
  bytes = refl;
}

module _ (shape : Shape) (row : Row) where
  pub added_none : (parts : List PartSums) → AreAdded shape row 0 parts parts
  added_none parts = record { long = refl; counts = λ part bits none. absurd (omega (arith, none)); bytes = λ part none. absurd (omega (arith, none)); others = λ part from. refl }

  pub taken_none : (parts : List PartSums) → AreTaken shape row 0 parts parts
  taken_none parts = record { long = refl; counts = λ part bits none. absurd (omega (arith, none)); bytes = λ part none. absurd (omega (arith, none)); others = λ part from. refl }

  module _ (k : ℕ) (old parts : List PartSums) (before after : PartSums) (inside : k < length parts) (read : before ≡ part_of parts k) where
    here : part_of (set parts k after) k ≡ after
    here = get_or-set_same parts k after (record { counts = []; bytes = 0 }) inside

    there : (part : ℕ) → (part ≡ k → ⊥) → part_of (set parts k after) part ≡ part_of parts part
    there part apart = get_or-set_other parts k part after (record { counts = []; bytes = 0 }) apart

    pub added_more : AreAdded shape row k old parts → ((n : ℕ) → get_or after.counts n 0 ≡ get_or before.counts n 0 + takes shape k n row) → after.bytes ≡ before.bytes + bytes_at k row
        → AreAdded shape row (k + 1) old (set parts k after)
    added_more so_far counts bytes = record {
      long = length-set parts k after ∙ so_far.long;
      counts = λ part bits below. (elim (cases_eq part k) [
        | inl same ↦ (let now = ap (λ p. get_or (part_of (set parts k after) p).counts bits 0) same ∙ ap (λ (s : PartSums). get_or s.counts bits 0) here in
            let was = ap (λ (s : PartSums). get_or s.counts bits 0) (read ∙ so_far.others k (omega arith)) in
            let old_is = ap (λ p. get_or (part_of old p).counts bits 0) same in
            let more = counts bits in
            let same_takes = ap (λ p. takes shape p bits row) same in
            omega (arith, now, was, old_is, more, same_takes))
        | inr apart ↦ ap (λ (s : PartSums). get_or s.counts bits 0) (there part apart) ∙ so_far.counts part bits (omega (arith, below, apart))
      ]);
      bytes = λ part below. (elim (cases_eq part k) [
        | inl same ↦ (let now = ap (λ p. (part_of (set parts k after) p).bytes) same ∙ ap (λ (s : PartSums). s.bytes) here in
            let was = ap (λ (s : PartSums). s.bytes) (read ∙ so_far.others k (omega arith)) in
            let old_is = ap (λ p. (part_of old p).bytes) same in
            let same_bytes = ap (λ p. bytes_at p row) same in
            omega (arith, now, was, old_is, bytes, same_bytes))
        | inr apart ↦ ap (λ (s : PartSums). s.bytes) (there part apart) ∙ so_far.bytes part (omega (arith, below, apart))
      ]);
      others = λ part from. there part (λ same. (omega (arith, from, same))) ∙ so_far.others part (omega (arith, from));
    }

    pub taken_more : AreTaken shape row k old parts → ((n : ℕ) → get_or after.counts n 0 ≡ get_or before.counts n 0 - takes shape k n row) → after.bytes ≡ before.bytes - bytes_at k row
        → AreTaken shape row (k + 1) old (set parts k after)
    taken_more so_far counts bytes = record {
      long = length-set parts k after ∙ so_far.long;
      counts = λ part bits below. (elim (cases_eq part k) [
        | inl same ↦ (let now = ap (λ p. get_or (part_of (set parts k after) p).counts bits 0) same ∙ ap (λ (s : PartSums). get_or s.counts bits 0) here in
            let was = ap (λ (s : PartSums). get_or s.counts bits 0) (read ∙ so_far.others k (omega arith)) in
            let old_is = ap (λ p. get_or (part_of old p).counts bits 0) same in
            let more = counts bits in
            let same_takes = ap (λ p. takes shape p bits row) same in
            omega (arith, now, was, old_is, more, same_takes))
        | inr apart ↦ ap (λ (s : PartSums). get_or s.counts bits 0) (there part apart) ∙ so_far.counts part bits (omega (arith, below, apart))
      ]);
      bytes = λ part below. (elim (cases_eq part k) [
        | inl same ↦ (let now = ap (λ p. (part_of (set parts k after) p).bytes) same ∙ ap (λ (s : PartSums). s.bytes) here in
            let was = ap (λ (s : PartSums). s.bytes) (read ∙ so_far.others k (omega arith)) in
            let old_is = ap (λ p. (part_of old p).bytes) same in
            let same_bytes = ap (λ p. bytes_at p row) same in
            omega (arith, now, was, old_is, bytes, same_bytes))
        | inr apart ↦ ap (λ (s : PartSums). s.bytes) (there part apart) ∙ so_far.bytes part (omega (arith, below, apart))
      ]);
      others = λ part from. there part (λ same. (omega (arith, from, same))) ∙ so_far.others part (omega (arith, from));
    }

  -- ---- all of them

  pub adds_row : (old new : TypeSums) → AreAdded shape row (length old.parts) old.parts new.parts → new.items ≡ old.items + items_in shape row → new.bytes ≡ old.bytes + bytes_in row → AddsRow shape row old new
  adds_row old new added items bytes rows more one sums = record {
    parts = record {
      long = added.long ∙ sums.parts.long;
      counts = λ part bits inside. (let now = added.counts part bits (let long = sums.parts.long in omega (arith, inside, long)) in let was = sums.parts.counts part bits inside in let sum = one (takes shape part bits) in omega (arith, now, was, sum));
      bytes = λ part inside. (let now = added.bytes part (let long = sums.parts.long in omega (arith, inside, long)) in let was = sums.parts.bytes part inside in let sum = one (bytes_at part) in omega (arith, now, was, sum));
    };
    items = (let was = sums.items in let sum = one (items_in shape) in omega (arith, items, was, sum));
    bytes = (let was = sums.bytes in let sum = one bytes_in in omega (arith, bytes, was, sum));
  }

  pub takes_row : (old new : TypeSums) → AreTaken shape row (length old.parts) old.parts new.parts → new.items ≡ old.items - items_in shape row → new.bytes ≡ old.bytes - bytes_in row → TakesRow shape row old new
  takes_row old new taken items bytes rows more one sums = record {
    parts = record {
      long = taken.long ∙ sums.parts.long;
      counts = λ part bits inside. (let now = taken.counts part bits (let long = sums.parts.long in omega (arith, inside, long)) in let was = sums.parts.counts part bits inside in let sum = one (takes shape part bits) in omega (arith, now, was, sum));
      bytes = λ part inside. (let now = taken.bytes part (let long = sums.parts.long in omega (arith, inside, long)) in let was = sums.parts.bytes part inside in let sum = one (bytes_at part) in omega (arith, now, was, sum));
    };
    items = (let was = sums.items in let sum = one (items_in shape) in omega (arith, items, was, sum));
    bytes = (let was = sums.bytes in let sum = one bytes_in in omega (arith, bytes, was, sum));
  }
