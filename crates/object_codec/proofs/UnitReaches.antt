-- Lemmas on how far units stand.
use Rattle.std.proofs.Common.{◌≡◌, ℕ, zero, suc, ◌+◌, ◌-◌, ◌*◌, ◌^◌, ◌<◌, ◌≤◌, List, [], ◌∷◌, ◌++◌, length, take, drop, get_or, sym, ap, ◌∙◌, subst, arith, inl, inr}
use Rattle.std.proofs.lemmas.Bool.{cases_lt}
use Rattle.std.proofs.lemmas.List.{get_or-take, get_or-drop, length-take-le, take_all, length-drop, drop-drop, drop-take}
use Rattle.std.specs.List.{flat_map}
use Rattle.std.proofs.lemmas.List.Concat.{flat_map-append}
use Rattle.std.proofs.lemmas.List.Elements.{All-nil, All-cons, All-append}
use Rattle.hol_varint.specs.Varint.{SpellsOn, varint_bytes, VarStandsBelow}
use Rattle.hol_varint.specs.TextUnits.{AreUnitsIn}
use Rattle.hol_varint.proofs.Runs.{ReadSoFar}
use Rattle.hol_varint.proofs.VarWriting.{varint_only}
use Rattle.object_codec.specs.Texts.{IsBorder, HoldUnits, AreReaches}

-- ---- the bytes of one number: the last is below 128, and no other one

spelled_some : (high : ℕ) (a : List ℕ) (n : ℕ) → SpellsOn high a n → 0 < length a
spelled_some high [] n p = absurd p
spelled_some high (b ∷ bs) n p = omega arith

spelled_last : (high : ℕ) (a : List ℕ) (n k : ℕ) → SpellsOn high a n → k + 1 ≡ length a → get_or a k 0 < 128
spelled_last high [] n k p e = absurd p
spelled_last high (b ∷ []) n zero p e = p.0
spelled_last high (b ∷ []) n (suc k) p e = absurd (omega arith)
spelled_last high (b ∷ c ∷ bs) n zero p e = absurd (omega arith)
spelled_last high (b ∷ c ∷ bs) n (suc k) p e = spelled_last (high * 128 + (b - 128)) (c ∷ bs) n k p.2 (omega arith)

spelled_inner : (high : ℕ) (a : List ℕ) (n k : ℕ) → SpellsOn high a n → k + 1 < length a → 128 ≤ get_or a k 0
spelled_inner high [] n k p less = absurd p
spelled_inner high (b ∷ []) n k p less = absurd (omega arith)
spelled_inner high (b ∷ c ∷ bs) n zero p less = p.0
spelled_inner high (b ∷ c ∷ bs) n (suc k) p less = spelled_inner (high * 128 + (b - 128)) (c ∷ bs) n k p.2 (omega arith)

module _ (limit : ℕ) (bytes : List ℕ) (at number next : ℕ) (stands : VarStandsBelow limit bytes at number next) where
  size : length (take (next - at) (drop at bytes)) ≡ next - at
  size = length-take-le (next - at) (drop at bytes) (omega (arith, length-drop at bytes, stands.within))

  byte_is : (k place : ℕ) → k < next - at → at + k ≡ place → get_or (take (next - at) (drop at bytes)) k 0 ≡ get_or bytes place 0
  byte_is k place inside is = get_or-take (next - at) (drop at bytes) k 0 inside ∙ get_or-drop at bytes k 0 ∙ ap (λ n. get_or bytes n 0) is

  -- it takes a byte at least, and ends at a border
  pub stands_further : at < next
  stands_further = omega (arith, spelled_some 0 (take (next - at) (drop at bytes)) number stands.spelled.groups, size)

  pub stands_border : IsBorder bytes next
  stands_border some =
      let further = stands_further in
      subst (λ byte. byte < 128) (byte_is (next - 1 - at) (next - 1) (omega arith) (omega arith))
      (spelled_last 0 (take (next - at) (drop at bytes)) number (next - 1 - at) stands.spelled.groups (omega (arith, size)))

  -- and there is no border inside
  pub stands_inner : (place : ℕ) → at < place → place < next → IsBorder bytes place → ⊥
  stands_inner place behind before border =
      let high = spelled_inner 0 (take (next - at) (drop at bytes)) number (place - 1 - at) stands.spelled.groups (omega (arith, size)) in
      omega (arith, border (omega arith), high, byte_is (place - 1 - at) (place - 1) (omega arith) (omega arith))

-- ---- units from a border on

take_split : (xs : List ℕ) (m n : ℕ) → take (m + n) xs ≡ take m xs ++ take n (drop m xs)
take_split xs zero n = let e : zero + n ≡ n = omega arith in ap (λ k. take k xs) e
take_split [] (suc m) n = let e : suc m + n ≡ suc (m + n) = omega arith in ap (λ k. take k []) e ∙ sym (take_all n [] (omega arith))
take_split (x ∷ xs) (suc m) n = let e : suc m + n ≡ suc (m + n) = omega arith in ap (λ k. take k (x ∷ xs)) e ∙ ap (λ ys. x ∷ ys) (take_split xs m n)

-- the bytes up to an end are those of one unit and what follows it
one_before : (limit : ℕ) (bytes : List ℕ) (at unit next end : ℕ) → VarStandsBelow limit bytes at unit next → next ≤ end
    → take (end - at) (drop at bytes) ≡ varint_bytes unit ++ take (end - next) (drop next bytes)
one_before limit bytes at unit next end stands within =
    let from = stands.from in
    let count : end - at ≡ (next - at) + (end - next) = omega arith in
    let place : at + (next - at) ≡ next = omega arith in
    ap (λ n. take n (drop at bytes)) count
    ∙ take_split (drop at bytes) (next - at) (end - next)
    ∙ ap (λ bs. bs ++ take (end - next) (drop (next - at) (drop at bytes))) (varint_only (take (next - at) (drop at bytes)) unit stands.spelled)
    ∙ ap (λ bs. varint_bytes unit ++ take (end - next) bs) (drop-drop (next - at) at bytes ∙ ap (λ n. drop n bytes) place)

unit_before : (all rest : List ℕ) (unit : ℕ) (units : List ℕ) → all ≡ varint_bytes unit ++ rest → rest ≡ flat_map varint_bytes units → all ≡ flat_map varint_bytes (unit ∷ units)
unit_before all rest unit units first more = first ∙ ap (λ bs. varint_bytes unit ++ bs) more

-- nothing is left up to the end
none_on : (bytes : List ℕ) (place end : ℕ) → end ≤ place → (units : List ℕ) × AreUnitsIn (take (end - place) (drop place bytes)) units
none_on bytes place end over =
    let none : end - place ≡ 0 = omega arith in
    ([], (All-nil (λ unit. unit < 2 ^ 16), ap (λ n. take n (drop place bytes)) none))

-- where units stand, the bytes from one border to another are units
pub units_on : (fuel : ℕ) (bytes : List ℕ) (from to place end : ℕ) → end - place ≤ fuel → HoldUnits bytes from to → from ≤ place → end ≤ to → IsBorder bytes place → IsBorder bytes end
    → (units : List ℕ) × AreUnitsIn (take (end - place) (drop place bytes)) units
units_on zero bytes from to place end enough hold low within border last = none_on bytes place end (omega arith)
units_on (suc fuel) bytes from to place end enough hold low within border last =
    elim (cases_lt place end) [
      | inr over ↦ none_on bytes place end over
      | inl lt ↦
          (let there = hold place low (omega arith) border in
          let further = stands_further (2 ^ 16) bytes place there.1 there.0 there.2 in
          elim (cases_lt end there.0) [
            | inl past ↦ absurd (stands_inner (2 ^ 16) bytes place there.1 there.0 there.2 end lt past last)
            | inr reached ↦
                (let rest = units_on fuel bytes from to there.0 end (omega arith) hold (omega arith) within (stands_border (2 ^ 16) bytes place there.1 there.0 there.2) last in (
                  there.1 ∷ rest.0,
                  (
                    All-cons (λ unit. unit < 2 ^ 16) there.1 rest.0 there.2.below rest.1.0,
                    unit_before (take (end - place) (drop place bytes)) (take (end - there.0) (drop there.0 bytes)) there.1 rest.0 (one_before (2 ^ 16) bytes place there.1 there.0 end there.2 reached) rest.1.1,
                  ),
                ))
          ])
    ]

-- ---- the reaches

-- units stand further by one
pub held_further : (bytes : List ℕ) (from to next unit : ℕ) → HoldUnits bytes from to → VarStandsBelow (2 ^ 16) bytes to unit next → HoldUnits bytes from next
held_further bytes from to next unit hold stands place low before border =
    elim (cases_lt place to) [
      | inl lt ↦ hold place low lt border
      | inr ge ↦ elim (cases_lt to place) [
        | inl behind ↦ absurd (stands_inner (2 ^ 16) bytes to unit next stands place behind before border)
        | inr here ↦ (let same : to ≡ place = omega arith in subst (λ p. (next : ℕ) × (unit : ℕ) × VarStandsBelow (2 ^ 16) bytes p unit next) same (next, unit, stands))
      ]
    ]

-- none begins behind a place up to the next border
pub held_behind : (bytes : List ℕ) (from place next : ℕ) → place < from → ((k : ℕ) → place ≤ k → k + 1 < next → 128 ≤ get_or bytes k 0) → HoldUnits bytes from next
held_behind bytes from place next behind on other low before border =
    let high = on (other - 1) (omega arith) (omega arith) in
    absurd (omega (arith, border (omega arith), high))

-- a reach is that of each step from the last one on, as many as are to be
pub reaches_filled : (P : ℕ → Type 0) (old new : List ℕ) (long many reach : ℕ) → long ≡ length old → many ≡ length new → ((step : ℕ) → step < length old → (k : ℕ) → 64 * step ≤ k → k < get_or old step 0 → P k)
    → ((k : ℕ) → 64 * length old ≤ k → k < reach → P k)
    → ((k d : ℕ) → k < many → k < long → get_or new k d ≡ get_or old k d) → ((k d : ℕ) → long ≤ k → k < many → get_or new k d ≡ reach)
    → (step : ℕ) → step < length new → (k : ℕ) → 64 * step ≤ k → k < get_or new step 0 → P k
reaches_filled P old new long many reach is new_is are hold kept filled step inside k low before =
    elim (cases_lt step long) [
      | inl lt ↦ are step (omega arith) k low (omega (arith, before, kept step 0 (omega arith) lt))
      | inr ge ↦ hold k (omega arith) (omega (arith, before, filled step 0 ge (omega arith)))
    ]

pub no_reaches : (bytes reaches : List ℕ) → reaches ≡ [] → AreReaches bytes reaches
no_reaches bytes reaches none index inside = absurd (omega (arith, inside, ap length none))

-- ---- a span of the bytes

module _ (bytes : List ℕ) (start end : ℕ) (within : end ≤ length bytes) where
  -- a border of the span is one of the bytes
  pub border_there : (place : ℕ) → 0 < place → start + place ≤ end → IsBorder (take (end - start) (drop start bytes)) place → IsBorder bytes (start + place)
  border_there place some inside border _ =
      let at : start + (place - 1) ≡ start + place - 1 = omega arith in
      let is : get_or (take (end - start) (drop start bytes)) (place - 1) 0 ≡ get_or bytes (start + place - 1) 0 =
      get_or-take (end - start) (drop start bytes) (place - 1) 0 (omega arith) ∙ get_or-drop start bytes (place - 1) 0 ∙ ap (λ n. get_or bytes n 0) at in
      subst (λ byte. byte < 128) is (border some)

  -- what is left of the span
  left_is : (place : ℕ) → start + place ≤ end → drop place (take (end - start) (drop start bytes)) ≡ take (end - (start + place)) (drop (start + place) bytes)
  left_is place inside =
      let count : end - start ≡ place + (end - (start + place)) = omega arith in
      ap (λ n. drop place (take n (drop start bytes))) count ∙ drop-take place (end - (start + place)) (drop start bytes) ∙ ap (take (end - (start + place))) (drop-drop place start bytes)

  -- units up to a place of the span and units from there on
  pub units_whole : (place : ℕ) → start + place ≤ end → (units : List ℕ) × ReadSoFar varint_bytes (take (end - start) (drop start bytes)) place units
      → (more : List ℕ) × AreUnitsIn (take (end - (start + place)) (drop (start + place) bytes)) more → (units : List ℕ) × AreUnitsIn (take (end - start) (drop start bytes)) units
  units_whole place inside so_far more = (
    so_far.0 ++ more.0,
    (
      All-append (λ unit. unit < 2 ^ 16) so_far.0 more.0 so_far.1.are more.1.0,
      so_far.1.spelled ∙ ap (λ bs. flat_map varint_bytes so_far.0 ++ bs) (left_is place inside ∙ more.1.1) ∙ sym (flat_map-append varint_bytes so_far.0 more.0),
    ),
  )
