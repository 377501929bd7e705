-- What stands in a part of the bytes, a window of them, stands there in all of them.
use Rattle.std.proofs.Common.{◌≡◌, inl, inr, ℕ, ◌+◌, ◌-◌, ◌<◌, ◌≤◌, List, [], ◌∷◌, ◌++◌, length, take, drop, get_or, sym, ◌∙◌, ap, subst, arith, append_assoc}
use Rattle.std.proofs.lemmas.Bool.{cases_lt}
use Rattle.std.proofs.lemmas.List.{get_or-take, get_or_past, length-take, length-drop, take-take, take-append-drop, drop-take}
use Rattle.hol_varint.specs.Varint.{SpellsOn, IsVarint, VarStandsBelow, IsNullVar, IsLongVar}
use Rattle.hol_varint.specs.JavaUtf.{UtfStandsAt, IsBadUtf, utf_bytes, text_length}

spelled_some : (high : ℕ) (a : List ℕ) (n : ℕ) → SpellsOn high a n → 0 < length a
spelled_some high [] n p = absurd p
spelled_some high (b ∷ bs) n p = omega arith

utf_some : (units : List ℕ) → 0 < length (utf_bytes units)
unfolding utf_bytes
utf_some units = omega arith

module _ (window bytes : List ℕ) (at len : ℕ) (is : window ≡ take len (drop at bytes)) where
  size : length window ≤ length bytes - at
  size = omega (arith, ap length is, length-take len (drop at bytes), length-drop at bytes)

  -- a front of the window, which is a front of the bytes from at on
  front : (next : ℕ) → next ≤ length window → take (next - 0) window ≡ take (at + next - at) (drop at bytes)
  front next within =
      let inside : next ≤ len = omega (arith, within, ap length is, length-take len (drop at bytes)) in
      let count : next - 0 ≡ next = omega arith in
      let count_on : at + next - at ≡ next = omega arith in
      ap (λ n. take n window) count ∙ ap (take next) is ∙ take-take next len (drop at bytes) inside ∙ ap (λ n. take n (drop at bytes)) (sym count_on)

  -- where something stands in the window, the bytes reach the place
  reaches : (next : ℕ) → next ≤ length window → 0 < length (take (next - 0) window) → at + next ≤ length bytes
  reaches next within some =
      let part : 0 < next = omega (arith, some, length-take (next - 0) window) in
      omega (arith, size)

  pub window_stands : (limit number next : ℕ) → VarStandsBelow limit window 0 number next → VarStandsBelow limit bytes at number (at + next)
  window_stands limit number next stands = record {
    from = omega arith;
    within = reaches next stands.within (spelled_some 0 _ number stands.spelled.groups);
    spelled = subst (λ bs. IsVarint bs number) (front next stands.within) stands.spelled;
    below = stands.below;
  }

  pub window_utf : (units : List ℕ) (next : ℕ) → UtfStandsAt window 0 units next → UtfStandsAt bytes at units (at + next)
  window_utf units next stands = record {
    from = omega arith;
    within = reaches next stands.within (omega (arith, ap length stands.spelled, utf_some units));
    are = stands.are;
    fits = stands.fits;
    spelled = sym (front next stands.within) ∙ stands.spelled;
  }

null_front : (rest : List ℕ) (len : ℕ) → IsNullVar (take len rest) → IsNullVar rest
null_front rest len null = elim (cases_lt 0 len) [
  | inl some ↦ sym (get_or-take len rest 0 0 some) ∙ null
  | inr none ↦ absurd (omega (arith, null, get_or_past (take len rest) 0 0 (omega (arith, length-take len rest))))
]

long_front : (limit : ℕ) (rest : List ℕ) (len : ℕ) → IsLongVar limit (take len rest) → IsLongVar limit rest
long_front limit rest len long = record {
  bytes = long.bytes;
  behind = long.behind ++ drop len rest;
  number = long.number;
  begins = sym (take-append-drop len rest) ∙ ap (λ bs. bs ++ drop len rest) long.begins ∙ append_assoc long.bytes long.behind (drop len rest);
  spelled = long.spelled;
  over = long.over;
}

bad_front : (rest : List ℕ) (len : ℕ) → IsBadUtf (take len rest) → IsBadUtf rest
bad_front rest len bad =
    let whole = bad.whole in
    let two : 2 ≤ len = omega (arith, length-take len rest) in
    let first : get_or (take len rest) 0 0 ≡ get_or rest 0 0 = get_or-take len rest 0 0 (omega arith) in
    let second : get_or (take len rest) 1 0 ≡ get_or rest 1 0 = get_or-take len rest 1 0 (omega arith) in
    let size : text_length (take len rest) ≡ text_length rest = omega (arith, first, second) in
    let inside : text_length rest ≤ len - 2 = omega (arith, length-take len rest, size) in
    let len_is : 2 + (len - 2) ≡ len = omega arith in
    let text : take (text_length (take len rest)) (drop 2 (take len rest)) ≡ take (text_length rest) (drop 2 rest) =
    ap (λ n. take n (drop 2 (take len rest))) size
    ∙ ap (λ n. take (text_length rest) (drop 2 (take n rest))) (sym len_is) ∙ ap (take (text_length rest)) (drop-take 2 (len - 2) rest) ∙ take-take (text_length rest) (len - 2) (drop 2 rest) inside in
    record {
      whole = omega (arith, length-take len rest, size);
      other = λ units are. bad.other units (are.0, text ∙ are.1);
    }

module _ (window bytes : List ℕ) (at len : ℕ) (is : window ≡ take len (drop at bytes)) where
  pub window_null : IsNullVar window → IsNullVar (drop at bytes)
  window_null null = null_front (drop at bytes) len (subst IsNullVar is null)

  pub window_long : (limit : ℕ) → IsLongVar limit window → IsLongVar limit (drop at bytes)
  window_long limit long = long_front limit (drop at bytes) len (subst (IsLongVar limit) is long)

  pub window_bad : IsBadUtf window → IsBadUtf (drop at bytes)
  window_bad bad = bad_front (drop at bytes) len (subst IsBadUtf is bad)
