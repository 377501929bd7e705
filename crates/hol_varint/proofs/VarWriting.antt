-- The one spelling of a number of variable length, from its end to its front.
use Rattle.std.proofs.Common.{◌≡◌, ◌≢◌, inl, inr, ℕ, zero, suc, ◌+◌, ◌-◌, ◌*◌, ◌/◌, ◌%◌, ◌^◌, ◌<◌, ◌≤◌, List, [], ◌∷◌, ◌++◌, length, take, drop, set, get_or, map, refl, sym, ◌∙◌, ap, subst, arith, append_assoc}
use Rattle.std.proofs.Math.Nat.{pow-suc}
use Rattle.std.proofs.lemmas.Bool.{cases_eq}
use Rattle.std.proofs.lemmas.List.{append_cancel_left, drop-drop, drop-set, map_push, length-append, length-drop, length-set, take_at, drop_at, take-append-drop}
use Rattle.std.proofs.lemmas.Int.Digits.{digits_of_step, first_digits_of, all_below_base_digits_of, number_digits_of}
use Rattle.std.specs.Int.Digits.{digits_of, AllBelowBase, number_from_digits_after}
use Rattle.hol_varint.specs.Varint.{SpellsOn, IsVarint, VarStandsBelow, varint_bytes, high_bytes}
use Rattle.hol_varint.proofs.Runs.{IsCode}
use Rattle.hol_varint.proofs.Varints.{varint_once}

-- the groups of a number that is not 0, the lowest apart
high_bytes_more : (n : ℕ) → 0 < n → high_bytes n ≡ high_bytes (n / 128) ++ (n % 128 + 128) ∷ []
unfolding high_bytes
high_bytes_more n some = ap (map (λ group. group + 128)) (digits_of_step 128 n (omega arith) some) ∙ map_push (λ group. group + 128) (digits_of 128 (n / 128)) (n % 128)

-- the bytes from start on, behind the groups of high, are the spelling of the number
pub record Filled (bytes : List ℕ) (start high number : ℕ) : Type 0 where
  pub ten : length bytes ≡ 10
  pub within : start ≤ 9
  pub room : high < 128 ^ start
  pub spelled : high_bytes high ++ drop start bytes ≡ varint_bytes number

pub filled_last : (number : ℕ) → number < 2 ^ 64 → Filled (0 ∷ 0 ∷ 0 ∷ 0 ∷ 0 ∷ 0 ∷ 0 ∷ 0 ∷ 0 ∷ number % 128 ∷ []) 9 (number / 128) number
unfolding varint_bytes
filled_last number small = record { ten = refl; within = omega arith; room = omega arith; spelled = refl }

below_power : (start high : ℕ) → 0 < high → high < 128 ^ start → (less : ℕ) × (start ≡ suc less) × (high / 128 < 128 ^ less)
below_power zero high some room = absurd (omega arith)
below_power (suc less) high some room = (less, refl, (let power = pow-suc 128 less in omega arith))

pub filled_more : (bytes : List ℕ) (start high number : ℕ) → 0 < high → Filled bytes start high number → Filled (set bytes (start - 1) (high % 128 + 128)) (start - 1) (high / 128) number
filled_more bytes start high number some filled =
    let less = below_power start high some filled.room in
    let ten = filled.ten in
    let within = filled.within in
    let start_is = less.1 in
    let before : start - 1 ≡ less.0 = omega arith in
    let inside : less.0 < length bytes = omega arith in
    let start_again : less.0 + 1 ≡ start = omega arith in
    rw before (record {
      ten = length-set bytes less.0 (high % 128 + 128) ∙ ten;
      within = omega arith;
      room = less.2;
      spelled =
          ap (λ bs. high_bytes (high / 128) ++ bs) (drop-set bytes less.0 (high % 128 + 128) inside ∙ ap (λ n. (high % 128 + 128) ∷ drop n bytes) start_again)
          ∙ sym (append_assoc (high_bytes (high / 128)) ((high % 128 + 128) ∷ []) (drop start bytes))
          ∙ ap (λ bs. bs ++ drop start bytes) (sym (high_bytes_more high some)) ∙ filled.spelled;
    })

pub filled_whole : (bytes : List ℕ) (start high number : ℕ) → high ≡ 0 → Filled bytes start high number → drop start bytes ≡ varint_bytes number
unfolding high_bytes
filled_whole bytes start high number none filled = sym (ap (λ h. high_bytes h ++ drop start bytes) none) ∙ filled.spelled

-- a number of one group is its own byte
pub one_group : (number : ℕ) → number < 128 → varint_bytes number ≡ number ∷ []
one_group number small =
    let byte : number % 128 ≡ number = omega arith in
    sym (filled_whole _ 9 (number / 128) number (omega arith) (filled_last number (omega arith))) ∙ ap (λ n. n ∷ []) byte

-- what the groups from a number's front on spell
spells_groups : (high : ℕ) (groups : List ℕ) (last : ℕ) → AllBelowBase 128 groups → last < 128 → SpellsOn high (map (λ group. group + 128) groups ++ last ∷ []) (number_from_digits_after 128 high groups * 128 + last)
spells_groups high [] last below small = (small, refl)
spells_groups high (g ∷ []) last below small =
    let digit = below.0 in
    (omega arith, omega arith, subst (λ n. SpellsOn (high * 128 + n) (last ∷ []) ((high * 128 + g) * 128 + last)) {x = g} {y = g + 128 - 128} (omega arith) (spells_groups (high * 128 + g) [] last tt small))
spells_groups high (g ∷ h ∷ hs) last below small =
    let digit = below.0 in
    (omega arith, omega arith, subst (λ n. SpellsOn (high * 128 + n) (map (λ group. group + 128) (h ∷ hs) ++ last ∷ []) (number_from_digits_after 128 (high * 128 + g) (h ∷ hs) * 128 + last)) {x = g} {y = g + 128 - 128} (omega arith) (spells_groups (high * 128 + g) (h ∷ hs) last below.1 small))

-- a first group that is not 0 is no null
front_group : (groups : List ℕ) (last : ℕ) → 0 < get_or groups 0 0 → get_or (map (λ group. group + 128) groups ++ last ∷ []) 0 0 ≢ 128
front_group [] last some e = omega arith
front_group (g ∷ gs) last some e = omega arith

-- the spelling of a number spells it
pub varint_is : (n : ℕ) → IsVarint (varint_bytes n) n
unfolding varint_bytes high_bytes
varint_is n = record {
  groups = subst (SpellsOn 0 (varint_bytes n)) (ap (λ high. high * 128 + n % 128) (number_digits_of 128 (n / 128) (omega arith)) ∙ omega arith)
      (spells_groups 0 (digits_of 128 (n / 128)) (n % 128) (all_below_base_digits_of 128 (n / 128) (omega arith)) (omega arith));
  first = elim (cases_eq (n / 128) 0) [
    | inl none ↦ subst (λ h. get_or (map (λ group. group + 128) (digits_of 128 h) ++ n % 128 ∷ []) 0 0 ≢ 128) (sym none) (λ e. omega arith)
    | inr some ↦ front_group (digits_of 128 (n / 128)) (n % 128) (first_digits_of 128 (n / 128) (omega arith) (omega (arith, some)))
  ];
}

-- whatever spells a number is that spelling
spelled_only : (high : ℕ) (a : List ℕ) (n : ℕ) → SpellsOn high a n → (get_or a 0 0 ≡ 128 → 0 < high) → high_bytes high ++ a ≡ varint_bytes n
unfolding varint_bytes
spelled_only high [] n p first = absurd p
spelled_only high (b ∷ []) n p first =
    let high_is : high ≡ n / 128 = omega arith in
    let last_is : b ≡ n % 128 = omega arith in
    ap (λ h. high_bytes h ++ b ∷ []) high_is ∙ ap (λ l. high_bytes (n / 128) ++ l ∷ []) last_is
spelled_only high (b ∷ c ∷ bs) n p first =
    let some : 0 < high * 128 + (b - 128) = elim (cases_eq b 128) [ inl null ↦ (let above = first null in omega arith) | inr other ↦ omega (arith, other) ] in
    let high_is : (high * 128 + (b - 128)) / 128 ≡ high = omega arith in
    let group_is : (high * 128 + (b - 128)) % 128 + 128 ≡ b = omega arith in
    sym (append_assoc (high_bytes high) (b ∷ []) (c ∷ bs))
    ∙ ap (λ bytes. bytes ++ c ∷ bs) (sym (high_bytes_more (high * 128 + (b - 128)) some ∙ ap (λ h. high_bytes h ++ ((high * 128 + (b - 128)) % 128 + 128) ∷ []) high_is ∙ ap (λ g. high_bytes high ++ g ∷ []) group_is))
    ∙ spelled_only (high * 128 + (b - 128)) (c ∷ bs) n p.2 (λ _. some)

pub varint_only : (a : List ℕ) (n : ℕ) → IsVarint a n → a ≡ varint_bytes n
unfolding high_bytes
varint_only a n is = spelled_only 0 a n is.groups (λ null. absurd (is.first null))

varint_some : (n : ℕ) → 0 < length (varint_bytes n)
unfolding varint_bytes
varint_some n = omega (arith, length-append (high_bytes (n / 128)) (n % 128 ∷ []))

pub varint_code : IsCode varint_bytes
varint_code = record {
  some = varint_some;
  once = λ u v x y small below same.
      (let one = varint_once _ _ x y u v (varint_is u) (varint_is v) same in
      (one.1, append_cancel_left (varint_bytes u) x y (same ∙ ap (λ n. varint_bytes n ++ y) (sym one.1))));
}

-- a number stands at a place where the bytes go on with its spelling
pub begins_stands : (limit : ℕ) (bytes : List ℕ) (at number : ℕ) (behind : List ℕ) → at ≤ length bytes → drop at bytes ≡ varint_bytes number ++ behind → number < limit → VarStandsBelow limit bytes at number (at + length (varint_bytes number))
begins_stands limit bytes at number behind within begins below =
    let count : at + length (varint_bytes number) - at ≡ length (varint_bytes number) = omega arith in
    let bytes_are : take (at + length (varint_bytes number) - at) (drop at bytes) ≡ varint_bytes number =
    ap (λ n. take n (drop at bytes)) count ∙ ap (take (length (varint_bytes number))) begins ∙ take_at (varint_bytes number) behind (length (varint_bytes number)) refl in
    record {
      from = omega arith;
      within = omega (arith, ap length begins, length-append (varint_bytes number) behind, length-drop at bytes);
      spelled = rw bytes_are (varint_is number);
      below = below;
    }

pub stands_begins : (limit : ℕ) (bytes : List ℕ) (at number next : ℕ) → VarStandsBelow limit bytes at number next → drop at bytes ≡ varint_bytes number ++ drop next bytes
stands_begins limit bytes at number next stands =
    let from = stands.from in
    let next_is : at + (next - at) ≡ next = omega arith in
    sym (take-append-drop (next - at) (drop at bytes))
    ∙ ap (λ bs. bs ++ drop (next - at) (drop at bytes)) (varint_only _ number stands.spelled)
    ∙ ap (λ bs. varint_bytes number ++ bs) (drop-drop (next - at) at bytes ∙ ap (λ n. drop n bytes) next_is)

pub stands_between : (limit : ℕ) (before behind : List ℕ) (number : ℕ) → number < limit → VarStandsBelow limit (before ++ varint_bytes number ++ behind) (length before) number (length (before ++ varint_bytes number))
stands_between limit before behind number below =
    let begins : drop (length before) (before ++ varint_bytes number ++ behind) ≡ varint_bytes number ++ behind =
    ap (drop (length before)) (append_assoc before (varint_bytes number) behind) ∙ drop_at before (varint_bytes number ++ behind) (length before) refl in
    let within : length before ≤ length (before ++ varint_bytes number ++ behind) =
    omega (arith, length-append (before ++ varint_bytes number) behind, length-append before (varint_bytes number)) in
    subst (VarStandsBelow limit (before ++ varint_bytes number ++ behind) (length before) number) (sym (length-append before (varint_bytes number)))
    (begins_stands limit (before ++ varint_bytes number ++ behind) (length before) number behind within begins below)
