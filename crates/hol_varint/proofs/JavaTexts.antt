-- Java UTF texts, unit by unit, and what stands at a place as a text.
use Rattle.std.proofs.Common.{◌≡◌, ℕ, suc, ◌+◌, ◌-◌, ◌*◌, ◌/◌, ◌%◌, ◌^◌, ◌<◌, ◌≤◌, List, [], ◌∷◌, ◌++◌, length, take, drop, set, get_or, Some, None, Result, Ok, Err, inl, inr, refl, sym, ◌∙◌, ap, subst, arith, append_assoc}
use Rattle.std.proofs.lemmas.List.{take_rest, drop-drop, drop_more, length-drop, length-append, length-take-le, take_at, drop_at, set_at, append_cancel_left, take-append-drop}
use Rattle.hol_varint.specs.JavaUtf.{unit_bytes, java_bytes, utf_bytes, text_length, UtfStandsAt, UtfEndsInside, IsBadUtf, IsFreeUtf, TellsUtf, AreJavaBytes}
use Rattle.hol_varint.specs.JavaBytes.{TellsUnit}
use Rattle.hol_varint.specs.TextUnits.{AreUnits}
use Rattle.hol_varint.specs.Yields.{Yields}
use Rattle.hol_varint.specs.declared.fault.UtfFault.{UtfFault}
use Rattle.hol_varint.specs.declared.fault.UtfFault.TheVariants.{Short, BadName, Memory}
use Rattle.hol_varint.proofs.Runs.{ReadSoFar, read_more, read_refused, codes_once}
use Rattle.hol_varint.proofs.JavaUnits.{java_code}

module _ (bytes : List ℕ) (place : ℕ) (units : List ℕ) (so_far : ReadSoFar unit_bytes bytes place units) (inside : place < length bytes) where
  pub text_more : (unit count : ℕ) → TellsUnit (take (length bytes - place) (drop place bytes)) (Some (unit, count)) → ReadSoFar unit_bytes bytes (place + count) (units ++ unit ∷ [])
  text_more unit count tells =
      let begins = tells.2 in
      let within : count ≤ length bytes - place = omega (arith, tells.1, ap length (take_rest bytes place), length-drop place bytes) in
      let behind = ap (drop count) (take_rest bytes place) ∙ drop-drop count place bytes in
      read_more unit_bytes java_code bytes place units unit (place + count) so_far inside (omega arith) begins.is
      (sym (take_rest bytes place) ∙ begins.spelled ∙ ap (λ bs. unit_bytes unit ++ bs) behind)

  pub text_refused : TellsUnit (take (length bytes - place) (drop place bytes)) None → (all : List ℕ) → AreJavaBytes bytes all → ⊥
  text_refused none =
      read_refused unit_bytes bytes place units so_far inside (λ unit behind small begins. none unit behind (record { is = small; spelled = take_rest bytes place ∙ begins }))

module _ (bytes : List ℕ) (at : ℕ) where
  module _ (len : ℕ) (len_is : len ≡ get_or bytes at 0 * 256 + get_or bytes (at + 1) 0) (within : at + 2 + len ≤ length bytes) where
    -- the two bytes of the length, and what stands behind them
    opened : take (at + 2 + len - at) (drop at bytes) ≡ get_or bytes at 0 ∷ get_or bytes (at + 1) 0 ∷ take len (drop (at + 2) bytes)
    opened =
        let count : at + 2 + len - at ≡ suc (suc len) = omega arith in
        let first : at < length bytes = omega arith in
        let second : at + 1 < length bytes = omega arith in
        let next : at + 1 + 1 ≡ at + 2 = omega arith in
        rw count (ap (take (suc (suc len))) (drop_more bytes at 0 first ∙ ap (λ bs. get_or bytes at 0 ∷ bs) (drop_more bytes (at + 1) 0 second ∙ ap (λ n. get_or bytes (at + 1) 0 ∷ drop n bytes) next)))

    pub utf_found : get_or bytes at 0 < 256 → get_or bytes (at + 1) 0 < 256 → (units : List ℕ) → AreJavaBytes (take (at + 2 + len - (at + 2)) (drop (at + 2) bytes)) units → UtfStandsAt bytes at units (at + 2 + len)
    unfolding utf_bytes
    utf_found high low units are =
        let count : at + 2 + len - (at + 2) ≡ len = omega arith in
        let text : take len (drop (at + 2) bytes) ≡ java_bytes units = ap (λ n. take n (drop (at + 2) bytes)) (sym count) ∙ are.1 in
        let inside : len ≤ length (drop (at + 2) bytes) = omega (arith, length-drop (at + 2) bytes) in
        let size : length (java_bytes units) ≡ len = ap length (sym text) ∙ length-take-le len (drop (at + 2) bytes) inside in
        let first : get_or bytes at 0 ≡ length (java_bytes units) / 256 = omega (arith, size, len_is) in
        let second : get_or bytes (at + 1) 0 ≡ length (java_bytes units) % 256 = omega (arith, size, len_is) in
        record {
          from = omega arith;
          within = within;
          are = are.0;
          fits = omega (arith, size, len_is);
          spelled = opened ∙ ap (λ n. n ∷ get_or bytes (at + 1) 0 ∷ take len (drop (at + 2) bytes)) first ∙ ap (λ n. length (java_bytes units) / 256 ∷ n ∷ take len (drop (at + 2) bytes)) second
              ∙ ap (λ bs. length (java_bytes units) / 256 ∷ length (java_bytes units) % 256 ∷ bs) text;
        }

-- the length is written into its place once the text stands behind it
pub utf_written : (before units all : List ℕ) (start len : ℕ) → length before ≡ start → all ≡ before ++ 0 ∷ 0 ∷ java_bytes units → len ≡ length (java_bytes units) → set (set all start (len / 256)) (start + 1) (len % 256) ≡ before ++ utf_bytes units
unfolding utf_bytes
utf_written before units all start len start_is all_is len_is =
    let second : length (before ++ (len / 256) ∷ []) ≡ start + 1 = omega (arith, length-append before ((len / 256) ∷ [])) in
    ap (λ bs. set (set bs start (len / 256)) (start + 1) (len % 256)) all_is
    ∙ ap (λ bs. set bs (start + 1) (len % 256)) (set_at before 0 (0 ∷ java_bytes units) (len / 256) start start_is ∙ sym (append_assoc before ((len / 256) ∷ []) (0 ∷ java_bytes units)))
    ∙ set_at (before ++ (len / 256) ∷ []) 0 (java_bytes units) (len % 256) (start + 1) second
    ∙ append_assoc before ((len / 256) ∷ []) ((len % 256) ∷ java_bytes units)
    ∙ ap (λ n. before ++ (n / 256) ∷ (n % 256) ∷ java_bytes units) len_is

-- a text at the front of bytes: its length, and what stands behind that
module _ (rest units behind : List ℕ) (begins : rest ≡ utf_bytes units ++ behind) where
  front_length : text_length rest ≡ length (java_bytes units)
  unfolding utf_bytes
  front_length = ap text_length begins ∙ omega arith

  front_within : 2 + text_length rest ≤ length rest
  unfolding utf_bytes
  front_within = omega (arith, front_length, ap length begins, length-append (java_bytes units) behind)

  front_text : take (text_length rest) (drop 2 rest) ≡ java_bytes units
  unfolding utf_bytes
  front_text = ap (λ n. take n (drop 2 rest)) front_length ∙ ap (λ bs. take (length (java_bytes units)) (drop 2 bs)) begins ∙ take_at (java_bytes units) behind (length (java_bytes units)) refl

-- no text's bytes begin those of another one
utf_once : (us vs x y : List ℕ) → AreUnits us → AreUnits vs → utf_bytes us ++ x ≡ utf_bytes vs ++ y → us ≡ vs
utf_once us vs x y p q same =
    codes_once unit_bytes java_code us vs p q
    (sym (front_text (utf_bytes us ++ x) us x refl) ∙ front_text (utf_bytes us ++ x) vs y same)

module _ (bytes : List ℕ) (at : ℕ) (units : List ℕ) (next : ℕ) (stands : UtfStandsAt bytes at units next) where
  begins_there : drop at bytes ≡ utf_bytes units ++ drop (next - at) (drop at bytes)
  begins_there = sym (take-append-drop (next - at) (drop at bytes)) ∙ ap (λ bs. bs ++ drop (next - at) (drop at bytes)) stands.spelled

  next_is : next - at ≡ length (utf_bytes units)
  next_is =
      let from = stands.from in
      let within = stands.within in
      sym (length-take-le (next - at) (drop at bytes) (omega (arith, length-drop at bytes))) ∙ ap length stands.spelled

  utf_stands_inside : UtfEndsInside (drop at bytes) → ⊥
  utf_stands_inside inside = omega (arith, inside, front_within (drop at bytes) units _ begins_there)

  utf_stands_bad : IsBadUtf (drop at bytes) → ⊥
  utf_stands_bad bad = bad.other units (stands.are, front_text (drop at bytes) units _ begins_there)

utf_stands_once : (bytes : List ℕ) (at : ℕ) (us vs : List ℕ) (j k : ℕ) → UtfStandsAt bytes at us j → UtfStandsAt bytes at vs k → (us ≡ vs) × (j ≡ k)
utf_stands_once bytes at us vs j k p q =
    let same = utf_once us vs _ _ p.are q.are (sym (begins_there bytes at us j p) ∙ begins_there bytes at vs k q) in
    let counts = next_is bytes at us j p ∙ ap (λ ws. length (utf_bytes ws)) same ∙ sym (next_is bytes at vs k q) in
    let first_from = p.from in
    let other_from = q.from in
    (same, omega (arith, counts))

utf_inside_bad : (rest : List ℕ) → UtfEndsInside rest → IsBadUtf rest → ⊥
utf_inside_bad rest inside bad = let whole = bad.whole in omega arith

module _ (bytes : List ℕ) (at : ℕ) where
  pub found : (r : Result (List ℕ × ℕ) UtfFault) → TellsUtf bytes at r → (units : List ℕ) (next : ℕ) → Yields IsFreeUtf r (Ok (units, next)) (UtfStandsAt bytes at units next)
  found (Ok (us, j)) tells units next = (
    λ e. let pair : (us, j) ≡ (units, next) = cc in subst (λ (r : List ℕ × ℕ). UtfStandsAt bytes at r.0 r.1) pair tells,
    λ stands. let same = utf_stands_once bytes at us units j next tells stands in let us_is = same.0 in let j_is = same.1 in inl cc,
  )
  found (Err Short) tells units next = (λ e. absurd cc, λ stands. absurd (utf_stands_inside bytes at units next stands tells))
  found (Err BadName) tells units next = (λ e. absurd cc, λ stands. absurd (utf_stands_bad bytes at units next stands tells))
  found (Err Memory) tells units next = (λ e. absurd cc, λ stands. inr tt)

  pub short : (r : Result (List ℕ × ℕ) UtfFault) → TellsUtf bytes at r → Yields IsFreeUtf r (Err Short) (UtfEndsInside (drop at bytes))
  short (Ok (us, j)) tells = (λ e. absurd cc, λ inside. absurd (utf_stands_inside bytes at us j tells inside))
  short (Err Short) tells = (λ _. tells, λ _. inl refl)
  short (Err BadName) tells = (λ e. absurd cc, λ inside. absurd (utf_inside_bad (drop at bytes) inside tells))
  short (Err Memory) tells = (λ e. absurd cc, λ inside. inr tt)

  pub bad : (r : Result (List ℕ × ℕ) UtfFault) → TellsUtf bytes at r → Yields IsFreeUtf r (Err BadName) (IsBadUtf (drop at bytes))
  bad (Ok (us, j)) tells = (λ e. absurd cc, λ is_bad. absurd (utf_stands_bad bytes at us j tells is_bad))
  bad (Err Short) tells = (λ e. absurd cc, λ is_bad. absurd (utf_inside_bad (drop at bytes) tells is_bad))
  bad (Err BadName) tells = (λ _. tells, λ _. inl refl)
  bad (Err Memory) tells = (λ e. absurd cc, λ is_bad. inr tt)

pub utf_stands_begins : (bytes : List ℕ) (at : ℕ) (units : List ℕ) (next : ℕ) → UtfStandsAt bytes at units next → drop at bytes ≡ utf_bytes units ++ drop next bytes
utf_stands_begins bytes at units next stands =
    let from = stands.from in
    let next_is : at + (next - at) ≡ next = omega arith in
    begins_there bytes at units next stands ∙ ap (λ bs. utf_bytes units ++ bs) (drop-drop (next - at) at bytes ∙ ap (λ n. drop n bytes) next_is)

pub utf_stands_between : (before behind units : List ℕ) → AreUnits units → length (java_bytes units) < 2 ^ 16 → UtfStandsAt (before ++ utf_bytes units ++ behind) (length before) units (length (before ++ utf_bytes units))
utf_stands_between before behind units are fits =
    let begins : drop (length before) (before ++ utf_bytes units ++ behind) ≡ utf_bytes units ++ behind =
    ap (drop (length before)) (append_assoc before (utf_bytes units) behind) ∙ drop_at before (utf_bytes units ++ behind) (length before) refl in
    let count : length (before ++ utf_bytes units) - length before ≡ length (utf_bytes units) = omega (arith, length-append before (utf_bytes units)) in
    record {
      from = omega (arith, length-append before (utf_bytes units));
      within = omega (arith, length-append (before ++ utf_bytes units) behind);
      are = are;
      fits = fits;
      spelled = ap (λ n. take n (drop (length before) (before ++ utf_bytes units ++ behind))) count ∙ ap (take (length (utf_bytes units))) begins ∙ take_at (utf_bytes units) behind (length (utf_bytes units)) refl;
    }

-- no text's bytes begin those of another one, and what stands behind is the same
pub utf_apart : (us vs x y : List ℕ) → AreUnits us → AreUnits vs → utf_bytes us ++ x ≡ utf_bytes vs ++ y → (us ≡ vs) × (x ≡ y)
utf_apart us vs x y p q same =
    let one = utf_once us vs x y p q same in
    (one, append_cancel_left (utf_bytes us) x y (same ∙ ap (λ ws. utf_bytes ws ++ y) (sym one)))
