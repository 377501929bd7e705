-- What stands at a place as a number of variable length excludes everything else there.
use Rattle.std.proofs.Common.{◌≡◌, ℕ, ◌+◌, ◌-◌, ◌*◌, ◌<◌, ◌≤◌, List, [], ◌∷◌, ◌++◌, length, take, drop, get_or, Result, Ok, Err, refl, sym, ◌∙◌, ap, subst, arith}
use Rattle.std.specs.Prelude.{◌↔◌}
use Rattle.std.proofs.lemmas.List.{take-append-drop, length-take-le, length-drop}
use Rattle.hol_varint.specs.declared.fault.VarFault.{VarFault}
use Rattle.hol_varint.specs.declared.fault.VarFault.TheVariants.{Short, Null, Long}
use Rattle.hol_varint.specs.Varint.{SpellsOn, IsVarint, VarStandsBelow, GoOn, VarEndsInside, IsNullVar, IsLongVar, TellsVar}

spelled_once : (g h : ℕ) (a b x y : List ℕ) (m n : ℕ) → g ≡ h → SpellsOn g a m → SpellsOn h b n → a ++ x ≡ b ++ y → (a ≡ b) × (m ≡ n)
spelled_once g h [] b x y m n same p q e = absurd p
spelled_once g h (c ∷ cs) [] x y m n same p q e = absurd q
spelled_once g h (c ∷ []) (d ∷ []) x y m n same p q e =
    let head : c ≡ d = cc in
    (ap (λ v. v ∷ []) head, omega arith)
spelled_once g h (c ∷ []) (d ∷ f ∷ fs) x y m n same p q e =
    let head : c ≡ d = cc in
    absurd (omega arith)
spelled_once g h (c ∷ f ∷ fs) (d ∷ []) x y m n same p q e =
    let head : c ≡ d = cc in
    absurd (omega arith)
spelled_once g h (c ∷ f ∷ fs) (d ∷ k ∷ ks) x y m n same p q e =
    let head : c ≡ d = cc in
    let tail : f ∷ (fs ++ x) ≡ k ∷ (ks ++ y) = cc in
    let rest = spelled_once (g * 128 + (c - 128)) (h * 128 + (d - 128)) (f ∷ fs) (k ∷ ks) x y m n (omega arith) p.2 q.2 tail in
    let bytes : f ∷ fs ≡ k ∷ ks = rest.0 in
    (cc, rest.1)

-- no spelling begins another one
pub varint_once : (a b x y : List ℕ) (m n : ℕ) → IsVarint a m → IsVarint b n → a ++ x ≡ b ++ y → (a ≡ b) × (m ≡ n)
varint_once a b x y m n p q e = spelled_once 0 0 a b x y m n refl p.groups q.groups e

-- bytes that all go on hold no whole number
spelled_inside : (high : ℕ) (a x : List ℕ) (n : ℕ) → SpellsOn high a n → GoOn (a ++ x) → ⊥
spelled_inside high [] x n p on = p
spelled_inside high (b ∷ []) x n p on = omega arith
spelled_inside high (b ∷ c ∷ cs) x n p on = spelled_inside (high * 128 + (b - 128)) (c ∷ cs) x n p.2 on.2

-- a number takes at least a byte
spelled_some : (high : ℕ) (a x : List ℕ) (n : ℕ) → SpellsOn high a n → get_or (a ++ x) 0 0 ≡ get_or a 0 0
spelled_some high [] x n p = absurd p
spelled_some high (b ∷ bs) x n p = refl

module _ (limit : ℕ) (bytes : List ℕ) (at number next : ℕ) (stands : VarStandsBelow limit bytes at number next) where
  parts : take (next - at) (drop at bytes) ++ drop (next - at) (drop at bytes) ≡ drop at bytes
  parts = take-append-drop (next - at) (drop at bytes)

  pub stands_once : (m j : ℕ) → VarStandsBelow limit bytes at m j → (number ≡ m) × (next ≡ j)
  stands_once m j other =
      let same = varint_once _ _ _ _ number m stands.spelled other.spelled (parts ∙ sym (take-append-drop (j - at) (drop at bytes))) in
      let first_from = stands.from in
      let first_within = stands.within in
      let other_from = other.from in
      let other_within = other.within in
      let counts : next - at ≡ j - at =
      sym (length-take-le (next - at) (drop at bytes) (omega (arith, length-drop at bytes))) ∙ ap length same.0 ∙ length-take-le (j - at) (drop at bytes) (omega (arith, length-drop at bytes)) in
      (same.1, omega arith)

  pub stands_inside : VarEndsInside (drop at bytes) → ⊥
  stands_inside inside = spelled_inside 0 _ _ number stands.spelled.groups (subst GoOn (sym parts) inside.on)

  pub stands_null : IsNullVar (drop at bytes) → ⊥
  stands_null null =
      stands.spelled.first (sym (spelled_some 0 _ _ number stands.spelled.groups) ∙ ap (λ bs. get_or bs 0 0) parts ∙ null)

  pub stands_long : IsLongVar limit (drop at bytes) → ⊥
  stands_long long =
      let same = varint_once _ _ _ _ number long.number stands.spelled long.spelled (parts ∙ long.begins) in
      let number_is = same.1 in
      let over = long.over in
      let below = stands.below in
      omega arith

module _ (limit : ℕ) (rest : List ℕ) where
  inside_long : VarEndsInside rest → IsLongVar limit rest → ⊥
  inside_long inside long = spelled_inside 0 _ _ long.number long.spelled.groups (subst GoOn long.begins inside.on)

  null_long : IsNullVar rest → IsLongVar limit rest → ⊥
  null_long null long =
      long.spelled.first (sym (spelled_some 0 _ _ long.number long.spelled.groups) ∙ ap (λ bs. get_or bs 0 0) (sym long.begins) ∙ null)

module _ (limit : ℕ) (bytes : List ℕ) (at : ℕ) where
  pub found : (r : Result (ℕ × ℕ) VarFault) → TellsVar limit bytes at r → (number next : ℕ) → (r ≡ Ok (number, next)) ↔ VarStandsBelow limit bytes at number next
  found (Ok (m, j)) tells number next = (
    λ e. let pair : (m, j) ≡ (number, next) = cc in subst (λ (r : ℕ × ℕ). VarStandsBelow limit bytes at r.0 r.1) pair tells,
    λ stands. let same = stands_once limit bytes at m j tells number next stands in let m_is = same.0 in let j_is = same.1 in cc,
  )
  found (Err Short) tells number next = (λ e. absurd cc, λ stands. absurd (stands_inside limit bytes at number next stands tells))
  found (Err Null) tells number next = (λ e. absurd cc, λ stands. absurd (stands_null limit bytes at number next stands tells))
  found (Err Long) tells number next = (λ e. absurd cc, λ stands. absurd (stands_long limit bytes at number next stands tells))

  pub short : (r : Result (ℕ × ℕ) VarFault) → TellsVar limit bytes at r → (r ≡ Err Short) ↔ VarEndsInside (drop at bytes)
  short (Ok (m, j)) tells = (λ e. absurd cc, λ inside. absurd (stands_inside limit bytes at m j tells inside))
  short (Err Short) tells = (λ _. tells, λ _. refl)
  short (Err Null) tells = (λ e. absurd cc, λ inside. absurd (inside.first tells))
  short (Err Long) tells = (λ e. absurd cc, λ inside. absurd (inside_long limit _ inside tells))

  pub null : (r : Result (ℕ × ℕ) VarFault) → TellsVar limit bytes at r → (r ≡ Err Null) ↔ IsNullVar (drop at bytes)
  null (Ok (m, j)) tells = (λ e. absurd cc, λ is_null. absurd (stands_null limit bytes at m j tells is_null))
  null (Err Short) tells = (λ e. absurd cc, λ is_null. absurd (tells.first is_null))
  null (Err Null) tells = (λ _. tells, λ _. refl)
  null (Err Long) tells = (λ e. absurd cc, λ is_null. absurd (null_long limit _ is_null tells))

  pub long : (r : Result (ℕ × ℕ) VarFault) → TellsVar limit bytes at r → (r ≡ Err Long) ↔ IsLongVar limit (drop at bytes)
  long (Ok (m, j)) tells = (λ e. absurd cc, λ is_long. absurd (stands_long limit bytes at m j tells is_long))
  long (Err Short) tells = (λ e. absurd cc, λ is_long. absurd (inside_long limit _ tells is_long))
  long (Err Null) tells = (λ e. absurd cc, λ is_long. absurd (null_long limit _ tells is_long))
  long (Err Long) tells = (λ _. tells, λ _. refl)

-- what stands below a limit, or is too long for one, under another limit
pub stands_below : (limit lower : ℕ) (bytes : List ℕ) (at number next : ℕ) → VarStandsBelow limit bytes at number next → number < lower → VarStandsBelow lower bytes at number next
stands_below limit lower bytes at number next stands small = record { from = stands.from; within = stands.within; spelled = stands.spelled; below = small }

pub stands_over : (limit lower : ℕ) (bytes : List ℕ) (at number next : ℕ) → VarStandsBelow limit bytes at number next → lower ≤ number → IsLongVar lower (drop at bytes)
stands_over limit lower bytes at number next stands over =
    record { bytes = take (next - at) (drop at bytes); behind = drop (next - at) (drop at bytes); number = number; begins = sym (take-append-drop (next - at) (drop at bytes)); spelled = stands.spelled; over = over }

pub long_over : (limit lower : ℕ) (rest : List ℕ) → lower ≤ limit → IsLongVar limit rest → IsLongVar lower rest
long_over limit lower rest smaller long =
    let over = long.over in
    record { bytes = long.bytes; behind = long.behind; number = long.number; begins = long.begins; spelled = long.spelled; over = omega arith }
