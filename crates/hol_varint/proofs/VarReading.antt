-- A number of variable length, byte by byte from its front.
use Rattle.std.proofs.Common.{◌≡◌, ◌≢◌, ℕ, ◌+◌, ◌-◌, ◌*◌, ◌^◌, ◌<◌, ◌≤◌, List, [], ◌∷◌, ◌++◌, length, take, drop, get_or, refl, sym, ◌∙◌, ap, subst, arith}
use Rattle.std.proofs.lemmas.List.{take_more, take-append-drop, get_or-take, get_or-drop, length-drop}
use Rattle.hol_varint.specs.Varint.{SpellsOn, IsVarint, VarStandsBelow, GoOn, IsLongVar}

-- the number that bytes which go on make, behind the groups of high
abbrev pub grouped : ℕ → List ℕ → ℕ
grouped high [] = high
grouped high (b ∷ bs) = grouped (high * 128 + (b - 128)) bs

-- a number in 64 bits stands for one without a bound: itself, or any that one more group makes too large
pub record Capped (high number : ℕ) : Type 0 where
  pub exact : number < 2 ^ 57 → high ≡ number
  pub large : 2 ^ 57 ≤ number → 2 ^ 57 ≤ high

-- the bytes from at up to place go on, and number stands for what they make
pub record InFront (bytes : List ℕ) (at place number : ℕ) : Type 0 where
  pub from : at ≤ place
  pub on : GoOn (take (place - at) (drop at bytes))
  pub capped : Capped (grouped 0 (take (place - at) (drop at bytes))) number

GoOn-push : (bs : List ℕ) (b : ℕ) → GoOn bs → 128 ≤ b → b < 256 → GoOn (bs ++ b ∷ [])
GoOn-push [] b on low small = (low, small, tt)
GoOn-push (c ∷ cs) b on low small = (on.0, on.1, GoOn-push cs b on.2 low small)

grouped-push : (high : ℕ) (bs : List ℕ) (b : ℕ) → grouped high (bs ++ b ∷ []) ≡ grouped high bs * 128 + (b - 128)
grouped-push high [] b = refl
grouped-push high (c ∷ cs) b = grouped-push (high * 128 + (c - 128)) cs b

spells-push : (high : ℕ) (bs : List ℕ) (b : ℕ) → GoOn bs → b < 128 → SpellsOn high (bs ++ b ∷ []) (grouped high bs * 128 + b)
spells-push high [] b on last = (last, refl)
spells-push high (c ∷ []) b on last = (on.0, on.1, spells-push (high * 128 + (c - 128)) [] b tt last)
spells-push high (c ∷ d ∷ ds) b on last = (on.0, on.1, spells-push (high * 128 + (c - 128)) (d ∷ ds) b on.2 last)

-- one byte more of what stands from at on
front_more : (bytes : List ℕ) (at place : ℕ) → at ≤ place → place < length bytes → take (place + 1 - at) (drop at bytes) ≡ take (place - at) (drop at bytes) ++ get_or bytes place 0 ∷ []
front_more bytes at place from within =
    let count : place + 1 - at ≡ place - at + 1 = omega arith in
    let place_is : at + (place - at) ≡ place = omega arith in
    let inside : place - at < length (drop at bytes) = omega (arith, length-drop at bytes) in
    rw count (take_more (drop at bytes) (place - at) 0 inside ∙ ap (λ b. take (place - at) (drop at bytes) ++ b ∷ []) (get_or-drop at bytes (place - at) 0 ∙ ap (λ n. get_or bytes n 0) place_is))

capped_more : (high number byte : ℕ) → Capped high number → number < 2 ^ 57 → Capped (high * 128 + byte) (number * 128 + byte)
capped_more high number byte capped room = let same = capped.exact room in record { exact = λ _. omega arith; large = λ h. omega (arith, h) }

capped_stays : (high number byte : ℕ) → Capped high number → 2 ^ 57 ≤ number → Capped (high * 128 + byte) number
capped_stays high number byte capped full = let over = capped.large full in record { exact = λ h. absurd (omega (arith, h)); large = λ _. omega arith }

pub in_front_more : (bytes : List ℕ) (at place number : ℕ) → InFront bytes at place number → place < length bytes → 128 ≤ get_or bytes place 0 → get_or bytes place 0 < 256 → number < 2 ^ 57 → InFront bytes at (place + 1) (number * 128 + (get_or bytes place 0 - 128))
in_front_more bytes at place number front within low small room =
    let from = front.from in
    record {
      from = omega arith;
      on = rw (front_more bytes at place from within) (GoOn-push _ _ front.on low small);
      capped = rw (front_more bytes at place from within, grouped-push 0 (take (place - at) (drop at bytes)) (get_or bytes place 0)) (capped_more _ _ _ front.capped room);
    }

pub in_front_full : (bytes : List ℕ) (at place number : ℕ) → InFront bytes at place number → place < length bytes → 128 ≤ get_or bytes place 0 → get_or bytes place 0 < 256 → 2 ^ 57 ≤ number → InFront bytes at (place + 1) number
in_front_full bytes at place number front within low small full =
    let from = front.from in
    record {
      from = omega arith;
      on = rw (front_more bytes at place from within) (GoOn-push _ _ front.on low small);
      capped = rw (front_more bytes at place from within, grouped-push 0 (take (place - at) (drop at bytes)) (get_or bytes place 0)) (capped_stays _ _ _ front.capped full);
    }

-- the bytes from at up to place, and the last byte behind them
ended : (bytes : List ℕ) (at place number : ℕ) → InFront bytes at place number → place < length bytes → get_or bytes place 0 < 128 → get_or bytes at 0 ≢ 128 → IsVarint (take (place + 1 - at) (drop at bytes)) (grouped 0 (take (place - at) (drop at bytes)) * 128 + get_or bytes place 0)
ended bytes at place number front within last first =
    let from = front.from in
    let some : 0 < place + 1 - at = omega arith in
    let begins : get_or (take (place + 1 - at) (drop at bytes)) 0 0 ≡ get_or bytes at 0 = get_or-take (place + 1 - at) (drop at bytes) 0 0 some ∙ get_or-drop at bytes 0 0 ∙ ap (λ n. get_or bytes n 0) (omega arith) in
    record {
      groups = rw (front_more bytes at place from within) (spells-push 0 _ _ front.on last);
      first = rw begins first;
    }

pub stands_ended : (bytes : List ℕ) (at place number : ℕ) → InFront bytes at place number → place < length bytes → get_or bytes place 0 < 128 → get_or bytes at 0 ≢ 128 → number < 2 ^ 57 → VarStandsBelow (2 ^ 64) bytes at (number * 128 + get_or bytes place 0) (place + 1)
stands_ended bytes at place number front within last first room =
    let from = front.from in
    let same = front.capped.exact room in
    record {
      from = omega arith;
      within = omega arith;
      spelled = subst (λ high. IsVarint (take (place + 1 - at) (drop at bytes)) (high * 128 + get_or bytes place 0)) same (ended bytes at place number front within last first);
      below = omega arith;
    }

pub long_ended : (bytes : List ℕ) (at place number : ℕ) → InFront bytes at place number → place < length bytes → get_or bytes place 0 < 128 → get_or bytes at 0 ≢ 128 → 2 ^ 57 ≤ number → IsLongVar (2 ^ 64) (drop at bytes)
long_ended bytes at place number front within last first full =
    let over = front.capped.large full in
    record {
      bytes = take (place + 1 - at) (drop at bytes);
      behind = drop (place + 1 - at) (drop at bytes);
      number = grouped 0 (take (place - at) (drop at bytes)) * 128 + get_or bytes place 0;
      begins = sym (take-append-drop (place + 1 - at) (drop at bytes));
      spelled = ended bytes at place number front within last first;
      over = omega arith;
    }
