-- The bytes of one UTF-16 unit in a Java UTF text.
use Rattle.std.proofs.Common.{◌≡◌, ◌⊎◌, inl, inr, ℕ, ◌+◌, ◌-◌, ◌*◌, ◌/◌, ◌%◌, ◌<◌, ◌≤◌, List, [], ◌∷◌, ◌++◌, length, drop, get_or, Some, refl, sym, ◌∙◌, ap, subst, arith}
use Rattle.std.proofs.lemmas.Bool.{lt-ltb, le-ltb, cases_lt, cases_eq}
use Rattle.std.proofs.lemmas.List.{append_cancel_left, length-append}
use Rattle.hol_varint.proofs.Runs.{IsCode}
use Rattle.hol_varint.specs.JavaUtf.{unit_bytes, java_bytes}
use Rattle.hol_varint.specs.JavaBytes.{BeginsWithUnit, TellsUnit}

pub bytes_one : (unit : ℕ) → 0 < unit → unit < 0x80 → unit_bytes unit ≡ unit ∷ []
unfolding unit_bytes
bytes_one unit some small = rw (lt-ltb 0 unit some, lt-ltb unit 0x80 small) refl

bytes_two : (unit : ℕ) → (unit ≡ 0) ⊎ (0x80 ≤ unit) → unit < 0x800 → unit_bytes unit ≡ (0xC0 + unit / 64) ∷ (0x80 + unit % 64) ∷ []
unfolding unit_bytes
bytes_two unit (inl none) small = subst (λ u. unit_bytes u ≡ (0xC0 + u / 64) ∷ (0x80 + u % 64) ∷ []) (sym none) refl
bytes_two unit (inr low) small =
    let some : 0 < unit = omega arith in
    rw (lt-ltb 0 unit some, le-ltb unit 0x80 low, lt-ltb unit 0x800 small) refl

pub bytes_null : (unit : ℕ) → unit ≡ 0 → unit_bytes unit ≡ 0xC0 ∷ 0x80 ∷ []
bytes_null unit none = bytes_two unit (inl none) (omega arith) ∙ ap (λ u. (0xC0 + u / 64) ∷ (0x80 + u % 64) ∷ []) none

pub bytes_middle : (unit : ℕ) → 0x80 ≤ unit → unit < 0x800 → unit_bytes unit ≡ (0xC0 + unit / 64) ∷ (0x80 + unit % 64) ∷ []
bytes_middle unit low small = bytes_two unit (inr low) small

pub bytes_three : (unit : ℕ) → 0x800 ≤ unit → unit_bytes unit ≡ (0xE0 + unit / 4096) ∷ (0x80 + unit / 64 % 64) ∷ (0x80 + unit % 64) ∷ []
unfolding unit_bytes
bytes_three unit low =
    let some : 0 < unit = omega arith in
    let past : 0x80 ≤ unit = omega arith in
    rw (lt-ltb 0 unit some, le-ltb unit 0x80 past, le-ltb unit 0x800 low) refl

pub record OneByte (bytes : List ℕ) (unit : ℕ) : Type 0 where
  pub some : 0 < unit
  pub below : unit < 0x80
  pub first : get_or bytes 0 0 ≡ unit

pub record TwoBytes (bytes : List ℕ) (unit : ℕ) : Type 0 where
  pub apart : (unit ≡ 0) ⊎ (0x80 ≤ unit)
  pub below : unit < 0x800
  pub first : get_or bytes 0 0 ≡ 0xC0 + unit / 64
  pub second : get_or bytes 1 0 ≡ 0x80 + unit % 64

pub record ThreeBytes (bytes : List ℕ) (unit : ℕ) : Type 0 where
  pub from : 0x800 ≤ unit
  pub below : unit < 0x10000
  pub first : get_or bytes 0 0 ≡ 0xE0 + unit / 4096
  pub second : get_or bytes 1 0 ≡ 0x80 + unit / 64 % 64
  pub third : get_or bytes 2 0 ≡ 0x80 + unit % 64

module _ (bytes : List ℕ) (unit : ℕ) (behind : List ℕ) (begins : BeginsWithUnit bytes unit behind) where
  in_one : 0 < unit → unit < 0x80 → OneByte bytes unit
  in_one some small = record { some = some; below = small; first = ap (λ bs. get_or bs 0 0) (begins.spelled ∙ ap (λ bs. bs ++ behind) (bytes_one unit some small)) }

  in_two : (unit ≡ 0) ⊎ (0x80 ≤ unit) → unit < 0x800 → TwoBytes bytes unit
  in_two apart small =
      let spelled = begins.spelled ∙ ap (λ bs. bs ++ behind) (bytes_two unit apart small) in
      record { apart = apart; below = small; first = ap (λ bs. get_or bs 0 0) spelled; second = ap (λ bs. get_or bs 1 0) spelled }

  in_three : 0x800 ≤ unit → ThreeBytes bytes unit
  in_three low =
      let spelled = begins.spelled ∙ ap (λ bs. bs ++ behind) (bytes_three unit low) in
      record { from = low; below = begins.is; first = ap (λ bs. get_or bs 0 0) spelled; second = ap (λ bs. get_or bs 1 0) spelled; third = ap (λ bs. get_or bs 2 0) spelled }

  -- where the bytes begin with a unit, its bytes stand at the first places
  pub places : OneByte bytes unit ⊎ (TwoBytes bytes unit ⊎ ThreeBytes bytes unit)
  places = elim (cases_lt unit 0x800) [
    | inr low ↦ inr (inr (in_three low))
    | inl small ↦ elim (cases_eq unit 0) [
      | inl none ↦ inr (inl (in_two (inl none) small))
      | inr some ↦ elim (cases_lt unit 0x80) [
        | inr low ↦ inr (inl (in_two (inr low) small))
        | inl least ↦ inl (in_one (omega (arith, some)) least)
      ]
    ]
  ]

-- no unit stands where the bytes at the first places are those of none
pub refused : (bytes : List ℕ) → ((unit : ℕ) → OneByte bytes unit → ⊥) → ((unit : ℕ) → TwoBytes bytes unit → ⊥) → ((unit : ℕ) → ThreeBytes bytes unit → ⊥) → (unit : ℕ) (behind : List ℕ) → BeginsWithUnit bytes unit behind → ⊥
refused bytes one two three unit behind begins = elim (places bytes unit behind begins) [ inl p ↦ one unit p | inr q ↦ elim q [ inl p ↦ two unit p | inr p ↦ three unit p ] ]

-- the bytes at the first places are those of a unit
pub one_byte : (bytes : List ℕ) (unit : ℕ) → 0 < length bytes → get_or bytes 0 0 ≡ unit → 0 < unit → unit < 0x80 → BeginsWithUnit bytes unit (drop 1 bytes)
one_byte [] unit within first some small = absurd (omega arith)
one_byte (b ∷ bs) unit within first some small =
    record { is = omega arith; spelled = rw (bytes_one unit some small) (ap (λ v. v ∷ bs) first) }

pub two_bytes : (bytes : List ℕ) (unit bits : ℕ) → 0xC0 ≤ get_or bytes 0 0 → get_or bytes 0 0 < 0xE0 → get_or bytes 1 0 ≡ 0x80 + bits → bits < 64 → unit ≡ (get_or bytes 0 0 - 0xC0) * 64 + bits → (unit ≡ 0) ⊎ (0x80 ≤ unit) → TellsUnit bytes (Some (unit, 2))
two_bytes [] unit bits low high second small is apart = absurd (omega arith)
two_bytes (b ∷ []) unit bits low high second small is apart = absurd (omega arith)
two_bytes (b ∷ c ∷ bs) unit bits low high second small is apart =
    let first_is : b ≡ 0xC0 + unit / 64 = omega arith in
    let second_is : c ≡ 0x80 + unit % 64 = omega arith in
    let below : unit < 0x800 = omega arith in
    (omega arith, omega arith, record { is = omega arith; spelled = rw (bytes_two unit apart below) cc })

pub three_bytes : (bytes : List ℕ) (unit middle bits : ℕ) → 0xE0 ≤ get_or bytes 0 0 → get_or bytes 0 0 < 0xF0 → get_or bytes 1 0 ≡ 0x80 + middle → middle < 64 → get_or bytes 2 0 ≡ 0x80 + bits → bits < 64 → unit ≡ (get_or bytes 0 0 - 0xE0) * 4096 + middle * 64 + bits → 0x800 ≤ unit → TellsUnit bytes (Some (unit, 3))
three_bytes [] unit middle bits low high second small third least is from = absurd (omega arith)
three_bytes (b ∷ []) unit middle bits low high second small third least is from = absurd (omega arith)
three_bytes (b ∷ c ∷ []) unit middle bits low high second small third least is from = absurd (omega arith)
three_bytes (b ∷ c ∷ d ∷ bs) unit middle bits low high second small third least is from =
    let first_is : b ≡ 0xE0 + unit / 4096 = omega arith in
    let second_is : c ≡ 0x80 + unit / 64 % 64 = omega arith in
    let third_is : d ≡ 0x80 + unit % 64 = omega arith in
    (omega arith, omega arith, record { is = omega arith; spelled = rw (bytes_three unit from) cc })

-- no unit's bytes begin those of another one
unit_once : (bytes : List ℕ) (u v : ℕ) (x y : List ℕ) → BeginsWithUnit bytes u x → BeginsWithUnit bytes v y → u ≡ v
unit_once bytes u v x y p q = elim (places bytes u x p) [
  | inl m ↦ elim (places bytes v y q) [ inl n ↦ omega arith | inr k ↦ elim k [ inl n ↦ absurd (omega arith) | inr n ↦ absurd (omega arith) ] ]
  | inr l ↦ elim l [
    | inl m ↦ elim (places bytes v y q) [ inl n ↦ absurd (omega arith) | inr k ↦ elim k [ inl n ↦ omega arith | inr n ↦ absurd (omega arith) ] ]
    | inr m ↦ elim (places bytes v y q) [ inl n ↦ absurd (omega arith) | inr k ↦ elim k [ inl n ↦ absurd (omega arith) | inr n ↦ omega arith ] ]
  ]
]

-- a unit takes one byte, two or three
unit_size : (unit : ℕ) → (0 < length (unit_bytes unit)) × (length (unit_bytes unit) ≤ 3)
unit_size unit = elim (cases_lt unit 0x800) [
  | inr low ↦ rw (bytes_three unit low) (omega arith, omega arith)
  | inl small ↦ elim (cases_eq unit 0) [
    | inl none ↦ rw (bytes_null unit none) (omega arith, omega arith)
    | inr some ↦ elim (cases_lt unit 0x80) [
      | inr low ↦ rw (bytes_middle unit low small) (omega arith, omega arith)
      | inl least ↦ rw (bytes_one unit (omega (arith, some)) least) (omega arith, omega arith)
    ]
  ]
]

pub java_size : (units : List ℕ) → length (java_bytes units) ≤ 3 * length units
java_size [] = omega arith
java_size (u ∷ us) = let rest = java_size us in omega (arith, length-append (unit_bytes u) (java_bytes us), (unit_size u).1)

pub java_code : IsCode unit_bytes
java_code = record {
  some = λ unit. (unit_size unit).0;
  once = λ u v x y small below same.
      (let u_is_v = unit_once (unit_bytes u ++ x) u v x y (record { is = small; spelled = refl }) (record { is = below; spelled = same }) in
      (u_is_v, append_cancel_left (unit_bytes u) x y (same ∙ ap (λ unit. unit_bytes unit ++ y) (sym u_is_v))));
}
