-- Bytes that are one code of a unit after another, read from their front.
use Rattle.std.proofs.Common.{◌≡◌, ℕ, ◌^◌, ◌<◌, ◌≤◌, List, [], ◌∷◌, ◌++◌, length, drop, get_or, refl, sym, ◌∙◌, ap, arith, append_assoc}
use Rattle.std.specs.List.{flat_map}
use Rattle.std.proofs.lemmas.List.{get_or_default, length-drop, length-append, flat_map_more}
use Rattle.std.proofs.lemmas.List.Elements.{All-head, All-tail, All-push}
use Rattle.hol_varint.specs.TextUnits.{AreUnits}

-- numbers that fit in 16 bits, by place, are units
pub are_units : (units : List ℕ) → ((i : ℕ) → get_or units i 0 < 2 ^ 16) → AreUnits units
are_units units fits = λ k d within. rw (get_or_default units k d 0 within) (fits k)

-- no code begins another one, and none is empty
pub record IsCode (code : ℕ → List ℕ) : Type 0 where
  pub some : (u : ℕ) → 0 < length (code u)
  pub once : (u v : ℕ) (x y : List ℕ) → u < 2 ^ 16 → v < 2 ^ 16 → code u ++ x ≡ code v ++ y → (u ≡ v) × (x ≡ y)

-- the bytes are the codes of the units
abbrev pub AreCodes : (ℕ → List ℕ) → List ℕ → List ℕ → Type 0
AreCodes code bytes units = AreUnits units × (bytes ≡ flat_map code units)

-- the bytes up to place are the codes of the units so far, and where all of them are codes, those from place on are
pub record ReadSoFar (code : ℕ → List ℕ) (bytes : List ℕ) (place : ℕ) (units : List ℕ) : Type 0 where
  pub within : place ≤ length bytes
  pub are : AreUnits units
  pub spelled : bytes ≡ flat_map code units ++ drop place bytes
  pub only : (all : List ℕ) → AreCodes code bytes all → (more : List ℕ) × AreCodes code (drop place bytes) more

module _ (code : ℕ → List ℕ) (is : IsCode code) where
  pub codes_once : (xs ys : List ℕ) → AreUnits xs → AreUnits ys → flat_map code xs ≡ flat_map code ys → xs ≡ ys
  codes_once [] [] p q e = refl
  codes_once [] (y ∷ ys) p q e = absurd (omega (arith, is.some y, ap length e, length-append (code y) (flat_map code ys)))
  codes_once (x ∷ xs) [] p q e = absurd (omega (arith, is.some x, ap length e, length-append (code x) (flat_map code xs)))
  codes_once (x ∷ xs) (y ∷ ys) p q e =
      let same = is.once x y (flat_map code xs) (flat_map code ys) (All-head (λ unit. unit < 2 ^ 16) x xs p) (All-head (λ unit. unit < 2 ^ 16) y ys q) e in
      let rest = codes_once xs ys (All-tail (λ unit. unit < 2 ^ 16) x xs p) (All-tail (λ unit. unit < 2 ^ 16) y ys q) same.1 in
      let head = same.0 in
      cc

  -- what follows one code in bytes that are all codes
  after_code : (bytes : List ℕ) (unit : ℕ) (behind all : List ℕ) → 0 < length bytes → unit < 2 ^ 16 → bytes ≡ code unit ++ behind → AreCodes code bytes all → (more : List ℕ) × AreCodes code behind more
  after_code bytes unit behind [] within small begins are = absurd (omega (arith, within, ap length are.1))
  after_code bytes unit behind (x ∷ xs) within small begins are =
      let same = is.once unit x behind (flat_map code xs) small (All-head (λ unit. unit < 2 ^ 16) x xs are.0) (sym begins ∙ are.1) in
      (xs, (All-tail (λ unit. unit < 2 ^ 16) x xs are.0, same.1))

  pub read_more : (bytes : List ℕ) (place : ℕ) (units : List ℕ) (unit next : ℕ) → ReadSoFar code bytes place units → place < length bytes → next ≤ length bytes → unit < 2 ^ 16 → drop place bytes ≡ code unit ++ drop next bytes → ReadSoFar code bytes next (units ++ unit ∷ [])
  read_more bytes place units unit next so_far inside within small begins = record {
    within = within;
    are = All-push (λ unit. unit < 2 ^ 16) units unit so_far.are small;
    spelled = so_far.spelled ∙ ap (λ bs. flat_map code units ++ bs) begins ∙ sym (append_assoc (flat_map code units) (code unit) (drop next bytes))
        ∙ ap (λ bs. bs ++ drop next bytes) (flat_map_more code [] units unit);
    only = λ all are. (let more = so_far.only all are in after_code (drop place bytes) unit (drop next bytes) more.0 (omega (arith, length-drop place bytes)) small begins more.1);
  }

-- no code begins the bytes, and there are some, so they are no codes
none_from_front : (code : ℕ → List ℕ) (bytes more : List ℕ) → 0 < length bytes → ((unit : ℕ) (behind : List ℕ) → unit < 2 ^ 16 → bytes ≡ code unit ++ behind → ⊥) → AreCodes code bytes more → ⊥
none_from_front code bytes [] inside none codes = omega (arith, inside, ap length codes.1)
none_from_front code bytes (x ∷ xs) inside none codes = none x (flat_map code xs) (All-head (λ unit. unit < 2 ^ 16) x xs codes.0) codes.1

-- no code begins the bytes from place on, so the bytes are no codes
pub read_refused : (code : ℕ → List ℕ) (bytes : List ℕ) (place : ℕ) (units : List ℕ) → ReadSoFar code bytes place units → place < length bytes → ((unit : ℕ) (behind : List ℕ) → unit < 2 ^ 16 → drop place bytes ≡ code unit ++ behind → ⊥) → (all : List ℕ) → AreCodes code bytes all → ⊥
read_refused code bytes place units so_far inside none all are =
    let more = so_far.only all are in
    none_from_front code (drop place bytes) more.0 (omega (arith, length-drop place bytes)) none more.1
