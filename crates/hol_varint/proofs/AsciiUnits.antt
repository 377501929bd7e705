-- Units of ASCII in a STRING: each is a byte of its own.
use Rattle.std.proofs.Common.{◌≡◌, ℕ, ◌+◌, ◌-◌, ◌^◌, ◌<◌, List, [], ◌∷◌, ◌++◌, length, min, take, get_or, set, refl, sym, ap, ◌∙◌, arith}
use Rattle.std.specs.Prelude.{All}
use Rattle.std.proofs.lemmas.List.{take_more, take_more_set}
use Rattle.std.proofs.lemmas.List.Elements.{All-head, All-tail}
use Rattle.hol_varint.specs.TextUnits.{units_bytes}
use Rattle.hol_varint.proofs.VarWriting.{one_group}

-- the bytes of such units are the units
pub ascii_bytes : (units : List ℕ) → All (λ unit. unit < 128) units → units_bytes units ≡ units
ascii_bytes [] are = refl
ascii_bytes (unit ∷ units) are =
    ap (λ (bytes : List ℕ). bytes ++ units_bytes units) (one_group unit (All-head (λ u. u < 128) unit units are)) ∙ ap (λ (bytes : List ℕ). unit ∷ bytes) (ascii_bytes units (All-tail (λ u. u < 128) unit units are))

-- so they are as many
pub ascii_len : (units : List ℕ) → All (λ unit. unit < 128) units → length units < 2 ^ 64 → length units ≡ min (length (units_bytes units)) (2 ^ 64 - 1)
ascii_len units are few = let long = ap (λ (bytes : List ℕ). length bytes) (ascii_bytes units are) in omega arith

-- one more is written
pub written_more : (bytes units : List ℕ) (index : ℕ) → length bytes ≡ length units → index < length units → take index bytes ≡ take index units
    → take (index + 1) (set bytes index (get_or units index 0)) ≡ take (index + 1) units
written_more bytes units index long inside so_far =
    take_more_set bytes index (get_or units index 0) (omega arith) ∙ ap (λ (xs : List ℕ). xs ++ get_or units index 0 ∷ []) so_far ∙ sym (take_more units index 0 inside)
