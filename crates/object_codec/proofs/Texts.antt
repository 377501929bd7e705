-- Lemmas on bytes that are those of a STRING.
use Rattle.std.proofs.Common.{◌≡◌, ℕ, suc, ◌+◌, ◌^◌, ◌<◌, List, [], ◌∷◌, ◌++◌, length, drop, get_or, sym, ap, ◌∙◌, subst, arith}
use Rattle.std.proofs.Math.Seq.{drop-cons}
use Rattle.hol_varint.specs.Varint.{varint_bytes, VarStandsBelow}
use Rattle.hol_varint.proofs.Runs.{ReadSoFar, read_more}
use Rattle.hol_varint.proofs.VarWriting.{one_group, begins_stands, stands_begins, varint_code}

-- a byte below 128 is a unit
pub one_byte : (bytes : List ℕ) (place : ℕ) → place < length bytes → get_or bytes place 0 < 128 → VarStandsBelow (2 ^ 16) bytes place (get_or bytes place 0) (place + 1)
one_byte bytes place inside small =
    let byte = get_or bytes place 0 in
    let one : varint_bytes byte ≡ byte ∷ [] = one_group byte small in
    let begins : drop place bytes ≡ varint_bytes byte ++ drop (suc place) bytes =
    drop-cons bytes place 0 inside ∙ ap (λ bs. bs ++ drop (suc place) bytes) (sym one) in
    subst (λ n. VarStandsBelow (2 ^ 16) bytes place byte (place + n)) (ap length one)
    (begins_stands (2 ^ 16) bytes place byte (drop (suc place) bytes) (omega arith) begins (omega arith))

-- a unit more is read
pub one_more : (bytes : List ℕ) (place next : ℕ) → place < length bytes → (units : List ℕ) × ReadSoFar varint_bytes bytes place units
    → (unit : ℕ) × VarStandsBelow (2 ^ 16) bytes place unit next → (units : List ℕ) × ReadSoFar varint_bytes bytes next units
one_more bytes place next inside so_far there =
    let stands = there.1 in (
      so_far.0 ++ there.0 ∷ [],
      read_more varint_bytes varint_code bytes place so_far.0 there.0 next so_far.1 inside stands.within stands.below (stands_begins (2 ^ 16) bytes place there.0 next stands),
    )
