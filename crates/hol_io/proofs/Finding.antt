-- The first byte 0A behind a place, before which there is none.
use Rattle.std.proofs.Common.{◌≡◌, ◌≢◌, ℕ, ◌+◌, ◌<◌, ◌≤◌, true, Option, Some, None, List, ◌++◌, length, take, drop, get_or, slice_index, MatchOption, ap, sym, ◌∙◌, subst, arith, eq-eqb}
use Rattle.std.proofs.Math.Seq.{take-add}
use Rattle.std.proofs.lemmas.Bool.Decides.{nat_tests}
use Rattle.std.proofs.lemmas.List.{take_all, get_or-take, get_or-drop, length-take, length-drop, take-append-drop}
use Rattle.std.proofs.lemmas.List.Elements.{All-append, All-from_get_or}
use Rattle.memchr.specs.Find.{Nowhere, Passes, IsFirstByte, is_byte}
use Rattle.hol_io.specs.Lines.{IsOnePiece}

-- Where no place of the front passes the test, the front has no byte 0A.
one_from_nowhere : (xs : List ℕ) (n : ℕ) → Nowhere (Passes (is_byte 10) xs) 0 n → IsOnePiece (take n xs)
one_from_nowhere xs n none =
    All-from_get_or (λ b. b ≢ 10) (take n xs) 0 (λ i low e.
    let below : i < n = omega (arith, low, length-take n xs) in
    none i (omega arith) below (eq-eqb (get_or xs i 0) 10 (sym (get_or-take n xs i 0 below) ∙ e)))

-- A byte that passes the test is 0A.
is_end : (b : ℕ) → is_byte 10 b ≡ true → b ≡ 10
is_end b passes = grind (arith, nat_tests)

-- The first byte 0A behind a place is the first of all, where there is none before it.
pub first_behind : (bytes lent : List ℕ) (from : ℕ) (found : Option ℕ) → from ≤ length bytes → lent ≡ drop from bytes → IsOnePiece (take from bytes) → IsFirstByte (is_byte 10) lent found → MatchOption found (IsOnePiece bytes) (λ count. (from + count < length bytes) × (slice_index bytes (from + count) ≡ 10) × IsOnePiece (take (from + count) bytes))
first_behind bytes lent from None inside is one first =
    let rest : IsOnePiece (drop from bytes) =
    subst IsOnePiece (take_all (length lent) lent (omega arith) ∙ is) (one_from_nowhere lent (length lent) first) in
    subst IsOnePiece (take-append-drop from bytes) (All-append (λ b. b ≢ 10) (take from bytes) (drop from bytes) one rest)
first_behind bytes lent from (Some count) inside is one first = (
  omega (arith, first.0.high, ap length is, length-drop from bytes),
  sym (get_or-drop from bytes count 0) ∙ sym (ap (λ t. get_or t count 0) is) ∙ is_end (get_or lent count 0) first.1,
  subst IsOnePiece (sym (take-add from count bytes ∙ ap (λ t. take from bytes ++ take count t) (sym is)))
      (All-append (λ b. b ≢ 10) (take from bytes) (take count lent) one (one_from_nowhere lent count first.0.before)),
)
