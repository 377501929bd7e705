-- How an input is cut: at its first byte 0A, at its end, and where the budget ends.
use Rattle.std.proofs.Common.{◌≡◌, ◌≢◌, ℕ, suc, ◌-◌, ◌<◌, ◌≤◌, ◌==◌, Bool, true, false, List, [], ◌∷◌, ◌++◌, length, take, filter, refl, ap, ◌∙◌, arith, if◌then◌else◌}
use Rattle.std.proofs.lemmas.List.Elements.{All-head, All-tail}
use Rattle.std.proofs.lemmas.Bool.Decides.{nat_tests}
use Rattle.hol_io.specs.Lines.{longer_first, pieces, has_bytes, cut, finished, lines_within, IsOnePiece}

-- A line of its own, if it has bytes.
abbrev pub lines_of : List ℕ → List (List ℕ)
lines_of piece = filter has_bytes (piece ∷ [])

-- A byte that is not 0A goes to the first piece.
pieces_more : (byte : ℕ) (bytes : List ℕ) → byte ≢ 10 → pieces (byte ∷ bytes) ≡ longer_first byte (pieces bytes)
pieces_more byte bytes other = grind (arith, nat_tests)

-- What has no byte 0A is one piece.
pub pieces_one : (piece : List ℕ) → IsOnePiece piece → pieces piece ≡ piece ∷ []
pieces_one [] one = refl
pieces_one (byte ∷ bytes) one =
    pieces_more byte bytes (All-head (λ b. b ≢ 10) byte bytes one) ∙ ap (longer_first byte) (pieces_one bytes (All-tail (λ b. b ≢ 10) byte bytes one))

-- A piece, and behind its byte 0A the others.
pub pieces_first : (piece rest : List ℕ) → IsOnePiece piece → pieces (piece ++ 10 ∷ rest) ≡ piece ∷ pieces rest
pieces_first [] rest one = refl
pieces_first (byte ∷ bytes) rest one =
    pieces_more byte (bytes ++ 10 ∷ rest) (All-head (λ b. b ≢ 10) byte bytes one) ∙ ap (longer_first byte) (pieces_first bytes rest (All-tail (λ b. b ≢ 10) byte bytes one))

-- A first piece that gets longer stays one.
longer_some : (byte : ℕ) (ps : List (List ℕ)) → length (longer_first byte ps) ≡ length ps
longer_some byte [] = refl
longer_some byte (p ∷ ps) = refl

-- Either way there is a piece.
some_either : (test : Bool) (ps qs : List (List ℕ)) → 0 < length ps → 0 < length qs → 0 < length (if test then ps else qs)
some_either true ps qs p q = p
some_either false ps qs p q = q

-- There is a piece.
pub pieces_some : (bytes : List ℕ) → 0 < length (pieces bytes)
pieces_some [] = omega arith
pieces_some (byte ∷ bytes) =
    some_either (byte == 10) ([] ∷ pieces bytes) (longer_first byte (pieces bytes)) (omega arith) (omega (arith, longer_some byte (pieces bytes), pieces_some bytes))

-- All but the last of a list that has two items or more.
all_but_last : (p : List ℕ) (ps : List (List ℕ)) → 0 < length ps → take (length (p ∷ ps) - 1) (p ∷ ps) ≡ p ∷ take (length ps - 1) ps
all_but_last p ps some =
    let e : length (p ∷ ps) - 1 ≡ suc (length ps - 1) = omega arith in rw e

-- The lines of a piece and of those behind it.
filter_first : (p : List ℕ) (ps : List (List ℕ)) → filter has_bytes (p ∷ ps) ≡ lines_of p ++ filter has_bytes ps
filter_first [] ps = refl
filter_first (b ∷ p) ps = refl

-- The whole input is cut at its first byte 0A.
pub cut_first : (piece rest : List ℕ) → IsOnePiece piece → cut (piece ++ 10 ∷ rest) ≡ lines_of piece ++ cut rest
unfolding cut
cut_first piece rest one = ap (filter has_bytes) (pieces_first piece rest one) ∙ filter_first piece (pieces rest)

-- The whole input is one piece.
pub cut_one : (piece : List ℕ) → IsOnePiece piece → cut piece ≡ lines_of piece
unfolding cut
cut_one piece one = ap (filter has_bytes) (pieces_one piece one)

-- Finished lines are cut at the first byte 0A.
pub finished_first : (piece rest : List ℕ) → IsOnePiece piece → finished (piece ++ 10 ∷ rest) ≡ lines_of piece ++ finished rest
unfolding finished
finished_first piece rest one =
    ap (λ ps. filter has_bytes (take (length ps - 1) ps)) (pieces_first piece rest one)
    ∙ ap (filter has_bytes) (all_but_last piece (pieces rest) (pieces_some rest)) ∙ filter_first piece (take (length (pieces rest) - 1) (pieces rest))

-- Without a byte 0A no line is finished.
pub finished_none : (piece : List ℕ) → IsOnePiece piece → finished piece ≡ []
unfolding finished
finished_none piece one = ap (λ ps. filter has_bytes (take (length ps - 1) ps)) (pieces_one piece one)

-- With no byte past the budget the lines are those of the whole input.
pub within_all : (budget : ℕ) (bytes : List ℕ) → length bytes ≤ budget → lines_within budget bytes ≡ cut bytes
unfolding lines_within
within_all budget bytes few = grind (arith, nat_tests)

-- With a byte past the budget they are the finished ones before it.
pub within_some : (budget : ℕ) (bytes : List ℕ) → budget < length bytes → lines_within budget bytes ≡ finished (take budget bytes)
unfolding lines_within
within_some budget bytes more = grind (arith, nat_tests)
