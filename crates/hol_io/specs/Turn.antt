-- What one call of the reader of lines tells.
use Rattle.std.specs.Prelude.{◌≡◌, ℕ, ◌+◌, ◌-◌, ◌<◌, ◌≤◌, ◌⊎◌, true, false, List, [], ◌∷◌, length, take, slice_index, IsSome, Option, None, Some, Result, Ok, Err}
use Rattle.std.specs.Io.KnownBytes.{IsAtEnd}
use Rattle.hol_io.specs.Lines.{Reading, IsAhead, Moves, StaysEnded, lines_within, IsOnePiece}
use Rattle.hol_io.specs.declared.lines.Piece.{Piece}
use Rattle.hol_io.specs.declared.lines.Piece.TheVariants.{Ended, Last, PastBudget}
use Rattle.hol_io.specs.declared.lines.LineFault.{LineFault}
use Rattle.hol_io.specs.declared.lines.Turn as declared
use Rattle.hol_io.specs.declared.lines.Turn.TheVariants.{Line, Long, End, Over}

-- The lines that a turn gave: one that it lends, one that is too long, or none. It is the end where no line is left and no byte is past the
-- budget, and over where no line is left and a byte is.
abbrev pub IsTurn : Reading → List ℕ → ℕ → List (List ℕ) → Result declared.Turn LineFault → Type 0
IsTurn reading' bytes room lines (Ok Line) =
    (line : List ℕ) × (reading'.line ≡ Some line) × (lines ≡ line ∷ []) × (length line ≤ reading'.line_max)
IsTurn reading' bytes room lines (Ok Long) = (line : List ℕ) × (lines ≡ line ∷ []) × (reading'.line_max < length line)
IsTurn reading' bytes room lines (Ok End) = (lines ≡ []) × (lines_within room bytes ≡ []) × (length bytes ≤ room)
IsTurn reading' bytes room lines (Ok Over) = (lines ≡ []) × (lines_within room bytes ≡ []) × (room < length bytes)
IsTurn reading' bytes room lines (Err fault) = lines ≡ []

-- Where the source tells what it has left: of what lies ahead the next line is given, or it is the end, or over, and the rest lies ahead.
abbrev pub Tells : Reading → Option (List ℕ) → Reading → Option (List ℕ) → Result declared.Turn LineFault → Type 0
Tells reading None reading' left' result = Unit {0}
Tells reading (Some left) reading' None result = ⊥
Tells reading (Some left) reading' (Some left') result =
    StaysEnded reading reading'
    × ((bytes : List ℕ) (room : ℕ) → IsAhead reading left bytes room → (lines : List (List ℕ)) × Moves lines bytes room reading' left' × IsTurn reading' bytes room lines result)

-- Whether the piece whose bytes behind the front are these is no line, a line that is lent, or one that is too long.
abbrev pub IsPieceTurn : Reading → Reading → List ℕ → Option declared.Turn → Type 0
IsPieceTurn reading reading' piece None = (reading.long ≡ false) × (length piece ≡ 0) × (reading'.line ≡ None)
IsPieceTurn reading reading' piece (Some Line) =
    (reading.long ≡ false) × (0 < length piece) × (length piece ≤ reading.line_max) × (reading'.line ≡ Some piece)
IsPieceTurn reading reading' piece (Some Long) = ((reading.long ≡ true) ⊎ (reading.line_max < length piece)) × (reading'.line ≡ None)
IsPieceTurn reading reading' piece (Some End) = ⊥
IsPieceTurn reading reading' piece (Some Over) = ⊥

-- What a piece is that was found: it ends at a byte 0A within the budget, or it is the last of the input, or a byte past the budget came.
abbrev pub IsPiece : Reading → Option (List ℕ) → Piece → Type 0
IsPiece reading left (Ended count) = (count < length reading.pending) × (slice_index reading.pending count ≡ 10) × IsOnePiece (take count reading.pending)
IsPiece reading left Last = IsOnePiece reading.pending × (reading.taken ≤ reading.budget) × IsAtEnd left
IsPiece reading left PastBudget = IsOnePiece reading.pending × (reading.budget < reading.taken)

-- How many bytes lie before the budget's end: those that are pending, and those that may be taken.
abbrev pub bytes_to_go : Reading → ℕ
bytes_to_go reading = length reading.pending + (reading.budget - reading.taken)

-- The limits are set once.
abbrev pub HasLimits : Reading → Reading → Type 0
HasLimits reading reading' = (reading'.line_max ≡ reading.line_max) × (reading'.budget ≡ reading.budget)

-- A line is lent exactly after the turn that is a line.
abbrev pub LendsLine : Reading → Result declared.Turn LineFault → Type 0
LendsLine reading' (Ok Line) = IsSome reading'.line
LendsLine reading' (Ok Long) = reading'.line ≡ None
LendsLine reading' (Ok End) = reading'.line ≡ None
LendsLine reading' (Ok Over) = reading'.line ≡ None
LendsLine reading' (Err fault) = reading'.line ≡ None

-- At the end the source has nothing left, and no byte past the budget was taken; where it is over, one was.
abbrev pub EndsInput : Reading → Option (List ℕ) → Result declared.Turn LineFault → Type 0
EndsInput reading' left (Ok End) = IsAtEnd left × (reading'.taken ≤ reading'.budget)
EndsInput reading' left (Ok Over) = reading'.budget < reading'.taken
EndsInput reading' left (Ok Line) = Unit {0}
EndsInput reading' left (Ok Long) = Unit {0}
EndsInput reading' left (Err fault) = Unit {0}

-- Where the source has given its end, it has nothing left, and no byte past the budget was taken.
abbrev pub IsEnded : Reading → Option (List ℕ) → Type 0
IsEnded reading left = reading.ended ≡ true → IsAtEnd left × (reading.taken ≤ reading.budget)
