-- The lines of an input: what stands between its bytes 0A and behind the last of them, but for what has no bytes.
use Rattle.std.specs.Prelude.{◌≡◌, ◌≢◌, ℕ, ◌+◌, ◌-◌, ◌<◌, ◌≤◌, ◌==◌, nat_le, Bool, true, false, Option, None, Some, List, [], ◌∷◌, ◌++◌, length, take, filter, if◌then◌else◌}
use Rattle.std.specs.List.{All}
use Rattle.std.specs.Io.KnownBytes.{Consumes}

-- One more byte at the front of the first piece.
abbrev pub longer_first : ℕ → List (List ℕ) → List (List ℕ)
longer_first byte [] = []
longer_first byte (piece ∷ pieces) = (byte ∷ piece) ∷ pieces

-- The pieces between the bytes 0A, the first from the front on and the last to the end: one more than there are such bytes.
abbrev pub pieces : List ℕ → List (List ℕ)
pieces [] = [] ∷ []
pieces (byte ∷ bytes) = (if byte == 10 then [] ∷ pieces bytes else longer_first byte (pieces bytes))

-- Whether a piece is a line.
abbrev pub has_bytes : List ℕ → Bool
has_bytes [] = false
has_bytes (byte ∷ bytes) = true

-- The lines, where the bytes are the whole input.
unfoldable pub cut : List ℕ → List (List ℕ)
cut bytes = filter has_bytes (pieces bytes)

-- The lines that a byte 0A ends.
unfoldable pub finished : List ℕ → List (List ℕ)
finished bytes = filter has_bytes (take (length (pieces bytes) - 1) (pieces bytes))

-- The lines that are given of an input of which only so many bytes may be taken: all of them where there are no more, and else those that end
-- among these.
unfoldable pub lines_within : ℕ → List ℕ → List (List ℕ)
lines_within budget bytes = (if nat_le (length bytes) budget then cut bytes else finished (take budget bytes))

-- None of the bytes is 0A.
abbrev pub IsOnePiece : List ℕ → Type 0
IsOnePiece bytes = All (λ byte. byte ≢ 10) bytes

-- What is seen of the reader of lines: the line that the last call gave; whether the front of the line that comes was passed over, as it is too
-- long; the bytes behind it that were taken from the source and not yet given, as far as the budget goes; how many bytes were taken in all; how
-- many a line may have; how many may be taken; and whether the source has given its end, behind which nothing is read.
pub record Reading : Type 0 where
  pub line : Option (List ℕ)
  pub long : Bool
  pub pending : List ℕ
  pub taken : ℕ
  pub line_max : ℕ
  pub budget : ℕ
  pub ended : Bool

-- The reader stands at the start of an input.
abbrev pub starts : ℕ → ℕ → Reading
starts line_max budget = record { line = None; long = false; pending = []; taken = 0; line_max = line_max; budget = budget; ended = false }

-- The front that was passed over is none, or is too long for a line.
abbrev pub IsFront : Bool → ℕ → List ℕ → Type 0
IsFront false line_max front = front ≡ []
IsFront true line_max front = line_max < length front

-- The bytes that are not yet given, of which the first `room` lie within the budget: a front that was passed over, those that were taken, the one
-- that was taken past the budget, and those that are left to the source.
pub record IsAhead (reading : Reading) (left bytes : List ℕ) (room : ℕ) : Type 0 where
  pub front : List ℕ
  pub past : List ℕ
  pub all : bytes ≡ front ++ (reading.pending ++ (past ++ left))
  pub one_piece : IsOnePiece front
  pub long : IsFront reading.long reading.line_max front
  pub past_count : length past ≡ reading.taken - reading.budget
  pub within : room ≡ length front + (length reading.pending + (reading.budget - reading.taken))
  pub none : reading.ended ≡ true → bytes ≡ []

-- Some first bytes were given, and these lines stood in them.
pub record Gives (lines : List (List ℕ)) (bytes : List ℕ) (room : ℕ) (bytes' : List ℕ) (room' : ℕ) : Type 0 where
  pub given : List ℕ
  pub split : bytes ≡ given ++ bytes'
  pub counted : room ≡ length given + room'
  pub cut : lines_within room bytes ≡ lines ++ lines_within room' bytes'

-- The first bytes are these lines with their bytes 0A, and perhaps more of these: the lines that end in the first bytes, with others behind them, are these
-- and those that end in the others.
abbrev pub AreWhole : List (List ℕ) → List ℕ → List ℕ → Type 0
AreWhole lines bytes bytes' = (given : List ℕ) × (bytes ≡ given ++ bytes') × ((rest : List ℕ) → finished (given ++ rest) ≡ lines ++ finished rest)

-- Where the reader stands after that. Before the end of the source each line that was given ended at its byte 0A.
pub record Moves (lines : List (List ℕ)) (bytes : List ℕ) (room : ℕ) (reading' : Reading) (left' : List ℕ) : Type 0 where
  pub bytes' : List ℕ
  pub room' : ℕ
  pub gives : Gives lines bytes room bytes' room'
  pub ahead : IsAhead reading' left' bytes' room'
  pub whole : reading'.ended ≡ false → AreWhole lines bytes bytes'

-- What has come to the end of the source is there.
abbrev pub StaysEnded : Reading → Reading → Type 0
StaysEnded reading reading' = reading.ended ≡ true → reading'.ended ≡ true

-- No line was given, where the source tells what it has left.
abbrev pub Carries : Reading → Option (List ℕ) → Reading → Option (List ℕ) → Type 0
Carries reading None reading' left' = Unit {0}
Carries reading (Some left) reading' None = ⊥
Carries reading (Some left) reading' (Some left') =
    StaysEnded reading reading' × ((bytes : List ℕ) (room : ℕ) → IsAhead reading left bytes room → Moves [] bytes room reading' left')

-- How many bytes were taken from the source: those that it has left no more, where it tells what it has left.
pub record Takes (left left' : Option (List ℕ)) (taken taken' : ℕ) : Type 0 where
  pub took : List ℕ
  pub consumes : Consumes left left' took
  pub counted : taken' ≡ taken + length took

-- The source failed before its end: no line ends in the bytes that were taken and not given.
pub record IsOpen (reading : Reading) : Type 0 where
  pub one_piece : IsOnePiece reading.pending
  pub within : reading.taken ≤ reading.budget
  pub open_still : reading.ended ≡ false
