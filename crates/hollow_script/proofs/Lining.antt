-- What a turn of the reader of lines gives of an input, and what its end and its failure say.
use Rattle.std.proofs.Common.{append_assoc, ◌≡◌, ◌≢◌, ◌<◌, ◌≤◌, ◌==◌, ◌-◌, inl, inr, ℕ, suc, Bool, true, false, List, [], ◌∷◌, ◌++◌, length, take, drop, filter, if◌then◌else◌, Option, Some, None, Result, Ok, Err, refl, sym, ap, ◌∙◌, subst, arith, append-nil, length-append}
use Rattle.std.proofs.lemmas.Bool.{cases_lt}
use Rattle.std.proofs.lemmas.Bool.Decides.{nat_tests}
use Rattle.std.proofs.lemmas.List.{nil_from_length, take-append-drop}
use Rattle.std.proofs.lemmas.List.Elements.{All-append}
use Rattle.std.specs.Io.KnownBytes.{Consumes}
use Rattle.hol_io.proofs.Cutting.{finished_none}
use Rattle.hol_io.proofs.Told.{moves_then}
use Rattle.hol_io.specs.Lines.{Carries, Gives, IsOpen, Moves, Reading, IsAhead, cut, finished, has_bytes, lines_within, longer_first, pieces}
use Rattle.hol_io.specs.Turn.{HasLimits, IsTurn, Tells}
use Rattle.hol_io.specs.declared.lines.LineFault.{LineFault}
use Rattle.hol_io.specs.declared.lines.Turn as declared
use Rattle.hol_io.specs.declared.lines.Turn.TheVariants.{Line, Long, End, Over}
use Rattle.hollow_machine.specs.Script.{longest_line}
use Rattle.hollow_script.specs.Scripted.{AreTaken, HasGiven, TurnsNext, longest_input}

-- nothing was given
gives_nothing : (bytes : List ℕ) (room : ℕ) → Gives [] bytes room bytes room
gives_nothing bytes room = record { given = []; split = refl; counted = omega arith; cut = refl }

-- with no byte past the budget the lines are those of the whole input
within_all : (budget : ℕ) (bytes : List ℕ) → length bytes ≤ budget → lines_within budget bytes ≡ cut bytes
unfolding lines_within
within_all budget bytes few = grind (arith, nat_tests)

-- with one they are those that end before it
within_some : (budget : ℕ) (bytes : List ℕ) → budget < length bytes → lines_within budget bytes ≡ finished (take budget bytes)
unfolding lines_within
within_some budget bytes more = grind (arith, nat_tests)

-- ---- the lines that end are the first lines

-- there is a piece
some_pieces : (bytes : List ℕ) → (first : List ℕ) × (rest : List (List ℕ)) × (pieces bytes ≡ first ∷ rest)
some_pieces [] = ([], [], refl)
some_pieces (byte ∷ bytes) = either (byte == 10) (some_pieces bytes)
  where
    either : (test : Bool) → ((first : List ℕ) × (rest : List (List ℕ)) × (pieces bytes ≡ first ∷ rest)) →
        (first : List ℕ) × (rest : List (List ℕ)) × ((if test then [] ∷ pieces bytes else longer_first byte (pieces bytes)) ≡ first ∷ rest)
    either true some = ([], pieces bytes, refl)
    either false (first, rest, is) = (byte ∷ first, rest, ap (longer_first byte) is)

-- all but the last of some pieces
abbrev but_last : List (List ℕ) → List (List ℕ)
but_last [] = []
but_last (p ∷ []) = []
but_last (p ∷ q ∷ ps) = p ∷ but_last (q ∷ ps)

all_but_last : (p : List ℕ) (ps : List (List ℕ)) → 0 < length ps → take (length (p ∷ ps) - 1) (p ∷ ps) ≡ p ∷ take (length ps - 1) ps
all_but_last p ps some =
    let e : length (p ∷ ps) - 1 ≡ suc (length ps - 1) = omega arith in rw e

taken_but_last : (ps : List (List ℕ)) → take (length ps - 1) ps ≡ but_last ps
taken_but_last [] = refl
taken_but_last (p ∷ []) = refl
taken_but_last (p ∷ q ∷ ps) = all_but_last p (q ∷ ps) (omega arith) ∙ ap (λ qs. p ∷ qs) (taken_but_last (q ∷ ps))

-- the pieces of some bytes, but for the last, are the first pieces of these with more behind them
abbrev FrontOf : List (List ℕ) → List (List ℕ) → Type 0
FrontOf front all = (rest : List (List ℕ)) × (all ≡ but_last front ++ rest)

longer_front : (byte : ℕ) (first : List ℕ) (others all : List (List ℕ)) → FrontOf (first ∷ others) all → FrontOf (longer_first byte (first ∷ others)) (longer_first byte all)
longer_front byte first [] all (rest, is) = (longer_first byte all, refl)
longer_front byte first (second ∷ others) all (rest, is) = (rest, ap (longer_first byte) is)

front_more : (byte : ℕ) (bytes more : List ℕ) → FrontOf (pieces bytes) (pieces (bytes ++ more)) → FrontOf (pieces (byte ∷ bytes)) (pieces (byte ∷ (bytes ++ more)))
front_more byte bytes more is = either (byte == 10)
  where
    some : (first : List ℕ) × (others : List (List ℕ)) × (pieces bytes ≡ first ∷ others)
    some = some_pieces bytes

    front : FrontOf (some.0 ∷ some.1) (pieces (bytes ++ more))
    front = subst (λ (ps : List (List ℕ)). FrontOf ps (pieces (bytes ++ more))) some.2 is

    over : FrontOf ([] ∷ some.0 ∷ some.1) ([] ∷ pieces (bytes ++ more))
    over = (front.0, ap (λ ps. [] ∷ ps) front.1)

    either : (test : Bool) → FrontOf (if test then [] ∷ pieces bytes else longer_first byte (pieces bytes)) (if test then [] ∷ pieces (bytes ++ more) else longer_first byte (pieces (bytes ++ more)))
    either true = subst (λ (ps : List (List ℕ)). FrontOf ([] ∷ ps) ([] ∷ pieces (bytes ++ more))) (sym some.2) over
    either false =
        subst (λ (ps : List (List ℕ)). FrontOf (longer_first byte ps) (longer_first byte (pieces (bytes ++ more)))) (sym some.2)
        (longer_front byte some.0 some.1 (pieces (bytes ++ more)) front)

front_pieces : (bytes more : List ℕ) → FrontOf (pieces bytes) (pieces (bytes ++ more))
front_pieces [] more = (pieces more, refl)
front_pieces (byte ∷ bytes) more = front_more byte bytes more (front_pieces bytes more)

filter_front : (ps qs : List (List ℕ)) → filter has_bytes (ps ++ qs) ≡ filter has_bytes ps ++ filter has_bytes qs
filter_front [] qs = refl
filter_front ([] ∷ ps) qs = filter_front ps qs
filter_front ((byte ∷ p) ∷ ps) qs = ap (λ t. (byte ∷ p) ∷ t) (filter_front ps qs)

pub finished_front : (bytes more : List ℕ) → (rest : List (List ℕ)) × (cut (bytes ++ more) ≡ finished bytes ++ rest)
unfolding cut finished
finished_front bytes more =
    let front = front_pieces bytes more in (
      filter has_bytes front.0,
      ap (filter has_bytes) front.1 ∙ filter_front (but_last (pieces bytes)) front.0 ∙ ap (λ ps. filter has_bytes ps ++ filter has_bytes front.0) (sym (taken_but_last (pieces bytes))),
    )

-- So are those that end within the bytes that an input may have.
pub finished_within : (budget : ℕ) (bytes : List ℕ) → (rest : List (List ℕ)) × (cut bytes ≡ finished (take budget bytes) ++ rest)
finished_within budget bytes =
    subst (λ (bs : List ℕ). (rest : List (List ℕ)) × (cut bs ≡ finished (take budget bytes) ++ rest)) (take-append-drop budget bytes) (finished_front (take budget bytes) (drop budget bytes))

-- the lines within a budget are the first lines
within_front : (budget : ℕ) (bytes : List ℕ) → (rest : List (List ℕ)) × (cut bytes ≡ lines_within budget bytes ++ rest)
within_front budget bytes =
    elim (cases_lt budget (length bytes)) [
      | inl more ↦
          (let front = finished_within budget bytes in
          (front.0, front.1 ∙ ap (λ ls. ls ++ front.0) (sym (within_some budget bytes more))))
      | inr few ↦ ([], sym (within_all budget bytes few) ∙ sym (append-nil (lines_within budget bytes)))
    ]

-- The lines that were given are the first of the input.
pub given_front : (bytes : List ℕ) (left : Option (List ℕ)) (reading : Reading) (lines : List (List ℕ)) → HasGiven bytes left reading lines → (ahead : List (List ℕ)) × (cut bytes ≡ lines ++ ahead)
given_front bytes None reading lines has = absurd has
given_front bytes (Some left) reading lines (moved, most) =
    let front = within_front longest_input bytes in
    let rest = lines_within moved.room' moved.bytes' in
    (rest ++ front.0, front.1 ∙ ap (λ ls. ls ++ front.0) moved.gives.cut ∙ append_assoc lines rest front.0)

-- the reader begins with all of the input ahead
pub begins : (bytes : List ℕ) (reading : Reading) → reading.line_max ≡ longest_line → IsAhead reading bytes bytes longest_input → HasGiven bytes (Some bytes) reading []
begins bytes reading most ahead =
    (record { bytes' = bytes; room' = longest_input; gives = gives_nothing bytes longest_input; ahead = ahead; whole = λ still. ([], refl, (λ rest. refl)) }, most)

-- The lines that end in what was taken are the first of the input.
pub taken_front : (bytes : List ℕ) (left : Option (List ℕ)) (took : List ℕ) → Consumes (Some bytes) left took → (ahead : List (List ℕ)) × (cut bytes ≡ finished took ++ ahead)
taken_front bytes None took consumes = absurd consumes
taken_front bytes (Some rest) took consumes = let front = finished_front took rest in (front.0, ap cut consumes ∙ front.1)

-- where the source failed before its end, the lines that were given are those that end in what was taken
given_taken : (bytes : List ℕ) (left : Option (List ℕ)) (reading : Reading) (lines : List (List ℕ)) → HasGiven bytes left reading lines → IsOpen reading → AreTaken bytes left lines
given_taken bytes None reading lines has is_open = absurd has
given_taken bytes (Some left) reading lines (moved, most) is_open =
    let (front, split, whole) = moved.whole is_open.open_still in
    let ahead = moved.ahead in
    let rest = ahead.front ++ reading.pending in
    let none : ahead.past ≡ [] = nil_from_length ahead.past (omega (arith, ahead.past_count, is_open.within)) in
    let behind : moved.bytes' ≡ rest ++ left =
    ahead.all ∙ ap (λ t. ahead.front ++ (reading.pending ++ (t ++ left))) none ∙ sym (append_assoc ahead.front reading.pending left) in
    let one = All-append (λ b. b ≢ 10) ahead.front reading.pending ahead.one_piece is_open.one_piece in (
      front ++ rest,
      split ∙ ap (λ t. front ++ t) behind ∙ sym (append_assoc front rest left),
      sym (whole rest ∙ ap (λ ls. lines ++ ls) (finished_none rest one) ∙ append-nil lines),
    )

module _ (bytes : List ℕ) (given : List (List ℕ)) (r r' : Reading) where
  -- the lines of a turn, behind those that were given
  turn_gives : (left left' : Option (List ℕ)) (result : Result declared.Turn LineFault) → HasGiven bytes left r given → HasLimits r r' → Tells r left r' left' result →
      (rest : List ℕ) × (room : ℕ) × (lines : List (List ℕ)) × HasGiven bytes left' r' (given ++ lines) × IsTurn r' rest room lines result
      × (lines_within longest_input bytes ≡ given ++ lines_within room rest) × (length rest ≤ room → length bytes ≤ longest_input)
      × (room < length rest → longest_input < length bytes)
  turn_gives None left' result has limits tells = absurd has
  turn_gives (Some left) None result has limits tells = absurd tells
  turn_gives (Some left) (Some left') result (moved, most) limits tells =
      let turn = tells.1 moved.bytes' moved.room' moved.ahead in (
        moved.bytes',
        moved.room',
        turn.0,
        (moves_then tells.0 moved turn.1, limits.0 ∙ most),
        turn.2,
        moved.gives.cut,
        (λ fits. omega (arith, fits, moved.gives.counted, ap length moved.gives.split, length-append moved.gives.given moved.bytes')),
        (λ more. omega (arith, more, moved.gives.counted, ap length moved.gives.split, length-append moved.gives.given moved.bytes')),
      )

  -- where no turn comes no line is given
  pub fault_given : (left left' : Option (List ℕ)) (fault : LineFault) → HasGiven bytes left r given → HasLimits r r' → Tells r left r' left' (Err fault) → HasGiven bytes left' r' given
  fault_given left left' fault has limits tells =
      let turn = turn_gives left left' (Err fault) has limits tells in subst (HasGiven bytes left' r') (ap (λ ls. given ++ ls) turn.4 ∙ append-nil given) turn.3

  -- where the source fails all lines that end in what was taken were given
  pub fault_taken : (left left' : Option (List ℕ)) (fault : LineFault) → HasGiven bytes left r given → HasLimits r r' → Tells r left r' left' (Err fault) → IsOpen r' → AreTaken bytes left' given
  fault_taken left left' fault has limits tells is_open = given_taken bytes left' r' given (fault_given left left' fault has limits tells) is_open

  -- the longest line is set once
  still_most : (left : Option (List ℕ)) → HasGiven bytes left r given → HasLimits r r' → r'.line_max ≡ longest_line
  still_most None has limits = absurd has
  still_most (Some left) has limits = limits.0 ∙ has.1

  -- a call that gave nothing
  pub carried : (left left' : Option (List ℕ)) → HasGiven bytes left r given → HasLimits r r' → Carries r left r' left' → HasGiven bytes left' r' given
  carried None left' has limits carries = absurd has
  carried (Some left) None has limits carries = absurd carries
  carried (Some left) (Some left') (moved, most) limits carries =
      let more = carries.1 moved.bytes' moved.room' moved.ahead in
      (subst (λ ls. Moves ls bytes longest_input r' left') (append-nil given) (moves_then carries.0 moved more), limits.0 ∙ most)

  -- a turn gives a line, or it is the end
  pub turn_given : (left left' : Option (List ℕ)) (turn : declared.Turn) → HasGiven bytes left r given → HasLimits r r' → Tells r left r' left' (Ok turn) → TurnsNext bytes given left' r' turn
  turn_given left left' Line has limits tells =
      let turn = turn_gives left left' (Ok Line) has limits tells in (
        turn.4.0,
        subst (λ ls. HasGiven bytes left' r' (given ++ ls)) turn.4.2 turn.3,
        turn.4.1,
        subst (λ n. length turn.4.0 ≤ n) (still_most left has limits) turn.4.3,
      )
  turn_given left left' Long has limits tells =
      let turn = turn_gives left left' (Ok Long) has limits tells in
      (turn.4.0, subst (λ ls. HasGiven bytes left' r' (given ++ ls)) turn.4.1 turn.3, subst (λ n. n < length turn.4.0) (still_most left has limits) turn.4.2)
  turn_given left left' End has limits tells =
      let turn = turn_gives left left' (Ok End) has limits tells in
      let few = turn.6 turn.4.2 in
      (sym (within_all longest_input bytes few) ∙ turn.5 ∙ ap (λ ls. given ++ ls) turn.4.1 ∙ append-nil given, few)
  turn_given left left' Over has limits tells =
      let turn = turn_gives left left' (Ok Over) has limits tells in
      sym (append-nil given) ∙ ap (λ ls. given ++ ls) (sym turn.4.1) ∙ sym turn.5 ∙ within_some longest_input bytes (turn.7 turn.4.2)
