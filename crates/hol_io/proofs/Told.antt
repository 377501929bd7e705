-- Where a source tells what it has left: what the calls of a reader of lines do to what lies ahead.
use Rattle.std.proofs.Common.{◌≡◌, ◌≢◌, ℕ, suc, ◌+◌, ◌-◌, ◌<◌, ◌≤◌, Bool, true, false, Option, None, Some, Result, Ok, Err, IsErr, List, [], ◌∷◌, ◌++◌, length, take, drop, slice_index, refl, ap, sym, ◌∙◌, arith, subst, append_assoc, length-append, inl, inr, ◌⊎◌, unwrap_or, if◌then◌else◌, IfSome, MatchOption}
use Rattle.std.specs.Io.KnownBytes.{Keeps, IsAtEnd, Consumes}
use Rattle.std.proofs.Math.Seq.{take-add}
use Rattle.std.proofs.lemmas.List.{take_at, drop_at, drop_more, append-nil, take-append-drop, length-take, length-drop, nil_from_length}
use Rattle.std.proofs.lemmas.List.Elements.{All-append}
use Rattle.hol_io.specs.Lines.{lines_within, AreWhole, IsOnePiece, IsFront, Reading, IsAhead, Gives, Moves, Carries, StaysEnded, Takes, starts}
use Rattle.hol_io.specs.Window.{TakesOn}
use Rattle.hol_io.specs.Turn.{IsTurn, Tells, IsPieceTurn, IsPiece, EndsInput, LendsLine}
use Rattle.hol_io.specs.declared.lines.Turn as declared
use Rattle.hol_io.specs.declared.lines.Turn.TheVariants.{Line, Long, End, Over}
use Rattle.hol_io.specs.declared.lines.Piece.TheVariants.{Ended, Last, PastBudget}
use Rattle.hol_io.proofs.Cutting.{lines_of}
use Rattle.hol_io.proofs.Ahead.{gives_then, gives_piece, gives_last, reads_ahead, moves_not, passes_ahead, over_ahead, whole_piece, whole_then, within_nothing}

-- Two readers that differ at most in the line that they lend.
pub record IsSame (r r' : Reading) : Type 0 where
  pub long : r'.long ≡ r.long
  pub pending : r'.pending ≡ r.pending
  pub taken : r'.taken ≡ r.taken
  pub line_max : r'.line_max ≡ r.line_max
  pub budget : r'.budget ≡ r.budget
  pub ended : r'.ended ≡ r.ended

-- The same lies ahead of them.
same_ahead : (r r' : Reading) (left bytes : List ℕ) (room : ℕ) → IsSame r r' → IsAhead r left bytes room → IsAhead r' left bytes room
same_ahead r r' left bytes room same ahead = record {
  front = ahead.front;
  past = ahead.past;
  all = ahead.all ∙ ap (λ t. ahead.front ++ (t ++ (ahead.past ++ left))) (sym same.pending);
  one_piece = ahead.one_piece;
  long = rw (same.long, same.line_max) ahead.long;
  past_count = omega (arith, ahead.past_count, same.taken, same.budget);
  within = omega (arith, ahead.within, ap length same.pending, same.taken, same.budget);
  none = λ e. ahead.none (sym same.ended ∙ e);
}

-- A call that took nothing carries what lies ahead.
pub same_carries : (r r' : Reading) (left left' : Option (List ℕ)) → Keeps left left' → IsSame r r' → Carries r left r' left'
same_carries r r' None left' keeps same = tt
same_carries r r' (Some left) None keeps same = absurd keeps
same_carries r r' (Some left) (Some left') keeps same = (
  (λ e. same.ended ∙ e),
  λ bytes room ahead. moves_not r' left' bytes room (same_ahead r r' left' bytes room same (subst (λ t. IsAhead r t bytes room) (sym keeps) ahead)),
)

-- What is left stays.
pub keeps_itself : (left : Option (List ℕ)) → Keeps left left
keeps_itself None = tt
keeps_itself (Some left) = refl

-- A read carries what lies ahead.
pub read_carries : (r r' : Reading) (left left' : Option (List ℕ)) (count : ℕ) (mid : List ℕ) → TakesOn left left' count r.pending mid → r.taken ≤ r.budget → r'.long ≡ r.long → r'.line_max ≡ r.line_max → r'.budget ≡ r.budget → r'.taken ≡ r.taken + count → r'.pending ≡ take (length r.pending + (r.budget - r.taken)) mid → r'.ended ≡ r.ended → Carries r left r' left'
read_carries r r' None left' count mid t below long most budget taken pending ended = tt
read_carries r r' (Some left) None count mid t below long most budget taken pending ended = absurd t.2
read_carries r r' (Some left) (Some left') count mid t below long most budget taken pending ended =
    let n = r.budget - r.taken in
    let part : take (length r.pending + n) mid ≡ r.pending ++ take n t.0 =
    ap (take (length r.pending + n)) t.4 ∙ take-add (length r.pending) n (r.pending ++ t.0)
    ∙ ap (λ s. s ++ take n (drop (length r.pending) (r.pending ++ t.0))) (take_at r.pending t.0 (length r.pending) refl)
    ∙ ap (λ s. r.pending ++ take n s) (drop_at r.pending t.0 (length r.pending) refl) in (
      (λ e. ended ∙ e),
      λ bytes room ahead. moves_not r' left' bytes room (reads_ahead r r' left left' t.0 bytes room below long most budget (omega (arith, taken, t.1)) (pending ∙ part) ended t.2 ahead),
    )

-- Passing over a front carries what lies ahead.
pub pass_carries : (r r' : Reading) → IsOnePiece r.pending → (r.long ≡ true) ⊎ (r.line_max < length r.pending) → r'.long ≡ true → r'.pending ≡ [] → r'.taken ≡ r.taken → r'.line_max ≡ r.line_max → r'.budget ≡ r.budget → r'.ended ≡ r.ended → (left : Option (List ℕ)) → Carries r left r' left
pass_carries r r' one why long pending taken most budget ended None = tt
pass_carries r r' one why long pending taken most budget ended (Some left) =
    ((λ e. ended ∙ e), λ bytes room ahead. moves_not r' left bytes room (passes_ahead r r' one why long pending taken most budget ended left bytes room ahead))

-- What is not at the end was not before.
pub open_before : (r r' : Reading) → StaysEnded r r' → r'.ended ≡ false → r.ended ≡ false
open_before r r' stays still = not_ended r.ended (λ e. (let both : true ≡ false = sym (stays e) ∙ still in cc))
  where
    not_ended : (b : Bool) → (b ≡ true → ⊥) → b ≡ false
    not_ended true never = absurd (never refl)
    not_ended false never = refl

-- Lines that were given one after another.
pub moves_then : {ls ms : List (List ℕ)} {bytes : List ℕ} {room : ℕ} {r' r'' : Reading} {left' left'' : List ℕ} → StaysEnded r' r'' → (one : Moves ls bytes room r' left') → Moves ms one.bytes' one.room' r'' left''
    → Moves (ls ++ ms) bytes room r'' left''
moves_then {ls} {ms} {bytes} {r'} {r''} stays one two = record {
  bytes' = two.bytes';
  room' = two.room';
  gives = gives_then one.gives two.gives;
  ahead = two.ahead;
  whole = λ still. whole_then ls ms bytes one.bytes' two.bytes' (one.whole (open_before r' r'' stays still)) (two.whole still);
}

-- One call after another.
pub carries_then : (r r' r'' : Reading) (left left' left'' : Option (List ℕ)) → Carries r left r' left' → Carries r' left' r'' left'' → Carries r left r'' left''
carries_then r r' r'' None left' left'' first second = tt
carries_then r r' r'' (Some left) None left'' first second = absurd first
carries_then r r' r'' (Some left) (Some left') None first second = absurd second
carries_then r r' r'' (Some left) (Some left') (Some left'') first second = (
  (λ e. second.0 (first.0 e)),
  λ bytes room ahead.
      (let one : Moves [] bytes room r' left' = first.1 bytes room ahead in
      let two : Moves [] one.bytes' one.room' r'' left'' = second.1 one.bytes' one.room' one.ahead in
      moves_then second.0 one two),
)

-- What a turn says of the bytes ahead it says of those before, where no line was given between.
turn_before : (r : Reading) (bytes bytes' : List ℕ) (room room' : ℕ) (lines : List (List ℕ)) (result : Result declared.Turn _) → Gives [] bytes room bytes' room' → IsTurn r bytes' room' lines result → IsTurn r bytes room lines result
turn_before r bytes bytes' room room' lines (Ok Line) gives turn = turn
turn_before r bytes bytes' room room' lines (Ok Long) gives turn = turn
turn_before r bytes bytes' room room' lines (Ok End) gives turn =
    (turn.0, gives.cut ∙ turn.1, omega (arith, turn.2, gives.counted, ap length gives.split, length-append gives.given bytes'))
turn_before r bytes bytes' room room' lines (Ok Over) gives turn =
    (turn.0, gives.cut ∙ turn.1, omega (arith, turn.2, gives.counted, ap length gives.split, length-append gives.given bytes'))
turn_before r bytes bytes' room room' lines (Err fault) gives turn = turn

-- A turn after calls that gave no line.
pub tells_then : (r r' r'' : Reading) (left left' left'' : Option (List ℕ)) (result : Result declared.Turn _) → Carries r left r' left' → Tells r' left' r'' left'' result → Tells r left r'' left'' result
tells_then r r' r'' None left' left'' result first second = tt
tells_then r r' r'' (Some left) None left'' result first second = absurd first
tells_then r r' r'' (Some left) (Some left') None result first second = absurd second
tells_then r r' r'' (Some left) (Some left') (Some left'') result first second = (
  (λ e. second.0 (first.0 e)),
  λ bytes room ahead.
      (let one : Moves [] bytes room r' left' = first.1 bytes room ahead in
      let two = second.1 one.bytes' one.room' one.ahead in
      (two.0, moves_then second.0 one two.1, turn_before r'' bytes one.bytes' room one.room' two.0 result one.gives two.2)),
)

-- A fault after calls that gave no line.
pub fault_tells : (r r' : Reading) (left left' : Option (List ℕ)) (result : Result declared.Turn _) → IsErr result → Carries r left r' left' → Tells r left r' left' result
fault_tells r r' left left' (Ok turn) failed carries = absurd cc
fault_tells r r' None left' (Err fault) failed carries = tt
fault_tells r r' (Some left) None (Err fault) failed carries = absurd carries
fault_tells r r' (Some left) (Some left') (Err fault) failed carries = (carries.0, λ bytes room ahead. ([], carries.1 bytes room ahead, refl))

-- A piece that has bytes is a line.
lines_of_some : (piece : List ℕ) → 0 < length piece → lines_of piece ≡ piece ∷ []
lines_of_some [] some = absurd (omega (arith, some))
lines_of_some (byte ∷ bytes) some = refl

-- A piece that has none is none.
lines_of_none : (piece : List ℕ) → length piece ≡ 0 → lines_of piece ≡ []
lines_of_none [] none = refl
lines_of_none (byte ∷ bytes) none = absurd (omega (arith, none))

-- No front was passed over.
no_front : (long : Bool) (most : ℕ) (front : List ℕ) → IsFront long most front → long ≡ false → front ≡ []
no_front false most front is none = is
no_front true most front is none = absurd cc

-- A front or a piece that is too long.
too_long : (long : Bool) (most : ℕ) (front piece : List ℕ) → IsFront long most front → (long ≡ true) ⊎ (most < length piece) → most < length (front ++ piece)
too_long false most front piece is (inl long) = absurd cc
too_long false most front piece is (inr long) = omega (arith, long, length-append front piece)
too_long true most front piece is why = omega (arith, is, length-append front piece)

-- What a turn at the end of a piece says of the lines that it gives.
abbrev pub EndsPiece : Reading → List ℕ → ℕ → List (List ℕ) → Option declared.Turn → Type 0
EndsPiece r bytes room lines None = lines ≡ []
EndsPiece r bytes room lines (Some turn) = IsTurn r bytes room lines (Ok turn)

turn_of_piece : (r r' : Reading) (front piece bytes : List ℕ) (room : ℕ) (turn : Option declared.Turn) → r'.line_max ≡ r.line_max → IsFront r.long r.line_max front → IsPieceTurn r r' piece turn → EndsPiece r' bytes room (lines_of (front ++ piece)) turn
turn_of_piece r r' front piece bytes room None most is turn =
    lines_of_none (front ++ piece) (omega (arith, length-append front piece, ap length (no_front r.long r.line_max front is turn.0), turn.1))
turn_of_piece r r' front piece bytes room (Some Line) most is turn =
    (piece, turn.3, ap (λ t. lines_of (t ++ piece)) (no_front r.long r.line_max front is turn.0) ∙ lines_of_some piece turn.1, omega (arith, turn.2, most))
turn_of_piece r r' front piece bytes room (Some Long) most is turn =
    let long : r.line_max < length (front ++ piece) = too_long r.long r.line_max front piece is turn.0 in
    (front ++ piece, lines_of_some (front ++ piece) (omega (arith, long)), omega (arith, long, most))
turn_of_piece r r' front piece bytes room (Some End) most is turn = absurd turn
turn_of_piece r r' front piece bytes room (Some Over) most is turn = absurd turn

-- A piece that ends at a byte 0A is given.
piece_moves : (r r' : Reading) (left bytes : List ℕ) (room count : ℕ) (ahead : IsAhead r left bytes room) → count < length r.pending → slice_index r.pending count ≡ 10 → IsOnePiece (take count r.pending) → r'.pending ≡ drop (count + 1) r.pending → r'.long ≡ false → r'.taken ≡ r.taken → r'.budget ≡ r.budget → r'.ended ≡ r.ended → Moves (lines_of (ahead.front ++ take count r.pending)) bytes room r' left
piece_moves r r' left bytes room count ahead inside is one pending long taken budget ended =
    let piece = take count r.pending in
    let rest = drop (count + 1) r.pending in
    let whole : r.pending ≡ piece ++ 10 ∷ rest =
    sym (take-append-drop count r.pending) ∙ ap (λ t. piece ++ t) (drop_more r.pending count 0 inside ∙ ap (λ b. b ∷ rest) is) in
    let split : bytes ≡ (ahead.front ++ piece) ++ 10 ∷ (rest ++ (ahead.past ++ left)) =
    ahead.all ∙ ap (λ t. ahead.front ++ (t ++ (ahead.past ++ left))) whole ∙ simp append_assoc in
    let after = length rest + (r.budget - r.taken) in
    let counted : room ≡ length (ahead.front ++ piece) + suc after =
    omega (arith, ahead.within, length-append ahead.front piece, length-take count r.pending, length-drop (count + 1) r.pending, inside) in
    record {
      bytes' = rest ++ (ahead.past ++ left);
      room' = after;
      gives = rw (split, counted) (gives_piece (ahead.front ++ piece) (rest ++ (ahead.past ++ left)) after (All-append (λ b. b ≢ 10) ahead.front piece ahead.one_piece one));
      whole = λ still. subst (λ (bs : List ℕ). AreWhole (lines_of (ahead.front ++ piece)) bs (rest ++ (ahead.past ++ left))) (sym split)
          (whole_piece (ahead.front ++ piece) (rest ++ (ahead.past ++ left)) (All-append (λ b. b ≢ 10) ahead.front piece ahead.one_piece one));
      ahead = record {
        front = [];
        past = ahead.past;
        all = ap (λ t. t ++ (ahead.past ++ left)) (sym pending);
        one_piece = λ k d low. absurd (omega (arith, low));
        long = rw long refl;
        past_count = omega (arith, ahead.past_count, taken, budget);
        within = omega (arith, ap length pending, taken, budget);
        none = λ e. absurd (omega (arith, ap length (ahead.none (sym ended ∙ e)), ap length split, length-append (ahead.front ++ piece) (10 ∷ (rest ++ (ahead.past ++ left)))));
      };
    }

-- Where a piece ends at a byte 0A, the turn that it makes tells, and without one nothing was given.
abbrev pub PieceTells : Reading → Option (List ℕ) → Reading → Option (List ℕ) → Option declared.Turn → Type 0
PieceTells r left r' left' None = Carries r left r' left'
PieceTells r left r' left' (Some turn) = Tells r left r' left' (Ok turn)

pub piece_tells : (r r' : Reading) (left : Option (List ℕ)) (count : ℕ) (turn : Option declared.Turn) → IsPiece r left (Ended count) → IsPieceTurn r r' (take count r.pending) turn → r'.pending ≡ drop (count + 1) r.pending → r'.long ≡ false → r'.taken ≡ r.taken → r'.line_max ≡ r.line_max → r'.budget ≡ r.budget → r'.ended ≡ r.ended → PieceTells r left r' left turn
piece_tells r r' None count None piece is pending long taken most budget ended = tt
piece_tells r r' None count (Some turn) piece is pending long taken most budget ended = tt
piece_tells r r' (Some left) count None piece is pending long taken most budget ended = (
  (λ e. ended ∙ e),
  λ bytes room ahead.
      (let moves = piece_moves r r' left bytes room count ahead piece.0 piece.1 piece.2 pending long taken budget ended in
      let none : lines_of (ahead.front ++ take count r.pending) ≡ [] = turn_of_piece r r' ahead.front (take count r.pending) bytes room None most ahead.long is in
      subst (λ lines. Moves lines bytes room r' left) none moves),
)
piece_tells r r' (Some left) count (Some turn) piece is pending long taken most budget ended = (
  (λ e. ended ∙ e),
  λ bytes room ahead. (
    lines_of (ahead.front ++ take count r.pending),
    piece_moves r r' left bytes room count ahead piece.0 piece.1 piece.2 pending long taken budget ended,
    turn_of_piece r r' ahead.front (take count r.pending) bytes room (Some turn) most ahead.long is,
  ),
)

-- The last piece is given.
last_moves : (r r' : Reading) (left bytes : List ℕ) (room : ℕ) (ahead : IsAhead r left bytes room) → IsOnePiece r.pending → r.taken ≤ r.budget → left ≡ [] → r'.pending ≡ [] → r'.long ≡ false → r'.taken ≡ r.taken → r'.budget ≡ r.budget → r'.ended ≡ true → Moves (lines_of (ahead.front ++ r.pending)) bytes room r' left
last_moves r r' left bytes room ahead one below ended pending long taken budget at_end =
    let none : ahead.past ≡ [] = nil_from_length ahead.past (omega (arith, ahead.past_count)) in
    let whole : bytes ≡ ahead.front ++ r.pending =
    ahead.all ∙ ap (λ t. ahead.front ++ (r.pending ++ (t ++ left))) none ∙ ap (λ t. ahead.front ++ (r.pending ++ t)) ended
    ∙ ap (λ t. ahead.front ++ t) (append-nil r.pending) in
    let after = r.budget - r.taken in
    let counted : room ≡ length (ahead.front ++ r.pending) + after = omega (arith, ahead.within, length-append ahead.front r.pending) in
    record {
      bytes' = [];
      room' = after;
      gives = rw (whole, counted) (gives_last (ahead.front ++ r.pending) after (All-append (λ b. b ≢ 10) ahead.front r.pending ahead.one_piece one));
      whole = λ still. absurd (let both : true ≡ false = sym at_end ∙ still in cc);
      ahead = record {
        front = [];
        past = [];
        all = sym (ap (λ t. t ++ left) pending ∙ ended);
        one_piece = λ k d low. absurd (omega (arith, low));
        long = rw long refl;
        past_count = omega (arith, taken, budget, below);
        within = omega (arith, ap length pending, taken, budget);
        none = λ e. refl;
      };
    }

-- At the end of the source the last piece is a turn, or else it is the end.
pub last_tells : (r r' : Reading) (left : Option (List ℕ)) (turn : Option declared.Turn) → IsPiece r left Last → IsPieceTurn r r' r.pending turn → r'.pending ≡ [] → r'.long ≡ false → r'.taken ≡ r.taken → r'.line_max ≡ r.line_max → r'.budget ≡ r.budget → r'.ended ≡ true → Tells r left r' left (Ok (unwrap_or turn End))
unfolding last_moves
last_tells r r' None turn piece is pending long taken most budget at_end = tt
last_tells r r' (Some left) None piece is pending long taken most budget at_end = (
  (λ e. at_end),
  λ bytes room ahead.
      (let moves = last_moves r r' left bytes room ahead piece.0 piece.1 piece.2 pending long taken budget at_end in
      let none : lines_of (ahead.front ++ r.pending) ≡ [] = turn_of_piece r r' ahead.front r.pending bytes room None most ahead.long is in
      let gives = moves.gives in (
        [],
        subst (λ lines. Moves lines bytes room r' left) none moves,
        (
          refl,
          moves.gives.cut ∙ ap (λ t. t ++ lines_within moves.room' []) none ∙ within_nothing moves.room',
          omega (arith, moves.gives.counted, ap length moves.gives.split, length-append moves.gives.given []),
        ),
      )),
)
last_tells r r' (Some left) (Some turn) piece is pending long taken most budget at_end = (
  (λ e. at_end),
  λ bytes room ahead. (
    lines_of (ahead.front ++ r.pending),
    last_moves r r' left bytes room ahead piece.0 piece.1 piece.2 pending long taken budget at_end,
    turn_of_piece r r' ahead.front r.pending bytes room (Some turn) most ahead.long is,
  ),
)

-- A turn at the end of a piece is one of each reader that lends this line.
pub lends_same : (r r' r'' : Reading) (piece : List ℕ) (turn : Option declared.Turn) → r''.line ≡ r'.line → IsPieceTurn r r' piece turn → IsPieceTurn r r'' piece turn
lends_same r r' r'' piece None same turn = (turn.0, turn.1, same ∙ turn.2)
lends_same r r' r'' piece (Some Line) same turn = (turn.0, turn.1, turn.2, same ∙ turn.3)
lends_same r r' r'' piece (Some Long) same turn = (turn.0, same ∙ turn.1)
lends_same r r' r'' piece (Some End) same turn = absurd turn
lends_same r r' r'' piece (Some Over) same turn = absurd turn

-- Behind the end there is nothing.
pub end_tells : (r r' : Reading) (left : Option (List ℕ)) → IsSame r r' → r.ended ≡ true → Tells r left r' left (Ok End)
end_tells r r' None same at_end = tt
end_tells r r' (Some left) same at_end = (
  (λ e. same.ended ∙ e),
  λ bytes room ahead.
      (let none = ahead.none at_end in
      ([], moves_not r' left bytes room (same_ahead r r' left bytes room same ahead), (refl, ap (lines_within room) none ∙ within_nothing room, omega (arith, ap length none)))),
)

-- A byte past the budget came.
pub over_tells : (r : Reading) (left : Option (List ℕ)) → IsPiece r left PastBudget → Tells r left r left (Ok Over)
over_tells r None piece = tt
over_tells r (Some left) piece =
    ((λ e. e), λ bytes room ahead. (let over = over_ahead r left bytes room piece.1 piece.0 ahead in ([], moves_not r left bytes room ahead, (refl, over.0, over.1))))

-- No piece ends in the bytes that were taken: nothing was given, or a byte past the budget came.
pub held_tells : (r r' : Reading) (left : Option (List ℕ)) (turn : Option declared.Turn) → IsOnePiece r'.pending → MatchOption turn (r'.taken ≤ r'.budget) (λ t. (t ≡ Over) × (r'.budget < r'.taken)) → Carries r left r' left
    → MatchOption turn (Carries r left r' left) (λ t. Tells r left r' left (Ok t))
held_tells r r' left None one below carries = carries
held_tells r r' left (Some turn) one (is, over) carries =
    tells_then r r' r' left left left (Ok turn) carries (subst (λ t. Tells r' left r' left (Ok t)) (sym is) (over_tells r' left (one, over)))

-- What a call says behind calls that gave no line.
pub then_held : (r r' r'' : Reading) (left : Option (List ℕ)) (turn : Option declared.Turn) → Carries r left r' left → MatchOption turn (Carries r' left r'' left) (λ t. Tells r' left r'' left (Ok t))
    → MatchOption turn (Carries r left r'' left) (λ t. Tells r left r'' left (Ok t))
then_held r r' r'' left None first second = carries_then r r' r'' left left left first second
then_held r r' r'' left (Some turn) first second = tells_then r r' r'' left left left (Ok turn) first second

-- That is no end of the input.
pub held_ends_not : (r' : Reading) (left : Option (List ℕ)) (turn : Option declared.Turn) → MatchOption turn (r'.taken ≤ r'.budget) (λ t. (t ≡ Over) × (r'.budget < r'.taken)) → IfSome turn (λ t. EndsInput r' left (Ok t))
held_ends_not r' left None below = tt
held_ends_not r' left (Some turn) (is, over) = subst (λ t. EndsInput r' left (Ok t)) (sym is) over

pub held_lends_none : (r' : Reading) (turn : Option declared.Turn) → MatchOption turn (r'.taken ≤ r'.budget) (λ t. (t ≡ Over) × (r'.budget < r'.taken)) → r'.line ≡ None → MatchOption turn (r'.line ≡ None) (λ t. LendsLine r' (Ok t))
held_lends_none r' None below none = none
held_lends_none r' (Some turn) (is, over) none = subst (λ t. LendsLine r' (Ok t)) (sym is) none

-- A reader that may take more has taken none past the budget.
pub not_over : (over : Bool) (taken budget : ℕ) → taken + (if over then 1 else 0) ≤ budget → (over ≡ true → taken ≡ budget) → over ≡ false
not_over false taken budget below past = refl
not_over true taken budget below past = absurd (omega (arith, below, past refl))

-- At the end of the input: a last line, or none.
pub ends_input : (r r' : Reading) (piece : List ℕ) (left : Option (List ℕ)) (turn : Option declared.Turn) → IsPieceTurn r r' piece turn → IsAtEnd left → r'.taken ≤ r'.budget → EndsInput r' left (Ok (unwrap_or turn End))
ends_input r r' piece left None is ended below = (ended, below)
ends_input r r' piece left (Some Line) is ended below = tt
ends_input r r' piece left (Some Long) is ended below = tt
ends_input r r' piece left (Some End) is ended below = absurd is
ends_input r r' piece left (Some Over) is ended below = absurd is

-- A piece that ends at a byte 0A is no end of the input.
pub piece_ends_not : (r r' : Reading) (piece : List ℕ) (left : Option (List ℕ)) (turn : declared.Turn) → IsPieceTurn r r' piece (Some turn) → EndsInput r' left (Ok turn)
piece_ends_not r r' piece left Line is = tt
piece_ends_not r r' piece left Long is = tt
piece_ends_not r r' piece left End is = absurd is
piece_ends_not r r' piece left Over is = absurd is

-- A fault is none either.
pub fault_ends_not : (r' : Reading) (left : Option (List ℕ)) (result : Result declared.Turn _) → IsErr result → EndsInput r' left result
fault_ends_not r' left (Ok turn) failed = absurd cc
fault_ends_not r' left (Err fault) failed = tt

pub ruleset ends = (ends_input, piece_ends_not, fault_ends_not)

-- A call that took nothing.
pub takes_nothing : (left left' : Option (List ℕ)) (taken taken' : ℕ) → Keeps left left' → taken' ≡ taken → Takes left left' taken taken'
takes_nothing None left' taken taken' keeps same = record { took = []; consumes = tt; counted = omega (arith, same) }
takes_nothing (Some left) None taken taken' keeps same = absurd keeps
takes_nothing (Some left) (Some left') taken taken' keeps same = record { took = []; consumes = sym keeps; counted = omega (arith, same) }

-- A read that took bytes.
pub takes_read : (left left' : Option (List ℕ)) (count : ℕ) (old new : List ℕ) (taken taken' : ℕ) → TakesOn left left' count old new → taken' ≡ taken + count → Takes left left' taken taken'
takes_read left left' count old new taken taken' t counted = record { took = t.0; consumes = t.2; counted = omega (arith, counted, t.1) }

-- What is consumed in two goes is consumed.
consumes_then : (left left' left'' : Option (List ℕ)) (one two : List ℕ) → Consumes left left' one → Consumes left' left'' two → Consumes left left'' (one ++ two)
consumes_then None left' left'' one two first second = tt
consumes_then (Some left) None left'' one two first second = absurd first
consumes_then (Some left) (Some left') None one two first second = absurd second
consumes_then (Some left) (Some left') (Some left'') one two first second =
    first ∙ ap (λ t. one ++ t) second ∙ sym (append_assoc one two left'')

-- One call after another.
pub takes_then : (left left' left'' : Option (List ℕ)) (taken taken' taken'' : ℕ) → Takes left left' taken taken' → Takes left' left'' taken' taken'' → Takes left left'' taken taken''
takes_then left left' left'' taken taken' taken'' first second = record {
  took = first.took ++ second.took;
  consumes = consumes_then left left' left'' first.took second.took first.consumes second.consumes;
  counted = omega (arith, first.counted, second.counted, length-append first.took second.took);
}

-- Where nothing was given yet, all that is left to the source lies ahead.
pub starts_ahead : (line_max budget : ℕ) (left : List ℕ) → IsAhead (starts line_max budget) left left budget
starts_ahead line_max budget left = record {
  front = [];
  past = [];
  all = refl;
  one_piece = λ k d low. absurd (omega (arith, low));
  long = refl;
  past_count = omega arith;
  within = omega arith;
  none = λ e. absurd cc;
}
