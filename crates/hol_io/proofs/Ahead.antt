-- What lies ahead of a reader of lines, as it takes bytes, passes them over and gives lines.
use Rattle.std.proofs.Common.{◌≡◌, ◌≢◌, ℕ, suc, ◌+◌, ◌-◌, ◌<◌, ◌≤◌, Bool, true, false, List, [], ◌∷◌, ◌++◌, length, take, drop, refl, ap, sym, ◌∙◌, arith, append_assoc, length-append, inl, inr, ◌⊎◌}
use Rattle.std.proofs.lemmas.List.{take_at, drop_at, append-nil, take-append-drop, length-take, length-drop, nil_from_length}
use Rattle.std.proofs.lemmas.List.Elements.{All-append, All-nil}
use Rattle.std.proofs.lemmas.Bool.{cases_lt}
use Rattle.std.proofs.Math.Seq.{take-add}
use Rattle.hol_io.specs.Lines.{lines_within, finished, AreWhole, IsOnePiece, IsFront, Reading, IsAhead, Gives, Moves}
use Rattle.hol_io.proofs.Cutting.{lines_of, cut_first, cut_one, finished_first, finished_none, within_all, within_some}

-- Nothing was given.
pub gives_nothing : (bytes : List ℕ) (room : ℕ) → Gives [] bytes room bytes room
gives_nothing bytes room = record { given = []; split = refl; counted = omega arith; cut = refl }

-- One after another.
pub gives_then : {ls ms : List (List ℕ)} {bytes bytes' bytes'' : List ℕ} {room room' room'' : ℕ} → Gives ls bytes room bytes' room' → Gives ms bytes' room' bytes'' room'' → Gives (ls ++ ms) bytes room bytes'' room''
gives_then {ls} {ms} {bytes''} {room''} first second = record {
  given = first.given ++ second.given;
  split = first.split ∙ ap (λ t. first.given ++ t) second.split ∙ sym (append_assoc first.given second.given bytes'');
  counted = omega (arith, first.counted, second.counted, length-append first.given second.given);
  cut = first.cut ∙ ap (λ t. ls ++ t) second.cut ∙ sym (append_assoc ls ms (lines_within room'' bytes''));
}

-- Bytes that are read go behind those that were taken, and past the budget.
parted : (front pending took left : List ℕ) (n : ℕ) → front ++ (pending ++ (took ++ left)) ≡ front ++ ((pending ++ take n took) ++ (drop n took ++ left))
parted front pending took left n =
    ap (λ t. front ++ (pending ++ (t ++ left))) (sym (take-append-drop n took)) ∙ simp append_assoc

-- A front that is passed over, with more behind it, is too long.
long_front : (long : Bool) (most : ℕ) (front more : List ℕ) → IsFront long most front → (long ≡ true) ⊎ (most < length more) → IsFront true most (front ++ more)
long_front false most front more none (inl is) = absurd cc
long_front false most front more none (inr long) = omega (arith, length-append front more)
long_front true most front more long why = omega (arith, length-append front more)

-- Whole lines, one after another.
pub whole_then : (ls ms : List (List ℕ)) (bytes bytes' bytes'' : List ℕ) → AreWhole ls bytes bytes' → AreWhole ms bytes' bytes'' → AreWhole (ls ++ ms) bytes bytes''
whole_then ls ms bytes bytes' bytes'' (one, split, first) (two, then_split, second) = (
  one ++ two,
  split ∙ ap (λ t. one ++ t) then_split ∙ sym (append_assoc one two bytes''),
  λ rest. ap finished (append_assoc one two rest) ∙ first (two ++ rest) ∙ ap (λ t. ls ++ t) (second rest) ∙ sym (append_assoc ls ms (finished rest)),
)

-- A piece that ends at a byte 0A is whole.
pub whole_piece : (piece rest : List ℕ) → IsOnePiece piece → AreWhole (lines_of piece) (piece ++ 10 ∷ rest) rest
whole_piece piece rest one = (
  piece ++ 10 ∷ [],
  sym (append_assoc piece (10 ∷ []) rest),
  λ more. ap finished (append_assoc piece (10 ∷ []) more) ∙ finished_first piece more one,
)

-- Reading puts bytes behind those that were taken, up to the budget.
pub reads_ahead : (r r' : Reading) (left left' took bytes : List ℕ) (room : ℕ) → r.taken ≤ r.budget → r'.long ≡ r.long → r'.line_max ≡ r.line_max → r'.budget ≡ r.budget → r'.taken ≡ r.taken + length took → r'.pending ≡ r.pending ++ take (r.budget - r.taken) took → r'.ended ≡ r.ended → left ≡ took ++ left' → IsAhead r left bytes room → IsAhead r' left' bytes room
reads_ahead r r' left left' took bytes room below long most budget taken pending ended is ahead =
    let n = r.budget - r.taken in
    let none : ahead.past ≡ [] = nil_from_length ahead.past (omega (arith, ahead.past_count)) in record {
      front = ahead.front;
      past = drop n took;
      all = ahead.all ∙ ap (λ t. ahead.front ++ (r.pending ++ (t ++ left))) none ∙ ap (λ t. ahead.front ++ (r.pending ++ t)) is
          ∙ parted ahead.front r.pending took left' n ∙ ap (λ t. ahead.front ++ (t ++ (drop n took ++ left'))) (sym pending);
      one_piece = ahead.one_piece;
      long = rw (long, most) ahead.long;
      past_count = omega (arith, length-drop n took);
      within = omega (arith, ahead.within, ap length pending, length-append r.pending (take n took), length-take n took);
      none = λ e. ahead.none (sym ended ∙ e);
    }

-- A list that is taken through.
take_through : (piece rest : List ℕ) (room : ℕ) → take (length piece + suc room) (piece ++ 10 ∷ rest) ≡ piece ++ 10 ∷ take room rest
take_through piece rest room =
    take-add (length piece) (suc room) (piece ++ 10 ∷ rest) ∙ ap (λ t. t ++ take (suc room) (drop (length piece) (piece ++ 10 ∷ rest))) (take_at piece (10 ∷ rest) (length piece) refl)
    ∙ ap (λ t. piece ++ take (suc room) t) (drop_at piece (10 ∷ rest) (length piece) refl)

-- The lines within the budget are cut at the first byte 0A that lies within it.
within_first : (piece rest : List ℕ) (room : ℕ) → IsOnePiece piece → lines_within (length piece + suc room) (piece ++ 10 ∷ rest) ≡ lines_of piece ++ lines_within room rest
within_first piece rest room one =
    elim (cases_lt room (length rest)) [
      | inl more ↦
          within_some (length piece + suc room) (piece ++ 10 ∷ rest) (omega (arith, length-append piece (10 ∷ rest)))
          ∙ ap finished (take_through piece rest room) ∙ finished_first piece (take room rest) one ∙ ap (λ t. lines_of piece ++ t) (sym (within_some room rest more))
      | inr few ↦
          within_all (length piece + suc room) (piece ++ 10 ∷ rest) (omega (arith, length-append piece (10 ∷ rest))) ∙ cut_first piece rest one
          ∙ ap (λ t. lines_of piece ++ t) (sym (within_all room rest few))
    ]

-- Where a piece ends at a byte 0A within the budget, it is given, if it has bytes.
pub gives_piece : (piece rest : List ℕ) (room : ℕ) → IsOnePiece piece → Gives (lines_of piece) (piece ++ 10 ∷ rest) (length piece + suc room) rest room
gives_piece piece rest room one = record {
  given = piece ++ 10 ∷ [];
  split = sym (append_assoc piece (10 ∷ []) rest);
  counted = omega (arith, length-append piece (10 ∷ []));
  cut = within_first piece rest room one;
}

-- Nothing has no lines.
pub within_nothing : (room : ℕ) → lines_within room [] ≡ []
within_nothing room = within_all room [] (omega arith) ∙ cut_one [] (All-nil (λ b. b ≢ 10))

-- The last piece.
pub gives_last : (piece : List ℕ) (room : ℕ) → IsOnePiece piece → Gives (lines_of piece) piece (length piece + room) [] room
gives_last piece room one = record {
  given = piece;
  split = sym (append-nil piece);
  counted = refl;
  cut = within_all (length piece + room) piece (omega arith) ∙ cut_one piece one ∙ sym (append-nil (lines_of piece))
      ∙ ap (λ t. lines_of piece ++ t) (sym (within_nothing room));
}

-- Nothing moved.
pub moves_not : (r : Reading) (left bytes : List ℕ) (room : ℕ) → IsAhead r left bytes room → Moves [] bytes room r left
moves_not r left bytes room ahead = record { bytes' = bytes; room' = room; gives = gives_nothing bytes room; ahead = ahead; whole = λ still. ([], refl, (λ rest. refl)) }

-- A front of a line that is too long is passed over.
pub passes_ahead : (r r' : Reading) → IsOnePiece r.pending → (r.long ≡ true) ⊎ (r.line_max < length r.pending) → r'.long ≡ true → r'.pending ≡ [] → r'.taken ≡ r.taken → r'.line_max ≡ r.line_max → r'.budget ≡ r.budget → r'.ended ≡ r.ended → (left bytes : List ℕ) (room : ℕ) → IsAhead r left bytes room → IsAhead r' left bytes room
passes_ahead r r' one why long pending taken most budget ended left bytes room ahead = record {
  front = ahead.front ++ r.pending;
  past = ahead.past;
  all = ahead.all ∙ sym (append_assoc ahead.front r.pending (ahead.past ++ left)) ∙ ap (λ t. (ahead.front ++ r.pending) ++ (t ++ (ahead.past ++ left))) (sym pending);
  one_piece = All-append (λ b. b ≢ 10) ahead.front r.pending ahead.one_piece one;
  long = rw (long, most) (long_front r.long r.line_max ahead.front r.pending ahead.long why);
  past_count = omega (arith, ahead.past_count);
  within = omega (arith, ahead.within, ap length pending, length-append ahead.front r.pending);
  none = λ e. ahead.none (sym ended ∙ e);
}

-- With a byte past the budget and no byte 0A among those before it, no line is left.
pub over_ahead : (r : Reading) (left bytes : List ℕ) (room : ℕ) → r.budget < r.taken → IsOnePiece r.pending → IsAhead r left bytes room → (lines_within room bytes ≡ []) × (room < length bytes)
over_ahead r left bytes room over one ahead =
    let before = ahead.front ++ r.pending in
    let whole : bytes ≡ before ++ (ahead.past ++ left) = ahead.all ∙ sym (append_assoc ahead.front r.pending (ahead.past ++ left)) in
    let count : length before ≡ room = omega (arith, ahead.within, length-append ahead.front r.pending) in
    let more : room < length bytes =
    omega (arith, ap length whole, length-append before (ahead.past ++ left), length-append ahead.past left, ahead.past_count, count) in (
      within_some room bytes more ∙ ap (λ t. finished (take room t)) whole ∙ ap finished (take_at before (ahead.past ++ left) room count)
          ∙ finished_none before (All-append (λ b. b ≢ 10) ahead.front r.pending ahead.one_piece one),
      more,
    )
