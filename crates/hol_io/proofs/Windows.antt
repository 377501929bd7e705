-- Ranges of a buffer whose bytes are let go of at the front and read in behind.
use Rattle.std.proofs.Common.{◌≡◌, ℕ, ◌+◌, ◌<◌, ◌≤◌, List, ◌++◌, length, take, drop, Option, Result, Ok, Err, ap, sym, ◌∙◌, arith, IfOk, IsErr}
use Rattle.std.specs.List.{slice_range}
use Rattle.std.specs.Io.{ReadsAtMost}
use Rattle.std.specs.Io.KnownBytes.{ReadConsumes, Keeps}
use Rattle.std.proofs.Math.Seq.{take-add}
use Rattle.std.proofs.lemmas.List.{take_at, drop_at, take-append-le, drop-append-le, drop-drop, length-take-le}
use Rattle.std.proofs.lemmas.Slice.{between_is}
use borrow.Rule.Slice.PartMut.{put_mid, post_of}
use Rattle.hol_io.specs.Window.{TakesOn, ReadsOn}

-- A range without its first bytes.
pub range_later : (xs : List ℕ) (at next end : ℕ) → slice_range xs (at + next) end ≡ drop next (slice_range xs at end)
range_later xs at next end =
    between_is xs (at + next) end ∙ sym (drop-drop next at (take end xs)) ∙ ap (drop next) (sym (between_is xs at end))

-- A buffer after its bytes were written back.
written : (len : ℕ) (items now : List ℕ) → length now ≡ len → take len (now ++ drop (length now) items) ≡ now
written len items now same = take_at now (drop (length now) items) len same

-- A range of a buffer that stayed up to the range's end.
pub range_kept : (len at end : ℕ) (items lent now : List ℕ) → lent ≡ items → length now ≡ len → take end now ≡ take end lent → slice_range (take len (now ++ drop (length now) items)) at end ≡ slice_range items at end
range_kept len at end items lent now is same kept =
    ap (λ b. slice_range b at end) (written len items now same) ∙ between_is now at end ∙ ap (drop at) (kept ∙ ap (take end) is) ∙ sym (between_is items at end)

-- A range of a buffer in which bytes were read behind its end.
pub range_more : (len at end count : ℕ) (items lent now took : List ℕ) → lent ≡ items → length now ≡ len → at ≤ end → end ≤ length items → take (end + count) now ≡ take end lent ++ took → slice_range (take len (now ++ drop (length now) items)) at (end + count) ≡ slice_range items at end ++ took
range_more len at end count items lent now took is same order inside more =
    ap (λ b. slice_range b at (end + count)) (written len items now same) ∙ between_is now at (end + count)
    ∙ ap (drop at) (more ∙ ap (λ b. take end b ++ took) is) ∙ drop-append-le at (take end items) took (omega (arith, length-take-le end items inside))
    ∙ ap (λ b. b ++ took) (sym (between_is items at end))

-- The front of a buffer of which the part behind `end` was written.
front_more : (end count : ℕ) (old part rest : List ℕ) → end ≤ length old → count ≤ length part → take (end + count) (take end old ++ (part ++ rest)) ≡ take end old ++ take count part
front_more end count old part rest inside within =
    take-add end count (take end old ++ (part ++ rest))
    ∙ ap (λ t. t ++ take count (drop end (take end old ++ (part ++ rest)))) (take_at (take end old) (part ++ rest) end (length-take-le end old inside))
    ∙ ap (λ t. take end old ++ take count t) (drop_at (take end old) (part ++ rest) end (length-take-le end old inside))
    ∙ ap (λ t. take end old ++ t) (take-append-le count part rest within)

-- Reading into the part of a buffer behind `end`.
pub read_into : {E : Type 0} (left left' : Option (List ℕ)) (result : Result ℕ E) (end k : ℕ) (old part : List ℕ) → end ≤ length old → 0 < length part → ReadsAtMost result part → ReadConsumes left left' result part → IfOk result (λ count. TakesOn left left' count (take end old) (take (end + count) (put_mid end k old part)))
read_into left left' (Ok count) end k old part inside some bound taken = (
  take count part,
  length-take-le count part (omega (arith, bound)),
  taken.0,
  λ none. taken.1 none some,
  front_more end count old part (post_of end k old) inside (omega (arith, bound)),
)
read_into left left' (Err fault) end k old part inside some bound taken = tt

-- A failed read.
pub reads_none : {E : Type 0} (left left' : Option (List ℕ)) (result : Result ℕ E) (old new : List ℕ) → IsErr result → Keeps left left' → new ≡ old → ReadsOn left left' result old new
reads_none left left' (Ok count) old new failed keeps same = absurd cc
reads_none left left' (Err fault) old new failed keeps same = (keeps, same)
