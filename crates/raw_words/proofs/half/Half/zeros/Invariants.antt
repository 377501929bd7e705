-- The loop of `zeros`: the places before the next one hold zeros.
use Rattle.std.proofs.Common.{◌≡◌, ◌+◌, replicate}
use Rattle.raw_words.proofs.half.Half.zeros.Given as goal

abbrev pub invariant-loop-place : goal.invariant-loop-place
invariant-loop-place l =
    (l.block.words ≡ replicate l.place 0) × (l.place + l.block.room ≡ l.capacity) × (l.block.first ≡ l.initial.block.first)
