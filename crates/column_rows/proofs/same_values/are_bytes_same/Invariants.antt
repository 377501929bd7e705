use Rattle.std.proofs.Common.{◌≡◌, ◌<◌, ℕ}
use Rattle.std.specs.Prelude.{slice_index}
use Rattle.object_codec.specs.Bytes.{bytes_of}
use Rattle.column_rows.proofs.same_values.are_bytes_same.Given as goal

-- the first bytes are the same
abbrev pub invariant-loop-at : goal.invariant-loop-at
invariant-loop-at l = (k : ℕ) → k < l.at → slice_index (bytes_of l.bytes) k ≡ slice_index (bytes_of l.others) k
