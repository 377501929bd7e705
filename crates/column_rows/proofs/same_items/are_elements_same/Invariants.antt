use Rattle.std.proofs.Common.{◌≡◌, ◌<◌, ℕ}
use Rattle.std.specs.Prelude.{slice_index}
use Rattle.list_codec.specs.Elements.{elements_of}
use Rattle.column_rows.proofs.same_items.are_elements_same.Given as goal

-- the first elements are the same
abbrev pub invariant-loop-index : goal.invariant-loop-index
invariant-loop-index l = (k : ℕ) → k < l.index → slice_index (elements_of l.elements) k ≡ slice_index (elements_of l.others) k
