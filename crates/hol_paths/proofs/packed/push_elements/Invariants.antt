use Rattle.std.proofs.Common.{◌≡◌, ◌++◌, take}
use Rattle.list_codec.specs.Elements.{elements_of}
use Rattle.hol_paths.proofs.packed.push_elements.Given as goal

abbrev pub invariant-loop-index : goal.invariant-loop-index
invariant-loop-index l = l.named.items ≡ l.initial.named.items ++ take l.index (elements_of l.elements)
