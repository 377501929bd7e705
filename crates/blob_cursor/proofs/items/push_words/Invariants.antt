use Rattle.std.proofs.Common.{◌≡◌, ◌++◌}
use Rattle.blob_cursor.specs.Filling.{words_in}
use Rattle.blob_cursor.proofs.items.push_words.Given as goal

abbrev pub invariant-loop-index : goal.invariant-loop-index
invariant-loop-index l = l.list ≡ l.initial.list ++ words_in l.index l.bytes
