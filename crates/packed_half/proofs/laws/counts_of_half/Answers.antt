use Rattle.packed_half.proofs.Counts.{words_are, bytes_are}
use Rattle.packed_half.proofs.laws.counts_of_half.Goals as goal

pub returns : goal.returns
returns c = record { words = words_are; bytes = bytes_are }
