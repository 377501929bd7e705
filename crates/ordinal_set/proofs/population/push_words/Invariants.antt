use Rattle.ordinal_set.proofs.PopulationBytes.{WordsSoFar}
use Rattle.ordinal_set.proofs.population.push_words.Given as goal

abbrev pub invariant-loop-place : goal.invariant-loop-place
invariant-loop-place l = WordsSoFar l.fn.out.items l.out.items l.words l.count l.place
