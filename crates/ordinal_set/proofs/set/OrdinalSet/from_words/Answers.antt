use Rattle.std.proofs.Common.{arith}
use Rattle.ordinal_set.proofs.Populations.{fit_few, ordinals-population}
use Rattle.ordinal_set.proofs.set.OrdinalSet.from_words.Goals as goal

pub invariant_of-result : goal.invariant_of-result
invariant_of-result c = fit_few c.args.words.items (omega (arith, c.args.words.ok))

pub returns-clause-ordinals : goal.returns-clause-ordinals
returns-clause-ordinals c = ordinals-population c.args.words.items (fit_few c.args.words.items (omega (arith, c.args.words.ok)))
