use Rattle.seen_patches.proofs.PutColumn.{element_small}
use Rattle.seen_patches.proofs.words.element_or_ones.Goals as goal

pub returns-in-Some-clause-small : goal.returns-in-Some-clause-small
returns-in-Some-clause-small c = element_small c.args.words.now c.args.place c.args.width c.element.result c.args.source c.in-Some.column c.in-Some.is c.requires.held c.element.ensures
