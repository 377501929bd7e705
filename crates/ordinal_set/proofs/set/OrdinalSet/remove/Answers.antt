use Rattle.std.proofs.Common.{ap, ◌∙◌}
use Rattle.ordinal_set.specs.Ordinals.{without_ordinal}
use Rattle.ordinal_set.proofs.Populations.{ordinals-population}
use Rattle.ordinal_set.proofs.Lacking.{population_without, fit_without}
use Rattle.ordinal_set.proofs.set.OrdinalSet.remove.Goals as goal

pub returns-clause-removed : goal.returns-clause-removed
returns-clause-removed c =
    let old = c.self.inside.words.items in
    population_without old c.clear_bit.new.words.items c.args.ordinal c.clear_bit.ensures.len c.clear_bit.ensures.bits ∙ ap (without_ordinal c.args.ordinal) c.self.view_is

pub returns-clause-ordinals : goal.returns-clause-ordinals
returns-clause-ordinals c =
    let old = c.self.inside.words.items in
    let new = c.clear_bit.new.words.items in
    ordinals-population new (fit_without old new c.args.ordinal c.self.invariant c.clear_bit.ensures.len c.clear_bit.ensures.bits)
