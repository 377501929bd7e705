use Rattle.std.proofs.Common.{ap, ◌∙◌}
use Rattle.ordinal_set.specs.Population.{population_of, words_bytes, first_words}
use Rattle.ordinal_set.proofs.PopulationBytes.{population_written, on_ok}
use Rattle.ordinal_set.proofs.set.OrdinalSet.put_population.Goals as goal

pub returns-else-is_err-clause-ok : goal.returns-else-is_err-clause-ok
returns-else-is_err-clause-ok c =
    let words = c.deref.result.now in
    let count = c.population_words.result in
    on_ok c.push_words-written.result
    (λ written. (
      words_bytes (first_words words count),
      written,
      population_written words c.args.self.now c.args.greatest count c.push_words-written.ensures.range (ap population_of c.deref.ensures.value ∙ c.self.view_is) c.requires c.population_words.ensures.is,
    ))
    c.push_words-written.ensures.ok
