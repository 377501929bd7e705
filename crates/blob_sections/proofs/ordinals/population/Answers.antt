use Rattle.std.proofs.Common.{rules, refl, ap, Ok, ◌∙◌}
use Rattle.ordinal_set.specs.Population.{population_of}
use Rattle.blob_cursor.proofs.Chain.{reads_made, reads_unmade}
use Rattle.blob_cursor.proofs.Counting.{reads_counted, reads_uncounted}
use Rattle.std.specs.Int.{w64}
use Rattle.blob_frame.specs.Item.{fixed}
use Rattle.blob_sections.specs.Population.{population}
use Rattle.blob_sections.proofs.ordinals.population.Goals as goal

pub returns-in_err-count : goal.returns-in_err-count
unfolding population
returns-in_err-count g c = record { reads = reads_unmade _ (reads_uncounted (fixed w64) c.in_err-count.ensures.reads refl) (search rules) }

pub returns-in_err-words : goal.returns-in_err-words
unfolding population
returns-in_err-words g c = record { reads = reads_unmade _ (reads_counted (fixed w64) c.in_ok-count.ensures.reads c.from.ensures c.in_err-words.ensures.reads) (search rules) }

pub returns : goal.returns
unfolding population
returns g c = record {
  reads = reads_made population_of (reads_counted (fixed w64) c.in_ok-count.ensures.reads c.from.ensures c.in_ok-words.ensures.reads)
      (ap Ok (c.from_words.ensures.members ∙ ap population_of c.into_vec.ensures));
}
