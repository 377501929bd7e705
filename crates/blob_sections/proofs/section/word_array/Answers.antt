use Rattle.std.proofs.Common.{rules, refl}
use Rattle.blob_cursor.proofs.Counting.{reads_counted, reads_uncounted}
use Rattle.std.specs.Int.{w64}
use Rattle.blob_frame.specs.Item.{fixed}
use Rattle.blob_sections.specs.Section.{word_array}
use Rattle.blob_sections.proofs.section.word_array.Goals as goal

pub returns-in_err-count-clause-reads : goal.returns-in_err-count-clause-reads
unfolding word_array
returns-in_err-count-clause-reads g c = reads_uncounted (fixed w64) c.in_err-count.ensures.reads (search rules)

pub returns-clause-reads : goal.returns-clause-reads
unfolding word_array
returns-clause-reads g c = reads_counted (fixed w64) c.in_ok-count.ensures.reads refl c.words.ensures.reads
