use Rattle.std.proofs.Common.{rules}
use Rattle.blob_cursor.proofs.Chain.{reads_judged, reads_unread}
use Rattle.blob_sections.specs.Section.{max_ordinal}
use Rattle.blob_sections.proofs.Items.{max_none, max_some}
use Rattle.blob_sections.proofs.section.max_ordinal.Goals as goal

pub returns-in_err-number : goal.returns-in_err-number
unfolding max_ordinal
returns-in_err-number g c = record { reads = reads_unread _ _ _ c.in_err-number.ensures.reads (search rules) }

pub returns-then-number : goal.returns-then-number
unfolding max_ordinal
returns-then-number g c = record { reads = reads_judged _ _ _ c.in_ok-number.ensures.reads (max_none c.in_ok-number.number (search rules)) }

pub returns : goal.returns
unfolding max_ordinal
returns g c = record { reads = reads_judged _ _ _ c.in_ok-number.ensures.reads (max_some c.in_ok-number.number (search rules)) }
