use Rattle.std.proofs.Common.{sym, ◌∙◌}
use Rattle.row_widths.proofs.RecordSpreads.{boolean_none}
use Rattle.row_widths.proofs.records.field_width.Goals as goal

pub returns-then-bits-eq0 : goal.returns-then-bits-eq0
returns-then-bits-eq0 c = λ values bits bytes. rw c.in-Boolean.is (boolean_none values (sym c.if-bits-eq0.true ∙ bits))
