use Rattle.type_rows.proofs.ReadRows as read
use Rattle.type_rows.proofs.spelled.one_or_fails.Goals as goal

pub returns : goal.returns
returns c = record {
  each = read.place_read;
  reason = λ shape section place a b. read.reason_once shape section place a b c.one_row.ensures.reason;
  apart = λ shape section place row reason. read.row_or_reason shape section place row reason c.one_row.ensures.apart;
}
