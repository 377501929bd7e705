use Rattle.hol_varint.proofs.Windows.{window_stands, window_null, window_long, window_utf, window_bad}
use Rattle.hol_varint.proofs.laws.windows.Goals as goal

pub returns-clause-varint : goal.returns-clause-varint
returns-clause-varint c = window_stands

pub returns-clause-null : goal.returns-clause-null
returns-clause-null c = window_null

pub returns-clause-long : goal.returns-clause-long
returns-clause-long c = window_long

pub returns-clause-utf : goal.returns-clause-utf
returns-clause-utf c = window_utf

pub returns-clause-bad : goal.returns-clause-bad
returns-clause-bad c = window_bad
