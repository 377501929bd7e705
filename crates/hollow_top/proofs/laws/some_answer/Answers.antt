use Rattle.hollow_top.proofs.SomeAnswer.{some_head, some_show}
use Rattle.hollow_top.proofs.laws.some_answer.Goals as goal

pub returns-clause-head : goal.returns-clause-head
returns-clause-head c = some_head c.one_header.ensures

pub returns-clause-show : goal.returns-clause-show
returns-clause-show c = some_show c.some_fault.ensures c.rows_fit.ensures.fits
