use Rattle.hollow_top.proofs.OneAnswer.{one_text}
use Rattle.hollow_top.proofs.laws.one_answer.Goals as goal

pub returns : goal.returns
returns c = one_text c.one_row_value.ensures c.one_snapshot.ensures c.one_fault.ensures.apart c.one_script.ensures.run c.one_make.ensures
