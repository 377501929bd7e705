use Rattle.write_engine.proofs.NextStates.{record_more}
use Rattle.write_engine.proofs.laws.one_record_more.Goals as goal

pub returns : goal.returns
returns c = record_more
