use Rattle.written_laws.proofs.ChainSteps.{step_agrees, step_leads, step_read}
use Rattle.written_laws.proofs.laws.chain_step.Goals as goal

pub returns : goal.returns
returns c = record {
  leads = λ store chain mine name blob origin destination patch version state holds model. step_leads store chain holds mine model name blob origin destination patch version state;
  read = λ store chain mine name blob version state holds model. step_read store chain holds mine model name blob version state;
  agrees = λ store chain mine name blob holds model. step_agrees store chain holds mine model name blob;
}
