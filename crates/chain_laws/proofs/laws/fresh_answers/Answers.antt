use Rattle.std.proofs.Common.{refl}
use Rattle.chain_laws.proofs.Afresh.{answered_afresh, walk_afresh, walk_answered}
use Rattle.chain_laws.proofs.laws.fresh_answers.Goals as goal

pub returns : goal.returns
returns c = record {
  kinds = (refl, refl, refl, refl, refl, refl, refl);
  same = answered_afresh;
  walked = λ machine fresh chain name path answer holds of afresh. walk_answered machine fresh chain name path answer holds of afresh;
  still = λ machine fresh next chain name path answer holds of afresh step. walk_afresh machine fresh chain name path answer holds of afresh next step;
}
