use Rattle.written_laws.proofs.DeltaRead.{delta_is}
use Rattle.written_laws.proofs.StatesBack.{states_back}
use Rattle.written_laws.proofs.laws.written_delta.Goals as goal

pub returns : goal.returns
returns c = record {
  moves = λ schemas old new origin destination blob are from to is short. delta_is schemas old new are origin destination blob from to is short;
  back = λ schemas old new origin destination blob are from to is short. delta_is schemas new old (states_back schemas old new are) destination origin blob to from is short;
}
