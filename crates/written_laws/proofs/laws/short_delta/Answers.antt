use Rattle.written_laws.proofs.DeltaRead.{delta_read}
use Rattle.written_laws.proofs.StatesBack.{states_back}
use Rattle.written_laws.proofs.laws.short_delta.Goals as goal

pub returns : goal.returns
returns c = record {
  moves = λ schemas old new origin destination blob are from to short is. delta_read schemas old new are origin destination blob from to short is;
  back = λ schemas old new origin destination blob are from to short is. delta_read schemas new old (states_back schemas old new are) destination origin blob to from short is;
}
