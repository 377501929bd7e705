use Rattle.record_json.proofs.ReadingBack.{within_back}
use Rattle.record_json.proofs.laws.read_printed.Goals as goal

pub returns : goal.returns
returns c = λ schemas t tree printed model fits range prints. within_back schemas model 32 t tree printed fits range prints
