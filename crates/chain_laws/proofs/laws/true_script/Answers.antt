use Rattle.std.proofs.Common.{refl}
use Rattle.hollow_machine.specs.State.{started}
use Rattle.chain_laws.proofs.BlobTags.{kept_of_bytes}
use Rattle.chain_laws.proofs.Headlines.{true_lines}
use Rattle.chain_laws.proofs.laws.true_script.Goals as goal

pub returns : goal.returns
returns c = λ store next lines text refused chain script holds bytes.
    true_lines chain (started store) next lines text refused (record { kept = kept_of_bytes store chain holds bytes; producer = tt; consumer = refl }) script
