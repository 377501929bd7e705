use Rattle.chain_laws.proofs.CheckedChains.{none_differs}
use Rattle.chain_laws.proofs.laws.chain_check_agrees.Goals as goal

pub returns : goal.returns
returns c = λ machine next chain versions difference holds agree step.
    none_differs machine.store chain versions holds agree difference.version difference.type_name difference.ordinal step.0.0 step.0.1
