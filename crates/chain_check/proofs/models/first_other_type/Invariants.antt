use Rattle.chain_check.proofs.ModelsApart.{FirstAgree}
use Rattle.chain_check.proofs.models.first_other_type.Given as goal

-- the first types agree
abbrev pub invariant-loop-type_index : goal.invariant-loop-type_index
invariant-loop-type_index l = FirstAgree l.walked l.fresh l.type_index
