use Rattle.write_engine.proofs.OneState.{same_some}
use Rattle.row_model.specs.Table.{row_at}
use Rattle.hol_incremental.proofs.KeptTrees.{added_again}
use Rattle.hol_incremental.proofs.laws.added_again.Goals as goal

pub returns : goal.returns
returns c = λ schemas previous before t ordinal model closed stored agree types live.
    let (after, adds, kept, there) = added_again schemas previous previous model closed stored closed.closed (λ u o a b is is'. same_some a b (row_at previous u o) is is') t ordinal live live before agree types in
    (after, adds, kept.beside)
