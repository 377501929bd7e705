use Rattle.row_model.specs.Unfold.{unfold_row}
use Rattle.record_json.proofs.PrintingWhole.{model_shallow}
use Rattle.record_json.proofs.UnfoldingFits.{known_type, within_fits}
use Rattle.record_json.proofs.laws.unfold_fits.Goals as goal

pub returns : goal.returns
unfolding unfold_row
returns c = λ schemas table t ordinal model fits closed live apart.
    let (schema, found) = known_type schemas table t ordinal fits live in
    within_fits schemas table model fits closed 32 t ordinal live (model_shallow schemas t schema model found) apart
