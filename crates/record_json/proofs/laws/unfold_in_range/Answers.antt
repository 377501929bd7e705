use Rattle.row_model.specs.Unfold.{unfold_row}
use Rattle.record_json.proofs.UnfoldingInRange.{within_in_range}
use Rattle.record_json.proofs.laws.unfold_in_range.Goals as goal

pub returns : goal.returns
unfolding unfold_row
returns c = λ schemas table t ordinal ranges. within_in_range schemas table ranges 32 t ordinal
