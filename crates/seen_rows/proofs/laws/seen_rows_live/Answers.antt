use Rattle.schema_model.specs.declared.model.rule.Rule.TheVariants.{DuplicateName}
use Rattle.seen_rows.proofs.ViewClosed.{seen_live}
use Rattle.seen_rows.proofs.laws.seen_rows_live.Goals as goal

pub returns : goal.returns
returns c = λ own mine table model. seen_live own mine table (model DuplicateName)
