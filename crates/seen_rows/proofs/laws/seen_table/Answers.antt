use Rattle.schema_model.specs.declared.model.rule.Rule.TheVariants.{DuplicateName}
use Rattle.seen_rows.proofs.ViewClosed.{view_closed, view_table}
use Rattle.seen_rows.proofs.laws.seen_table.Goals as goal

pub returns-clause-table : goal.returns-clause-table
returns-clause-table c = λ own mine table model. view_table own mine table (model DuplicateName)

pub returns-clause-closed : goal.returns-clause-closed
returns-clause-closed c = λ own mine table model mine_model fits agree. view_closed own mine table (model DuplicateName) fits agree mine_model
