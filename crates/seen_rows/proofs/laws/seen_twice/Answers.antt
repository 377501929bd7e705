use Rattle.schema_model.specs.declared.model.rule.Rule.TheVariants.{DuplicateName}
use Rattle.seen_rows.proofs.ViewTwice.{row_twice, view_twice}
use Rattle.seen_rows.proofs.laws.seen_twice.Goals as goal

pub returns-clause-rows : goal.returns-clause-rows
returns-clause-rows c = row_twice

pub returns-clause-tables : goal.returns-clause-tables
returns-clause-tables c = λ own grown mine table model grown_model. view_twice own grown mine table (model DuplicateName) (grown_model DuplicateName)
