use Rattle.std.proofs.Common.{sym, subst}
use Rattle.schema_model.specs.Faults.{TellsFault}
use Rattle.json_values.specs.SchemasFrom.{TellsFirstRules}
use Rattle.json_values.proofs.Refusals.{model_keeps, later_keeps}
use Rattle.json_values.proofs.schemas.check_first_rules.Goals as goal
use Rattle.json_values.proofs.schemas.check_first_rules.Goals.{in-Ok, in-Err-Broken+then-comes_first, in-Err-Broken+else-comes_first, in-Err-Memory}

pub returns : goal.returns
returns c = elim c.match-model_of.branch [
  | in-Ok w ↦ subst (TellsFirstRules c.args.schemas) (sym w.result-is) (model_keeps c.args.schemas w.in-Ok.ensures.tells.1)
  | in-Err-Broken+then-comes_first w ↦ subst (TellsFirstRules c.args.schemas) (sym w.result-is) (w.comes_first.ensures.0 w.if-comes_first.true, (subst (TellsFault c.args.schemas) w.in-Err-Broken.field-0-is w.in-Err-Broken.ensures.tells))
  | in-Err-Broken+else-comes_first w ↦ subst (TellsFirstRules c.args.schemas) (sym w.result-is)
      (later_keeps c.args.schemas _ _ (subst (TellsFault c.args.schemas) w.in-Err-Broken.field-0-is w.in-Err-Broken.ensures.tells) (λ early. let good = w.comes_first.ensures.1 early in let bad = w.if-comes_first.false in cc))
  | in-Err-Memory w ↦ subst (TellsFirstRules c.args.schemas) (sym w.result-is) tt
]
