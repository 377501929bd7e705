use Rattle.model_rules.proofs.making.first_too_deep.Goals as goal

-- some type is too deep, so the rule is not kept
pub returns-in-Ok-check_depth : goal.returns-in-Ok-check_depth
returns-in-Ok-check_depth c = absurd (c.in-Ok-check_depth.ensures c.args.deep c.requires.deep)
