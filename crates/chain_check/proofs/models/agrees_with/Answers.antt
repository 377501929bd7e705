use Rattle.std.proofs.Common.{◌∙◌, refl, sym}
use Rattle.std.proofs.lemmas.Bool.{false≢true}
use Rattle.chain_check.proofs.ModelsApart.{agrees_there, name_there, named_at, not_there}
use Rattle.chain_check.proofs.models.agrees_with.Goals as goal

pub returns-in-None-clause-agree : goal.returns-in-None-clause-agree
returns-in-None-clause-agree c = λ yes place other at named.
    absurd (not_there place ((c.in-None.ensures.found place).1 (named_at c.args.model.now place other c.args.schema.now.name c.text.result.now at named c.text.ensures)))

pub returns-in-Some-clause-agree : goal.returns-in-Some-clause-agree
returns-in-Some-clause-agree c = λ yes place other at named.
    agrees_there c.args.schema.now c.args.model.now c.in-Some.place place c.schema.result.now other
    ((c.in-Some.ensures.found place).1 (named_at c.args.model.now place other c.args.schema.now.name c.text.result.now at named c.text.ensures))
    c.schema.ensures.value at (c.agree_by_place.ensures.0 yes)

pub returns-in-Some-clause-apart : goal.returns-in-Some-clause-apart
returns-in-Some-clause-apart c = λ no. (
  c.in-Some.place,
  c.schema.result.now,
  c.schema.ensures.value,
  name_there c.args.model.now c.in-Some.place c.schema.result.now c.args.schema.now.name c.text.result.now c.schema.ensures.value ((c.in-Some.ensures.found c.in-Some.place).0 refl) c.text.ensures,
  λ agree. false≢true (sym no ∙ c.agree_by_place.ensures.1 agree),
)
