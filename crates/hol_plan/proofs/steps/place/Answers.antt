use Rattle.hol_plan.proofs.Places.{placed}
use Rattle.hol_plan.proofs.steps.place.Goals as goal

pub returns : goal.returns
returns c = rw c.ok.ensures.value (placed c.args.versions.now c.args.version c.requires c.binary_search.result c.binary_search.ensures.position)
