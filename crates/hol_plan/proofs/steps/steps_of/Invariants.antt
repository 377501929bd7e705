use Rattle.hol_plan.proofs.Listing.{Steps}
use Rattle.hol_plan.proofs.steps.steps_of.Given as goal

abbrev pub invariant-loop-name : goal.invariant-loop-name
invariant-loop-name l = Steps l.blobs l.versions l.name-index l.steps.items
