use Rattle.hol_plan.proofs.Listing.{Lists}
use Rattle.hol_plan.proofs.steps.versions_of.Given as goal

abbrev pub invariant-loop-name : goal.invariant-loop-name
invariant-loop-name l = Lists l.blobs l.to l.name-index l.versions.items
