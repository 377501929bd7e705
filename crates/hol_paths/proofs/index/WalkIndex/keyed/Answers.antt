use Rattle.std.proofs.Common.{subst}
use Rattle.hol_paths.specs.Walked.{CountsOwners, Walked}
use Rattle.hol_paths.proofs.index.WalkIndex.keyed.Goals as goal

pub returns : goal.returns
returns c = subst (λ (w : Walked). CountsOwners w.entries c.self.inside.keyed) c.self.view_is c.self.invariant.counts
