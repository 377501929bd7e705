use Rattle.std.proofs.Common.{ℕ, subst}
use Rattle.type_rows.specs.Ordinals.{HasNoPlace, HoldsNowhere}
use Rattle.type_rows.proofs.test.test_section.Goals as goal

pub test_live-requires-clause-placed : goal.test_live-requires-clause-placed
test_live-requires-clause-placed c =
    subst (λ (places : ℕ). HoldsNowhere (HasNoPlace c.args.section.now.live places)) c.place_count-places.ensures.is c.in-None.ensures.least
