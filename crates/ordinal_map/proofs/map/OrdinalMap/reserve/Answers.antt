use Rattle.std.proofs.Common.{refl}
use Rattle.ordinal_map.proofs.Keeping.{alike_kept}
use Rattle.ordinal_map.proofs.map.OrdinalMap.reserve.Goals as goal

pub invariant_of-self : goal.invariant_of-self
invariant_of-self c =
    alike_kept c.self.inside.rows.items c.self.inside.chains c.self.inside.previous c.self.inside.current c.self.inside.filled c.self.invariant c.self.inside.rows.items c.make_links.new.chains (record { row = λ o. refl; hash = c.make_links.ensures.hashes }) c.self.invariant.few c.make_links.ensures.roomy
