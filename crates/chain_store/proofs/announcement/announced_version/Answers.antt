use Rattle.chain_store.proofs.Announcing.{long_is_bad}
use Rattle.chain_store.proofs.announcement.announced_version.Goals as goal

pub returns-then-size-clause-tells : goal.returns-then-size-clause-tells
returns-then-size-clause-tells g c = long_is_bad _ _ c.in_ok-size.field-0 c.in-Some.size c.in_ok-size.ensures.size c.in-Some.is c.if-size.true
