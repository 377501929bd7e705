use Rattle.hollow_make.proofs.Walks.{is_walk, none_walked, some_versions}
use Rattle.hollow_make.proofs.walk.check_walk.Goals as goal

pub returns-then-is_empty-clause-reply : goal.returns-then-is_empty-clause-reply
returns-then-is_empty-clause-reply g c = none_walked (g.S.BlobStore.seen c.args.store.now).held c.args.published.now (c.is_empty.ensures.0 c.if-is_empty.true)

pub check-requires : goal.check-requires
check-requires g c = record { walk = is_walk c.args.published.now c.in_ok-versions.versions c.requires (some_versions c.args.published.now c.is_empty.result c.if-is_empty.false c.is_empty.ensures) c.in_ok-versions.ensures }
