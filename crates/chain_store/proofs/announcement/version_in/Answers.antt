use Rattle.chain_store.proofs.Announcing.{no_text}
use Rattle.chain_store.proofs.announcement.version_in.Goals as goal

pub returns-in_default : goal.returns-in_default
returns-in_default c = no_text c.args.content.now c.in_default.ensures.cases.0
