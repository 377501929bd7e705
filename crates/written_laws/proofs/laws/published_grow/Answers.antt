use Rattle.written_laws.proofs.PublishedLine.{published_agree, published_grow}
use Rattle.written_laws.proofs.laws.published_grow.Goals as goal

pub returns : goal.returns
returns c = record { grows = published_grow; agree = published_agree }
