use Rattle.chain_laws.proofs.Lines.{line_keeps}
use Rattle.chain_laws.proofs.laws.line_keeps_chain.Goals as goal

pub returns : goal.returns
returns c = λ machine next line answer chain step kept over.
    let (after, grows, held, moved, extends) = line_keeps machine line chain kept over answer next step in (after, grows, held, moved)
