use Rattle.chain_laws.proofs.OneMake.{makes_one}
use Rattle.chain_laws.proofs.laws.one_make.Goals as goal

pub returns : goal.returns
returns c = makes_one (c.one_written_snapshot.ensures, c.one_written_delta.ensures) c.films_model.ensures
