use Rattle.written_laws.proofs.SeenStates.{own_seen, seen_closed, seen_quiet, seen_table}
use Rattle.written_laws.proofs.laws.state_seen.Goals as goal

pub returns : goal.returns
returns c = record { table = seen_table; closed = seen_closed; quiet = seen_quiet; own = own_seen }
