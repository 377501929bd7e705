use Rattle.byte_laws.proofs.NextRows.{next_bytes, none_bytes}
use Rattle.byte_laws.proofs.SeenRows.{view_bytes}
use Rattle.byte_laws.proofs.laws.byte_states.Goals as goal

pub returns : goal.returns
returns c = record { none = none_bytes; next = next_bytes; seen = view_bytes }
