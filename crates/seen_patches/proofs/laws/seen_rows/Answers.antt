use Rattle.seen_patches.proofs.Reading as reading
use Rattle.seen_patches.proofs.laws.seen_rows.Goals as goal

pub returns : goal.returns
returns c = record { spells = reading.seen_spells; fails = reading.seen_fails }
