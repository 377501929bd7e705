use Rattle.layer_cases.proofs.outside.counts_steps.Given as goal

-- The ledger is that of the blank.
abbrev pub ghosts-counts : goal.ghosts-counts
ghosts-counts a = record { name = a.blank.name; parts = a.blank.parts }
