use Rattle.library_example.proofs.shop.Given as goal

-- The ledger is that of the blank.
abbrev pub ghosts-follow : goal.ghosts-follow
ghosts-follow a = record { name = a.blank.name; parts = a.blank.parts }
