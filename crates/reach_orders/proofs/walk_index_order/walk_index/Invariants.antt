use Rattle.reach_orders.proofs.walk_index_order.walk_index.Given as goal

-- The ledger is that of the blank.
abbrev pub ghosts-keep_walk : goal.ghosts-keep_walk
ghosts-keep_walk a = record { name = a.blank.name; parts = a.blank.parts }
