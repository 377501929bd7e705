use Rattle.consumer_orders.proofs.index_order.index.Given as goal

-- The ledger is that of the blank.
abbrev pub ghosts-keep_index : goal.ghosts-keep_index
ghosts-keep_index a = record { name = a.blank.name; parts = a.blank.parts }
