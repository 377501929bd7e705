use Rattle.change_orders.proofs.change_order.change.Given as goal

-- The ledger is that of the blank.
abbrev pub ghosts-change_of : goal.ghosts-change_of
ghosts-change_of g a = record { name = a.blank.name; parts = a.blank.parts }
