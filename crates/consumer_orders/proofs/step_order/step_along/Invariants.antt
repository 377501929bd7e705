use Rattle.consumer_orders.proofs.step_order.step_along.Given as goal

-- The ledger is that of the blank.
abbrev pub ghosts-move_along : goal.ghosts-move_along
ghosts-move_along g a = record { name = a.blank.name; parts = a.blank.parts }
