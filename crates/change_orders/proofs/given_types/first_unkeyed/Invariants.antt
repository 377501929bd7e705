use Rattle.std.proofs.Common.{ℕ, ◌<◌}
use Rattle.hol_incremental.specs.Roots.{IsKeyed}
use Rattle.hol_orders.specs.Parts.{asked_change}
use Rattle.hollow_machine.specs.ChangeOrder.{IsGivenType}
use Rattle.change_orders.proofs.given_types.first_unkeyed.Given as goal

-- the types before this one that are named have primary keys
abbrev pub invariant-loop-type_index : goal.invariant-loop-type_index
invariant-loop-type_index l = (t : ℕ) → t < l.type_index → IsGivenType l.model (asked_change l.next) t → IsKeyed l.model t
