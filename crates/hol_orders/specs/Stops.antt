-- Why an order stops before it is answered, and that it has a cause.
use Rattle.std.specs.Prelude.{◌≤◌, ℕ, Result}
use Rattle.std.specs.Result.{IsErrOf}
use Rattle.hol_io.specs.Causes.{Rose}
use Rattle.hol_io.specs.declared.store.PutFault.{PutFault}
use Rattle.hol_io.specs.declared.store.PutFault.TheVariants as put
use Rattle.hol_orders.specs.declared.order_stop.OrderStop.{OrderStop}
use Rattle.hol_orders.specs.declared.order_stop.OrderStop.TheVariants as stop

-- why an order stops where a put or a list was refused
abbrev pub stop_of : PutFault → OrderStop
stop_of put.Failed = stop.Store
stop_of put.Memory = stop.Memory

-- The store's count of faults never falls, and the order stops for the store only where the count rose.
pub record HasStopCause {T : Type 0} (before now : ℕ) (result : Result T OrderStop) : Type 0 where
  pub later : before ≤ now
  pub failed : IsErrOf result stop.Store → Rose before now
