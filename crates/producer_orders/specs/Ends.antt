-- How a part of a cycle ends: with what it makes, with a refusal, or before the cycle is answered.
use Rattle.std.specs.Prelude.{◌≡◌, ◌≤◌, ℕ, Result, Ok, Err}
use Rattle.std.specs.Result.{IsErrOf}
use Rattle.hol_io.specs.Causes.{Rose}
use Rattle.schema_model.specs.declared.limit.Limit.TheVariants as limit
use Rattle.blob_writing.specs.declared.fault.WriteFault.{WriteFault}
use Rattle.blob_writing.specs.declared.fault.WriteFault.TheVariants as write
use Rattle.hol_answers.specs.declared.refusal.Refusal.{Refusal}
use Rattle.hol_answers.specs.declared.refusal.Refusal.TheVariants.{TooLarge}
use Rattle.hol_orders.specs.declared.order_stop.OrderStop.{OrderStop}
use Rattle.hol_orders.specs.declared.order_stop.OrderStop.TheVariants as stop
use Rattle.producer_orders.specs.declared.cycle_end.CycleEnd.{CycleEnd}
use Rattle.producer_orders.specs.declared.cycle_end.CycleEnd.TheVariants.{Refused, Stopped}

-- how a cycle ends whose blobs are not written
abbrev pub end_of : WriteFault → CycleEnd
end_of write.Large = Refused (TooLarge limit.Blob)
end_of write.Memory = Stopped stop.Memory

-- What an end means: what is made, why it is refused, and why it stops.
abbrev pub TellsEnd : {T : Type 0} → (T → Type 0) → (Refusal → Type 0) → (OrderStop → Type 0) → Result T CycleEnd → Type 0
TellsEnd Made Refuses Stops (Ok made) = Made made
TellsEnd Made Refuses Stops (Err (Refused refusal)) = Refuses refusal
TellsEnd Made Refuses Stops (Err (Stopped reason)) = Stops reason

-- Want of memory is what it stops for.
abbrev pub IsMemory : OrderStop → Type 0
IsMemory reason = reason ≡ stop.Memory

-- It may stop for any reason.
abbrev pub IsAnyStop : OrderStop → Type 0
IsAnyStop reason = Unit {0}

-- The store's count of faults never falls, and a cycle stops for the store only where the count rose.
pub record HasEndCause {T : Type 0} (before now : ℕ) (result : Result T CycleEnd) : Type 0 where
  pub later : before ≤ now
  pub failed : IsErrOf result (Stopped stop.Store) → Rose before now
