-- Which orders are answered of what is kept of the consumer.
use Rattle.hol_io.specs.Store.{Store}
use Rattle.hol_orders.specs.declared.order.Order.{Order}
use Rattle.hol_orders.specs.declared.order.Order.TheVariants as order
use Rattle.hol_answers.specs.declared.reply.Reply.{Reply}
use Rattle.hollow_machine.specs.Kept.{Kept, Reader, kept_with_reader, machine_of}
use Rattle.hollow_machine.specs.Step.{IsLook, Step}

-- The order is none of a producer, and does not check the store.
abbrev pub IsOfReader : Order → Type 0
IsOfReader (order.Model schemas) = ⊥
IsOfReader (order.Cycle next) = ⊥
IsOfReader (order.Grow schemas) = ⊥
IsOfReader (order.Change next) = ⊥
IsOfReader (order.Restore version) = ⊥
IsOfReader (order.Check versions) = ⊥
IsOfReader _ = Unit {0}

-- The order looks at a version, or at where the consumer stands.
abbrev pub IsLookBack : Order → Type 0
IsLookBack (order.Was version name ordinal) = Unit {0}
IsLookBack (order.WasGet version name values) = Unit {0}
IsLookBack asked = IsLook asked

-- The order is answered so where this is kept of the consumer, whatever else is kept, and changes nothing.
abbrev pub StaysSo : Order → Reader → Reply → Type 0
StaysSo asked reader reply =
    (store : Store) (kept : Kept) → Step (machine_of store (kept_with_reader kept reader)) asked reply (machine_of store (kept_with_reader kept reader))
