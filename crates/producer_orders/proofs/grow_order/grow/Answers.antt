use Rattle.std.proofs.Common.{IfOk, Option, Some, sym, subst}
use Rattle.serde_json.specs.View.{view}
use Rattle.hol_io.specs.Store.{Store}
use Rattle.hollow_machine.specs.GrowOrder.{GrowStep}
use Rattle.hollow_machine.specs.Kept.{Kept, kept_with_producer, machine_of}
use Rattle.write_engine.specs.Production.{Production}
use Rattle.producer_orders.proofs.grow_order.grow.Goals as goal

pub returns-in-Some-clause-step : goal.returns-in-Some-clause-step
returns-in-Some-clause-step c =
    subst (λ (old : Option Production). (store : Store) (kept : Kept) → IfOk c.grow_producer.result (λ reply. GrowStep (machine_of store (kept_with_producer kept old)) (view c.args.value.now) reply (machine_of store (kept_with_producer kept (Some c.grow_producer.new.producer)))))
    (sym c.in-Some.is) c.grow_producer.ensures.step
