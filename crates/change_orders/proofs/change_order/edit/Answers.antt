use Rattle.std.proofs.Common.{◌∙◌, ℕ, List, Err, ap, sym, subst}
use Rattle.schema_model.specs.Model.{IsModel}
use Rattle.schema_model.specs.declared.schema.Schema.{Schema}
use Rattle.row_model.specs.Table.{Table}
use Rattle.write_engine.specs.Agreement.{HoldsOnce}
use Rattle.write_engine.specs.Production.{Production}
use Rattle.hol_incremental.specs.declared.fault.ChangeFault.{ChangeFault}
use Rattle.hollow_machine.specs.Records.{edited}
use Rattle.state_blobs.specs.Published.{published_of}
use Rattle.producer_orders.specs.Ends.{IsMemory, TellsEnd}
use Rattle.producer_orders.specs.Making.{AreRefused}
use Rattle.producer_orders.specs.declared.cycle_end.CycleEnd.{CycleEnd}
use Rattle.change_orders.specs.Making.{IsEdit}
use Rattle.change_orders.proofs.Changing.{edit_full, edit_made}
use Rattle.change_orders.proofs.change_order.edit.Goals as goal

pub returns-in-Ok-clause-tells : goal.returns-in-Ok-clause-tells
returns-in-Ok-clause-tells g c = λ asked lists.
    edit_made c.args.producer.now c.change.new.producer.current asked c.args.put.now c.args.remove.now c.in-Ok.missing lists c.in-Ok.ensures.next c.in-Ok.ensures.missing

pub returns-in-Err-TooMany-clause-tells : goal.returns-in-Err-TooMany-clause-tells
returns-in-Err-TooMany-clause-tells g c = λ asked lists.
    (let old = c.args.producer.now in
    let kept = c.change.ensures.kept in
    let model = subst (λ (schemas : List Schema). IsModel schemas) (ap (λ (p : Production). p.schemas) kept) c.too_many.ensures.model in
    let once = subst (λ (rows : Table). HoldsOnce rows) (ap (λ (p : Production). p.previous) kept) c.too_many.ensures.once in
    subst (λ (end : CycleEnd). TellsEnd {T = ℕ} (IsEdit (published_of old) asked c.change.new.producer.current) (AreRefused (published_of old) (edited asked.put asked.remove)) IsMemory (Err end)) (sym c.too_many.ensures.is)
    (edit_full old asked c.args.put.now c.args.remove.now model once (c.change.ensures.too_many.0 (c.in-Err-TooMany.is ∙ ap (λ (fault : ChangeFault). Err fault) c.in-Err-TooMany.field-0-is)) lists))
