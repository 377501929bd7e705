use Rattle.std.proofs.Common.{ap, ◌∙◌, ℕ, List, sym, subst}
use Rattle.std.proofs.lemmas.Result.{err_from_is_err_and}
use Rattle.schema_model.specs.declared.schema.Schema.{Schema}
use Rattle.row_model.specs.Table.{Table}
use Rattle.row_packing.specs.Measured.{AreMeasured}
use Rattle.write_engine.specs.CycleLimit.{TellsCycle}
use Rattle.write_engine.specs.Production.{Production}
use Rattle.write_engine.specs.declared.producer.Closed.{Closed}
use Rattle.hol_incremental.specs.EditKeys.{AreReady}
use Rattle.hollow_machine.specs.Records.{edited}
use Rattle.state_blobs.specs.Published.{published_of}
use Rattle.producer_orders.specs.Ends.{IsMemory}
use Rattle.producer_orders.specs.Making.{AreRefused}
use Rattle.change_orders.specs.Making.{IsEdit, IsEditedState}
use Rattle.change_orders.proofs.Changing.{closed_ready, edited_closed, made_ready, same_end}
use Rattle.change_orders.proofs.change_order.make_edited.Goals as goal

pub returns-clause-tells : goal.returns-clause-tells
returns-clause-tells g c = λ asked lists.
    edited_closed c.args.producer.now c.edit.new.producer c.close_by.new.self asked c.in_ok-missing.missing c.in_ok-closed.closed c.edit.ensures.kept c.in_ok-closed.ensures.ok (c.in_ok-missing.ensures.tells asked lists)
    c.in_ok-closed.ensures.changed c.in_ok-closed.ensures.first c.in_ok-closed.ensures.over c.in_ok-closed.ensures.measured c.previous.ensures.closed.fits.types c.current.ensures.closed.fits.types

pub pack-requires-clause-ready : goal.pack-requires-clause-ready
pack-requires-clause-ready g c =
    closed_ready c.args.producer.now c.edit.new.producer c.close_by.new.self c.edit.new.edits c.edit.ensures.kept c.in_ok-closed.ensures.ok c.in_ok-missing.ensures.ready

pub pack-requires-clause-over : goal.pack-requires-clause-over
pack-requires-clause-over g c =
    subst (λ (p : Production). TellsCycle p.schemas p.previous p.current p.version c.in_ok-closed.closed.changed p.over) (sym c.in_ok-closed.ensures.ok) c.in_ok-closed.ensures.over

pub returns-in_err-pack-clause-refused : goal.returns-in_err-pack-clause-refused
returns-in_err-pack-clause-refused g c =
    let old = c.args.producer.now in
    let p = err_from_is_err_and c.from_residual-in_err-pack.result c.from_residual-in_err-pack.ensures.1 in
    rw p.1 (made_ready old c.edit.new.producer c.close_by.new.self c.pack.new.edits c.edit.ensures.kept c.in_ok-closed.ensures.ok c.pack.ensures.ready).now

pub returns-in_err-pack-clause-kept : goal.returns-in_err-pack-clause-kept
returns-in_err-pack-clause-kept g c = ap published_of c.in_ok-closed.ensures.ok ∙ ap published_of c.edit.ensures.kept

pub returns-clause-ready : goal.returns-clause-ready
returns-clause-ready g c = made_ready c.args.producer.now c.edit.new.producer c.close_by.new.self c.pack.new.edits c.edit.ensures.kept c.in_ok-closed.ensures.ok c.pack.ensures.ready

pub returns-clause-kept : goal.returns-clause-kept
returns-clause-kept g c = ap published_of c.in_ok-closed.ensures.ok ∙ ap published_of c.edit.ensures.kept

pub returns-in_err-missing-clause-tells : goal.returns-in_err-missing-clause-tells
returns-in_err-missing-clause-tells g c = λ asked lists.
    (let p = err_from_is_err_and c.from_residual.result c.from_residual.ensures.1 in
    let last = published_of c.args.producer.now in
    rw (p.1, p.2) (same_end {T = ℕ} {U = ℕ × Closed} (IsEdit last asked c.edit.new.producer.current) (IsEditedState last asked c.edit.new.producer) (AreRefused last (edited asked.put asked.remove)) IsMemory c.in_err-missing.field-0.0
    (c.in_err-missing.ensures.tells asked lists)))

pub measured-requires-clause-ready : goal.measured-requires-clause-ready
measured-requires-clause-ready g c =
    rw (c.current.ensures.schemas, c.previous.ensures.table, c.current.ensures.table)
    (subst (λ (p : Production). AreReady p.schemas p.previous c.edit.new.producer.current c.edit.new.edits) (sym c.edit.ensures.kept) c.in_ok-missing.ensures.ready)

pub close_by-requires-clause-measured : goal.close_by-requires-clause-measured
close_by-requires-clause-measured g c =
    let made = c.edit.new.producer in
    let measured = c.in_ok-measured.measured in
    subst (λ (schemas : List Schema). AreMeasured schemas made.previous made.current measured) c.current.ensures.schemas
    (subst (λ (rows : Table). AreMeasured c.current.result.schemas made.previous rows measured) c.current.ensures.table
    (subst (λ (rows : Table). AreMeasured c.current.result.schemas rows c.current.result.table measured) c.previous.ensures.table c.in_ok-measured.ensures))
