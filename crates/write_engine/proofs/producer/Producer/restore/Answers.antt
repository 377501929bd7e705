use Rattle.std.proofs.Common.{rules, ◌≡◌, ◌∙◌, ap, sym, subst, w64, to_z, of_z}
use Rattle.std.specs.Prelude.{Ok, false, None}
use Rattle.std.proofs.Math.Seq.{take-length}
use Rattle.write_engine.specs.Cycle.{no_rows}
use Rattle.write_engine.specs.Production.{IsProducing}
use Rattle.write_engine.specs.Restoring.{TellsRestored}
use Rattle.write_engine.specs.declared.restoring.RestoreFault.TheVariants.{Memory}
use Rattle.write_engine.proofs.Duplicates.{distinct_once, duplicate, fault_tells, restored}
use Rattle.write_engine.proofs.Producing.{made, restored_producing, restored_view}
use Rattle.write_engine.proofs.RestoredTypes.{all_distinct}
use Rattle.write_engine.proofs.producer.Producer.restore.Goals as goal

pub invariant_of-result : goal.invariant_of-result
invariant_of-result g c =
    let schemas = g.R.Rows.schemas c.args.rows.now in
    let table = g.R.Rows.table c.args.rows.now in
    let maps = c.in_ok-maps.maps.items in
    let has = c.in_ok-maps.ensures.made in
    let once = distinct_once table c.requires.low (all_distinct table maps has) in
    subst (λ model. IsProducing model maps) (sym (c.in_ok-model.ensures ∙ c.model.ensures.model))
    (restored_producing schemas table maps (has.previous ∙ take-length table) (has.current ∙ ap no_rows c.model.ensures.fits.types) c.model.ensures.fits c.requires.closed once c.requires.stored)

pub returns : goal.returns
returns g c =
    let schemas = g.R.Rows.schemas c.args.rows.now in
    let table = g.R.Rows.table c.args.rows.now in
    let maps = c.in_ok-maps.maps.items in
    let has = c.in_ok-maps.ensures.made in
    let once = distinct_once table c.requires.low (all_distinct table maps has) in
    let same : to_z w64 (of_z w64 c.args.tag) ≡ c.args.tag = search rules in
    let producer = made c.in_ok-model.model maps (to_z w64 (of_z w64 c.args.tag)) c.args.version false None in
    let view = restored_view schemas c.in_ok-model.model table maps c.args.tag (to_z w64 (of_z w64 c.args.tag)) c.args.version (c.in_ok-model.ensures ∙ c.model.ensures.model) (has.previous ∙ take-length table) (has.current ∙ ap no_rows c.model.ensures.fits.types) same in
    let tells : TellsRestored schemas table c.args.tag c.args.version (Ok producer) = (once, view) in
    record {
      tells = tells;
      restored = restored schemas table c.args.tag c.args.version (Ok producer) tells;
      duplicate = duplicate schemas table c.args.tag c.args.version (Ok producer) tells;
    }

pub returns-in_err-maps : goal.returns-in_err-maps
returns-in_err-maps g c =
    let schemas = g.R.Rows.schemas c.args.rows.now in
    let table = g.R.Rows.table c.args.rows.now in
    let result = c.from_residual.result in
    let tells = fault_tells schemas table c.args.tag c.args.version result c.in_err-maps.field-0.0 c.from_residual.ensures.1 c.in_err-maps.ensures.named in
    record { tells = tells; restored = restored schemas table c.args.tag c.args.version result tells; duplicate = duplicate schemas table c.args.tag c.args.version result tells }

pub returns-in_err-model : goal.returns-in_err-model
returns-in_err-model g c =
    let schemas = g.R.Rows.schemas c.args.rows.now in
    let table = g.R.Rows.table c.args.rows.now in
    let result = c.from_residual-in_err-model.result in
    let tells = fault_tells schemas table c.args.tag c.args.version result Memory c.from_residual-in_err-model.ensures.1 tt in
    record { tells = tells; restored = restored schemas table c.args.tag c.args.version result tells; duplicate = duplicate schemas table c.args.tag c.args.version result tells }
