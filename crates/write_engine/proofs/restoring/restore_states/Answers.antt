use Rattle.std.proofs.Common.{◌≡◌, ◌∙◌, ap, subst, length, arith}
use Rattle.write_engine.specs.RestoredRows.{HasTypesBelow, TellsFault}
use Rattle.write_engine.specs.declared.restoring.RestoreFault.TheVariants.{Memory}
use Rattle.write_engine.proofs.RestoredTypes.{fault_named, fault_passed, types_more, types_start}
use Rattle.write_engine.proofs.restoring.restore_states.Goals as goal

pub loop-type_index-init : goal.loop-type_index-init
loop-type_index-init g c = types_start (g.R.Rows.table c.args.rows.now) c.new-maps.result.items c.new-maps.ensures.items

pub loop-type_index-preserved : goal.loop-type_index-preserved
loop-type_index-preserved g c =
    let count = c.len-type_index-end.ensures.count ∙ ap length c.model.ensures.model in
    types_more (g.R.Rows.table c.args.rows.now) c.loop-type_index.type_index c.loop-type_index.maps.items c.push.new.self.items c.in_ok-map.map c.loop-type_index.invariant
    (omega (arith, count, c.model.ensures.fits.types, c.loop-type_index-test.true)) c.in_ok-map.ensures c.in_ok-push.ensures.items

pub returns-in_err-map-clause-named : goal.returns-in_err-map-clause-named
returns-in_err-map-clause-named g c =
    let table = g.R.Rows.table c.args.rows.now in
    fault_passed c.from_residual.result c.in_err-map.field-0.0 (TellsFault table) c.from_residual.ensures.1
    (fault_named table c.loop-type_index.type_index c.loop-type_index.maps.items c.in_err-map.field-0.0 c.loop-type_index.invariant c.in_err-map.ensures)

pub returns-in_err-push-clause-named : goal.returns-in_err-push-clause-named
returns-in_err-push-clause-named g c = fault_passed c.from_residual-in_err-push.result Memory (TellsFault (g.R.Rows.table c.args.rows.now)) c.from_residual-in_err-push.ensures.1 tt

pub returns-clause-made : goal.returns-clause-made
returns-clause-made g c =
    let table = g.R.Rows.table c.args.rows.now in
    let count = c.len-type_index-end.ensures.count ∙ ap length c.model.ensures.model in
    let all : c.loop-type_index.type_index ≡ length table = omega (arith, count, c.model.ensures.fits.types, c.loop-type_index-test.false) in
    subst (λ n. HasTypesBelow table n c.loop-type_index.maps.items) all c.loop-type_index.invariant
