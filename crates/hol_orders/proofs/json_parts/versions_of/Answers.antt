use Rattle.std.proofs.Common.{arith, subst, sym}
use Rattle.hol_orders.proofs.Walks.{versions_stop, versions_step, versions_more}
use Rattle.hol_orders.specs.Shapes.{AreVersions}
use Rattle.hol_orders.proofs.json_parts.versions_of.Goals as goal

pub returns-in_err-version : goal.returns-in_err-version
returns-in_err-version c = versions_stop c.args.items.now c.loop-item.item-index c.item-item.result c.from_residual.result c.in_err-version.field-0.0 c.from_residual.ensures.1 (omega arith) c.item-item.is c.in_err-version.ensures

pub loop-item-preserved : goal.loop-item-preserved
loop-item-preserved c = record {
  same = versions_step c.args.items.now c.loop-item.item-index c.item-item.result c.loop-item.versions c.push.new.self c.in_ok-version.field-0 (omega arith) c.item-item.is c.loop-item.invariant.same c.in_ok-version.ensures.1 c.in_ok-push.ensures.ok;
  each = subst AreVersions (sym c.in_ok-push.ensures.ok) (versions_more c.loop-item.versions c.in_ok-version.field-0 c.loop-item.invariant.each c.in_ok-version.ensures.0);
}
