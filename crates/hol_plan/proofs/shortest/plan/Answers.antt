use Rattle.std.proofs.Common.{Some, None, subst}
use Rattle.hol_plan.specs.Start.{IsWalkOf}
use Rattle.hol_plan.specs.Ways.{way_at}
use Rattle.hol_plan.proofs.Plans.{answered, begun, descends, none_is}
use Rattle.hol_plan.proofs.shortest.plan.Goals as goal

pub walk-requires-clause-descend : goal.walk-requires-clause-descend
walk-requires-clause-descend c = rw c.deref-in-Some.ensures.value (descends c.as_slice-blobs.result.now c.args.to c.deref.result.now (way_at c.in_ok-ways.ways.items) c.in_ok-ways.ensures)

pub walk-requires-clause-found : goal.walk-requires-clause-found
walk-requires-clause-found c = begun c.as_slice-blobs.result.now c.in_ok-versions.versions.items c.deref-2.result.now c.deref-4.result.now c.in_ok-ways.ways.items c.deref-3.result.now c.deref-5.result.now
    c.deref-in-Some.result.now c.args.from c.own_start-own.result c.nearest_snapshot.result c.in-Some.begin c.deref-2.ensures.value c.deref-4.ensures.value c.deref-3.ensures.value c.deref-5.ensures.value
    c.deref-in-Some.ensures.value c.own_start-own.ensures c.nearest_snapshot.ensures c.in-Some.ensures

pub returns-in-Some-clause-plan : goal.returns-in-Some-clause-plan
returns-in-Some-clause-plan c = answered c.args.blobs.now c.as_slice-blobs.result.now c.args.to c.in_ok-versions.versions.items c.deref.result.now c.deref-2.result.now c.deref-4.result.now
    c.in_ok-ways.ways.items c.deref-3.result.now c.deref-5.result.now c.args.from c.own_start-own.result c.nearest_snapshot.result (Some c.in-Some.begin) (Some c.in_ok-walk-in-Some.field-0)
    c.as_slice-blobs.ensures c.deref.ensures.value c.deref-2.ensures.value c.deref-4.ensures.value c.deref-3.ensures.value c.deref-5.ensures.value
    c.in_ok-versions.ensures c.in_ok-ways.ensures c.own_start-own.ensures c.nearest_snapshot.ensures c.in-Some.ensures
    (subst (λ w. IsWalkOf (way_at w) c.in-Some.begin c.in_ok-walk-in-Some.field-0) c.deref-in-Some.ensures.value c.in_ok-walk-in-Some.ensures)

pub returns-in-Some-clause-none : goal.returns-in-Some-clause-none
returns-in-Some-clause-none c = none_is c.args.blobs.now c.args.from c.args.to (Some c.in_ok-walk-in-Some.field-0) (returns-in-Some-clause-plan c)

pub returns-clause-plan : goal.returns-clause-plan
returns-clause-plan c = answered c.args.blobs.now c.as_slice-blobs.result.now c.args.to c.in_ok-versions.versions.items c.deref.result.now c.deref-2.result.now c.deref-4.result.now
    c.in_ok-ways.ways.items c.deref-3.result.now c.deref-5.result.now c.args.from c.own_start-own.result c.nearest_snapshot.result None None
    c.as_slice-blobs.ensures c.deref.ensures.value c.deref-2.ensures.value c.deref-4.ensures.value c.deref-3.ensures.value c.deref-5.ensures.value
    c.in_ok-versions.ensures c.in_ok-ways.ensures c.own_start-own.ensures c.nearest_snapshot.ensures c.in-None.ensures tt

pub returns-clause-none : goal.returns-clause-none
returns-clause-none c = none_is c.args.blobs.now c.args.from c.args.to None (returns-clause-plan c)
