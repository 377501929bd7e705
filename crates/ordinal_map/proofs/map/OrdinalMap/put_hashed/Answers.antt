use Rattle.std.proofs.Common.{◌+◌, ◌≤◌, ◌^◌, length, sym, ap, subst, ◌∙◌, refl, arith}
use Rattle.std.specs.Prelude.{Ok}
use Rattle.ordinal_map.specs.Assign.{IsPut, TellsPut}
use Rattle.ordinal_map.specs.KeptRows.{AreKept}
use Rattle.ordinal_map.specs.States.{States}
use Rattle.ordinal_map.proofs.Keeping.{agree_seen, alike_kept, alike_states, found_at, found_none, free_under, no_ordinal, refused, seen_holds, states_of, taken_by}
use Rattle.ordinal_map.proofs.Placing.{put_kept, put_tells}
use Rattle.ordinal_map.proofs.map.OrdinalMap.put_hashed.Goals as goal

pub enter-requires : goal.enter-requires
enter-requires c =
    let stand = found_at c.as_slice.result.now c.self.inside.rows.items c.args.row c.find.result c.in-Some.ordinal c.as_slice.ensures.value c.find.ensures c.in-Some.is in
    let holds = seen_holds c.self.inside.rows.items c.self.inside.chains c.self.inside.previous c.self.inside.current c.self.inside.filled c.self.invariant c.args.self.now c.self.view_is c.args.row c.in-Some.ordinal stand in
    taken_by c.args.self.now.previous c.args.self.now.current c.args.row c.in-Some.ordinal holds

pub returns-in-Some-clause-tells : goal.returns-in-Some-clause-tells
returns-in-Some-clause-tells c =
    let stand = found_at c.as_slice.result.now c.self.inside.rows.items c.args.row c.find.result c.in-Some.ordinal c.as_slice.ensures.value c.find.ensures c.in-Some.is in
    c.enter.ensures.tells c.args.row (seen_holds c.self.inside.rows.items c.self.inside.chains c.self.inside.previous c.self.inside.current c.self.inside.filled c.self.invariant c.args.self.now c.self.view_is c.args.row c.in-Some.ordinal stand)

pub returns-then-ordinal-ge-MAX_ORDINALS-clause-tells : goal.returns-then-ordinal-ge-MAX_ORDINALS-clause-tells
returns-then-ordinal-ge-MAX_ORDINALS-clause-tells c =
    let none = found_none c.as_slice.result.now c.self.inside.rows.items c.args.row c.find.result c.as_slice.ensures.value c.find.ensures c.in_default.is in (
      subst (λ (s : States). IsPut s.previous s.current c.args.row (2 ^ 22)) c.self.view_is (no_ordinal c.self.inside.rows.items c.self.inside.chains c.self.inside.previous c.self.inside.current c.self.inside.filled c.self.invariant c.args.row c.least_free_from-ordinal.result none c.least_free_from-ordinal.ensures (omega arith)),
      refl,
    )

pub returns-then-ordinal-ge-MAX_ORDINALS-clause-agree : goal.returns-then-ordinal-ge-MAX_ORDINALS-clause-agree
returns-then-ordinal-ge-MAX_ORDINALS-clause-agree c = agree_seen c.self.inside.rows.items c.self.inside.chains c.self.inside.previous c.self.inside.current c.self.inside.filled c.args.self.now c.self.invariant c.self.view_is

pub invariant_of-self : goal.invariant_of-self
invariant_of-self c =
    let few : length c.place_row.new.rows.items ≤ 2 ^ 22 = omega (arith, c.place_row.ensures.few, c.self.invariant.few) in
    subst (λ set. AreKept c.place_row.new.rows.items c.place_row.new.chains c.self.inside.previous set c.self.inside.filled) (sym c.in_err-place_row.ensures.unput)
    (alike_kept c.self.inside.rows.items c.self.inside.chains c.self.inside.previous c.self.inside.current c.self.inside.filled c.self.invariant c.place_row.new.rows.items c.place_row.new.chains c.in_err-place_row.ensures.alike few c.place_row.ensures.roomy)

pub returns-in_err-place_row-clause-tells : goal.returns-in_err-place_row-clause-tells
returns-in_err-place_row-clause-tells c =
    refused c.args.self.now c.args.row (states_of c.place_row.new.rows.items c.self.inside.previous c.place_row.new.set) c.from_residual.result c.from_residual.ensures.1
    (ap (states_of c.place_row.new.rows.items c.self.inside.previous) c.in_err-place_row.ensures.unput
    ∙ alike_states c.self.inside.rows.items c.place_row.new.rows.items c.self.inside.chains c.place_row.new.chains c.self.inside.previous c.self.inside.current c.in_err-place_row.ensures.alike
    ∙ c.self.view_is)

pub returns-in_err-place_row-clause-agree : goal.returns-in_err-place_row-clause-agree
returns-in_err-place_row-clause-agree c = agree_seen c.self.inside.rows.items c.self.inside.chains c.self.inside.previous c.self.inside.current c.self.inside.filled c.args.self.now c.self.invariant c.self.view_is

pub invariant_of-self-2 : goal.invariant_of-self-2
invariant_of-self-2 c =
    let none = found_none c.as_slice.result.now c.self.inside.rows.items c.args.row c.find.result c.as_slice.ensures.value c.find.ensures c.in_default.is in
    let o = c.least_free_from-ordinal.result in
    let free = free_under c.self.inside.rows.items c.self.inside.chains c.self.inside.previous c.self.inside.current c.self.inside.filled c.self.invariant o c.least_free_from-ordinal.ensures.free c.least_free_from-ordinal.ensures.other_free in
    let few : length c.place_row.new.rows.items ≤ 2 ^ 22 = omega (arith, c.place_row.ensures.few, c.self.invariant.few) in
    subst (λ set. AreKept c.place_row.new.rows.items c.place_row.new.chains c.self.inside.previous set (o + 1)) (sym c.in_ok-place_row.ensures.put)
    (put_kept c.self.inside.rows.items c.self.inside.chains c.self.inside.previous c.self.inside.current c.self.inside.filled c.self.invariant c.args.self.now c.self.view_is c.args.row o c.args.hash c.place_row.new.rows.items c.place_row.new.chains c.requires c.in_ok-place_row.ensures.placed none free few c.place_row.ensures.roomy c.least_free_from-ordinal.ensures)

pub returns-clause-tells : goal.returns-clause-tells
returns-clause-tells c =
    let none = found_none c.as_slice.result.now c.self.inside.rows.items c.args.row c.find.result c.as_slice.ensures.value c.find.ensures c.in_default.is in
    let o = c.least_free_from-ordinal.result in
    let free = free_under c.self.inside.rows.items c.self.inside.chains c.self.inside.previous c.self.inside.current c.self.inside.filled c.self.invariant o c.least_free_from-ordinal.ensures.free c.least_free_from-ordinal.ensures.other_free in
    let few : length c.place_row.new.rows.items ≤ 2 ^ 22 = omega (arith, c.place_row.ensures.few, c.self.invariant.few) in
    subst (λ set. TellsPut c.args.self.now c.args.row (states_of c.place_row.new.rows.items c.self.inside.previous set) (Ok o)) (sym c.in_ok-place_row.ensures.put)
    (put_tells c.self.inside.rows.items c.self.inside.chains c.self.inside.previous c.self.inside.current c.self.inside.filled c.self.invariant c.args.self.now c.self.view_is c.args.row o c.args.hash c.place_row.new.rows.items c.place_row.new.chains c.requires c.in_ok-place_row.ensures.placed none free few c.place_row.ensures.roomy c.least_free_from-ordinal.ensures (omega arith))

pub returns-clause-agree : goal.returns-clause-agree
returns-clause-agree c = agree_seen c.self.inside.rows.items c.self.inside.chains c.self.inside.previous c.self.inside.current c.self.inside.filled c.args.self.now c.self.invariant c.self.view_is
