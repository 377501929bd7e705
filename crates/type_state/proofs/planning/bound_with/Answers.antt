use Rattle.std.proofs.Common.{◌-◌, rules, inl, inr, refl, arith}
use Rattle.std.specs.Prelude.{IsSome}
use Rattle.std.specs.FinMap.{get, keys}
use Rattle.ordinal_set.specs.Ordinals.{bound_of}
use Rattle.type_rows.proofs.Entries.{least_bound}
use Rattle.type_state.specs.Differences.{rows_with}
use Rattle.type_state.proofs.Bounds.{bound_of_rows, none_above}
use Rattle.type_state.proofs.planning.bound_with.Goals as goal

pub loop-above-init : goal.loop-above-init
loop-above-init c =
    none_above c.args.rows.now.rows c.args.differences.now (bound_of (keys c.args.rows.now.rows)) c.first_bound-above.result c.requires.apart refl (omega (arith, c.first_bound-above.ensures.before, bound_of_rows c.args.rows.now.rows c.bound.result c.bound.ensures)) c.first_bound-above.ensures.added c.requires.removed

pub returns-then-is_live_at : goal.returns-then-is_live_at
returns-then-is_live_at c =
    let live : IsSome (get (rows_with c.args.rows.now.rows c.args.differences.now) (c.loop-above.above - 1)) = search rules in
    least_bound (rows_with c.args.rows.now.rows c.args.differences.now) c.loop-above.above c.loop-above.invariant (inr (c.loop-above.above - 1, omega (arith, c.loop-above-test.true), live))

pub returns : goal.returns
returns c = least_bound (rows_with c.args.rows.now.rows c.args.differences.now) 0 (λ o live. (let low = c.loop-above.invariant o live in omega (arith, low, c.loop-above-test.false))) (inl refl)
