use Rattle.std.proofs.Common.{◌+◌, ◌^◌, ◌<◌, ◌≤◌, ℕ, List, slice_index, subst, arith}
use Rattle.type_rows.proofs.FoundRows.{listed_spells, read_there}
use Rattle.type_rows.proofs.RunsLaid.{run_unheld, runs_more}
use Rattle.type_rows.proofs.runs.lay_out_runs.Goals as goal

pub items_of-requires-clause-spelled : goal.items_of-requires-clause-spelled
items_of-requires-clause-spelled c =
    listed_spells c.args.shape.now c.args.section.now c.args.live.now c.loop-ordinal.ordinal-index c.from-place.result c.requires.live c.requires.leads
    (read_there c.args.live.now c.loop-ordinal.ordinal-index c.from-place.result (omega (arith, c.loop-ordinal-test.true)) c.from-place.ensures)

pub returns-in-None-clause-tells : goal.returns-in-None-clause-tells
returns-in-None-clause-tells c =
    let shape = c.args.shape.now in
    let section = c.args.section.now in
    let place = c.from-place.result in
    let index = c.loop-ordinal.ordinal-index in
    let wide : 2 ^ slice_index section.widths 0 ≤ c.loop-ordinal.items + c.items_of.result = subst (λ (widths : List ℕ). 2 ^ slice_index widths 0 ≤ c.loop-ordinal.items + c.items_of.result) c.as_slice.ensures c.in-None.ensures in
    run_unheld shape section c.args.live.now index place c.loop-ordinal.items c.requires.runs c.requires.live c.requires.leads
    (read_there c.args.live.now index place (omega (arith, c.loop-ordinal-test.true)) c.from-place.ensures) c.loop-ordinal.invariant (omega (arith, wide, c.items_of.ensures))

pub loop-ordinal-preserved : goal.loop-ordinal-preserved
loop-ordinal-preserved c =
    let shape = c.args.shape.now in
    let section = c.args.section.now in
    let place = c.from-place.result in
    let index = c.loop-ordinal.ordinal-index in
    let low : c.in-Some.end < 2 ^ slice_index section.widths 0 = subst (λ (widths : List ℕ). c.in-Some.end < 2 ^ slice_index widths 0) c.as_slice.ensures c.in-Some.ensures.1 in
    runs_more shape section c.args.live.now index place c.loop-ordinal.items c.in-Some.end c.requires.runs c.requires.live
    (read_there c.args.live.now index place (omega (arith, c.loop-ordinal-test.true)) c.from-place.ensures) c.loop-ordinal.invariant (omega (arith, c.in-Some.ensures.0, c.items_of.ensures)) low
