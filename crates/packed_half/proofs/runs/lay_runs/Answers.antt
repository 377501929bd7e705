use Rattle.std.proofs.Common.{arith, ◌<◌, None}
use Rattle.std.specs.FinMap.{get}
use Rattle.type_rows.specs.Layout.{places_of}
use Rattle.packed_half.specs.Laying.{places_in}
use Rattle.packed_half.proofs.RowPlaces.{place_or, places_long}
use Rattle.packed_half.proofs.RunsKept.{begun_more}
use Rattle.packed_half.proofs.PlacedRuns.{run_room, runs_done}
use Rattle.packed_half.proofs.runs.lay_runs.Goals as goal

pub put_place-requires-clause-room : goal.put_place-requires-clause-room
put_place-requires-clause-room g c =
    run_room c.requires.can.0 c.args.half.now (g.N.NewRows.rows c.args.new.now) c.requires.can.1 c.requires.can.2 c.args.first.now c.args.second.now c.loop-place.first c.loop-place.second
    c.loop-place.place c.loop-place.end c.requires.first c.requires.second c.loop-place.invariant (omega arith)

pub loop-place-preserved : goal.loop-place-preserved
loop-place-preserved g c =
    let rows = g.N.NewRows.rows c.args.new.now in
    let count = places_of c.args.half.now.max in
    let put = c.in_ok-end.ensures in
    let inside : c.loop-place.place < count = omega arith in
    let long = places_long rows count in
    begun_more c.args.half.now.widths (places_in rows count) c.args.first.now c.args.second.now c.loop-place.first c.loop-place.second c.put_place.new.first c.put_place.new.second c.loop-place.place
    c.loop-place.end c.in_ok-end.end (get rows c.loop-place.place) (omega arith) (place_or rows count c.loop-place.place None inside) c.loop-place.invariant put.ends put.pointer put.packed put.first_front put.second_front

pub returns : goal.returns
returns g c =
    let past = c.loop-place-test.false in
    let within = c.loop-place.auto.place-end in
    runs_done c.requires.can.0 c.args.half.now (g.N.NewRows.rows c.args.new.now) c.requires.can.1 c.requires.can.2 c.args.first.now c.args.second.now c.loop-place.first c.loop-place.second
    c.loop-place.place c.loop-place.end c.loop-place.invariant (omega arith)
