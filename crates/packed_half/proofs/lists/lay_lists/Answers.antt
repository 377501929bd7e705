use Rattle.std.proofs.Common.{refl, arith}
use Rattle.std.specs.FinMap.{get}
use Rattle.list_codec.specs.Packing.{elements_of_place}
use Rattle.packed_half.proofs.PlacedLists.{lists_begun, list_room, list_more, lists_done}
use Rattle.packed_half.proofs.lists.lay_lists.Goals as goal

pub loop-place-init : goal.loop-place-init
loop-place-init g c =
    lists_begun c.requires.can.0 c.args.half.now (g.N.NewRows.rows c.args.new.now) c.requires.can.1 c.args.first.now c.args.second.now c.requires.first c.requires.second

pub put_place-requires-clause-room : goal.put_place-requires-clause-room
put_place-requires-clause-room g c =
    list_room c.requires.can.0 c.args.half.now (g.N.NewRows.rows c.args.new.now) c.requires.can.1 c.loop-place.first c.loop-place.second c.loop-place.place c.loop-place.end (get (g.N.NewRows.rows c.args.new.now) c.loop-place.place)
    (elements_of_place (get (g.N.NewRows.rows c.args.new.now) c.loop-place.place)) c.loop-place.invariant (omega arith) refl refl

pub loop-place-preserved : goal.loop-place-preserved
loop-place-preserved g c =
    let put = c.in_ok-end.ensures in
    list_more c.requires.can.0 c.args.half.now (g.N.NewRows.rows c.args.new.now) c.requires.can.1 c.loop-place.first c.loop-place.second c.put_place.new.first c.put_place.new.second c.loop-place.place
    c.loop-place.end c.in_ok-end.end (get (g.N.NewRows.rows c.args.new.now) c.loop-place.place) (elements_of_place (get (g.N.NewRows.rows c.args.new.now) c.loop-place.place)) c.loop-place.invariant (omega arith) refl refl put.ends put.spelled put.earlier
    put.pointer_bits put.element_bits put.pointer c.put_place.auto.first c.put_place.auto.second

pub returns : goal.returns
returns g c =
    let past = c.loop-place-test.false in
    let within = c.loop-place.auto.place-end in
    lists_done c.requires.can.0 c.args.half.now (g.N.NewRows.rows c.args.new.now) c.requires.can.1 c.loop-place.first c.loop-place.second c.loop-place.place c.loop-place.end c.loop-place.invariant
    (omega arith)
