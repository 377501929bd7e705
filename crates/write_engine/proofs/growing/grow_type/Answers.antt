use Rattle.std.proofs.Common.{arith}
use Rattle.write_engine.specs.Grown.{seen_of}
use Rattle.write_engine.proofs.GrownTypes.{bound_seen}
use Rattle.write_engine.proofs.RestoredTypes.{rows_done, rows_start}
use Rattle.write_engine.proofs.growing.grow_type.Goals as goal

pub loop-ordinal-init : goal.loop-ordinal-init
loop-ordinal-init c = rows_start (seen_of c.args.model.now c.args.grown.now c.args.maps.now) c.args.type_index c.new-map.result c.new-map.ensures

pub returns : goal.returns
returns c =
    rows_done (seen_of c.args.model.now c.args.grown.now c.args.maps.now) c.args.type_index c.previous_bound-ordinal-end.result c.loop-ordinal.ordinal c.loop-ordinal.map
    (bound_seen c.args.model.now c.args.grown.now c.args.maps.now c.requires.may c.args.type_index c.previous_bound-ordinal-end.result c.index-maps-type_index.result c.requires.known c.index-maps-type_index.is
    c.previous_bound-ordinal-end.ensures)
    (omega arith) c.loop-ordinal.invariant
