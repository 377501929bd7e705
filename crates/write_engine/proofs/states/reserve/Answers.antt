use Rattle.write_engine.proofs.Reserving.{reserved_current, reserved_previous}
use Rattle.write_engine.proofs.states.reserve.Goals as goal

pub returns : goal.returns
returns c = record {
  previous = reserved_previous c.args.maps.now c.args.type_index c.reserve.new.self c.index-maps-type_index.result c.requires.known c.reserve.ensures;
  current = reserved_current c.args.maps.now c.args.type_index c.reserve.new.self c.index-maps-type_index.result c.requires.known c.reserve.ensures;
}
