use Rattle.write_engine.proofs.Dropping.{drop_current, drop_previous, live_among}
use Rattle.write_engine.proofs.StateRows.{within}
use Rattle.write_engine.proofs.states.drop_row.Goals as goal

pub drop_row-requires : goal.drop_row-requires
drop_row-requires c = live_among c.args.maps.now c.args.type_index c.args.ordinal c.index-maps-type_index.result c.requires

pub returns : goal.returns
returns c =
    let inside = within (λ s. s.current) c.args.maps.now c.args.type_index c.args.ordinal c.requires in
    record {
      previous = drop_previous c.args.maps.now c.args.type_index c.args.ordinal c.drop_row.new.self c.index-maps-type_index.result inside c.drop_row.ensures.dropped;
      current = drop_current c.args.maps.now c.args.type_index c.args.ordinal c.drop_row.new.self c.index-maps-type_index.result inside c.drop_row.ensures.dropped;
    }
