use Rattle.write_engine.proofs.GrownStates.{fresh_more}
use Rattle.write_engine.proofs.growing.fresh_maps.Goals as goal

pub loop-type_index-preserved : goal.loop-type_index-preserved
loop-type_index-preserved c =
    fresh_more c.args.model.now c.args.grown.now c.args.maps.now c.loop-type_index.type_index c.loop-type_index.fresh.items c.push.new.self.items c.in_ok-map.map c.loop-type_index.invariant c.in_ok-map.ensures
    c.in_ok-push.ensures.items
