use Rattle.write_engine.proofs.Dropping.{drop_producing}
use Rattle.write_engine.proofs.producer.drop_unnamed.Goals as goal

pub returns-clause-producing : goal.returns-clause-producing
returns-clause-producing c =
    drop_producing c.args.model.now c.args.maps.now.items c.drop_one.new.maps.items c.args.type_index c.args.ordinal c.requires.producing c.requires.leaves c.drop_one.ensures.previous c.drop_one.ensures.current
