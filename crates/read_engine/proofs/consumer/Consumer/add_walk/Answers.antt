use Rattle.std.proofs.Common.{◌<◌, length, arith}
use Rattle.schema_model.specs.declared.limit.Limit.TheVariants.{Walks}
use Rattle.schema_model.specs.Limit.{number_of_limit}
use Rattle.read_engine.proofs.Walked.{has_walk, walk_added}
use Rattle.read_engine.proofs.consumer.Consumer.add_walk.Goals as goal

pub invariant_of-self-2 : goal.invariant_of-self-2
invariant_of-self-2 g c =
    let few : length c.self.inside.walks < number_of_limit Walks = omega arith in
    has_walk c.self.inside.tag c.self.inside.model c.self.inside.states c.self.inside.past c.self.inside.indexes c.self.inside.walks c.self.invariant c.args.self.now c.self.view_is c.args.path c.in_default.ensures c.in_ok-index.index c.in_ok-index.ensures.kept few c.push.new.self c.in_ok-push.ensures.ok

pub returns-clause-added : goal.returns-clause-added
returns-clause-added g c =
    let few : length c.self.inside.walks < number_of_limit Walks = omega arith in
    walk_added c.self.inside.tag c.self.inside.model c.self.inside.states c.self.inside.past c.self.inside.indexes c.self.inside.walks c.self.invariant c.args.self.now c.self.view_is c.args.path c.in_default.ensures c.in_ok-index.index c.in_ok-index.ensures.kept few c.push.new.self c.in_ok-push.ensures.ok c.len-number.result (omega arith)
