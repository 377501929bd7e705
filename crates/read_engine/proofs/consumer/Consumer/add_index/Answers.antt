use Rattle.std.proofs.Common.{◌<◌, length, arith}
use Rattle.schema_model.specs.declared.limit.Limit.TheVariants.{Indexes}
use Rattle.schema_model.specs.Limit.{number_of_limit}
use Rattle.read_engine.specs.Indexes.{index_by}
use Rattle.read_engine.proofs.ConsumerIndexes.{added, has_with}
use Rattle.read_engine.proofs.consumer.Consumer.add_index.Goals as goal

pub invariant_of-self-2 : goal.invariant_of-self-2
invariant_of-self-2 g c =
    let few : length c.self.inside.indexes < number_of_limit Indexes = omega arith in
    has_with c.self.inside.tag c.self.inside.model c.self.inside.states c.self.inside.past c.self.inside.indexes c.self.inside.walks c.self.invariant c.args.self.now c.self.view_is (index_by c.args.type_index c.args.paths) c.in_default.ensures c.in_ok-index.index c.in_ok-index.ensures.kept few c.push.new.self c.in_ok-push.ensures.ok

pub returns-clause-added : goal.returns-clause-added
returns-clause-added g c =
    let few : length c.self.inside.indexes < number_of_limit Indexes = omega arith in
    added c.self.inside.tag c.self.inside.model c.self.inside.states c.self.inside.past c.self.inside.indexes c.self.inside.walks c.self.invariant c.args.self.now c.self.view_is (index_by c.args.type_index c.args.paths) c.in_default.ensures c.in_ok-index.index c.in_ok-index.ensures.kept few c.push.new.self c.in_ok-push.ensures.ok c.len-number.result (omega arith)
