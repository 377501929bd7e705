use Rattle.std.proofs.Common.{◌≡◌, ◌∙◌, w64, of_z, to_z, arith}
use Rattle.std.proofs.lemmas.Int.{ints, to_z-of_z}
use Rattle.read_engine.proofs.Consumers.{tag_or_zero}
use Rattle.read_engine.proofs.consumer.Consumer.tag_or_zero.Goals as goal

pub returns : goal.returns
returns c =
    let same : to_z w64 (of_z w64 c.unwrap_or.result) ≡ c.unwrap_or.result = grind (arith, ints, to_z-of_z) in
    same ∙ c.unwrap_or.ensures ∙ tag_or_zero c.self.inside.tag c.self.inside.model c.self.inside.states c.self.inside.past c.self.inside.indexes c.self.inside.walks c.self.invariant c.args.self.now c.self.view_is
