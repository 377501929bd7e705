use Rattle.std.proofs.Common.{◌≡◌, ◌∙◌, to_z, of_z, arith}
use Rattle.std.specs.Int.{w64}
use Rattle.std.proofs.lemmas.Int.{ints, to_z-of_z}
use Rattle.state_blobs.proofs.Writing.{means_between}
use Rattle.state_blobs.proofs.write.write_back.Goals as goal

pub write_delta-requires-clause-states : goal.write_delta-requires-clause-states
write_delta-requires-clause-states c =
    rw (c.previous-previous.ensures.schemas, c.current-current.ensures.table, c.previous-previous.ensures.table)
    (c.can_be_written.ensures.back c.args.producer.now.schemas c.args.producer.now.previous c.args.producer.now.current c.current-current.ensures.agree c.requires.kept)

pub write_delta-requires-clause-plan : goal.write_delta-requires-clause-plan
write_delta-requires-clause-plan c =
    let made = c.args.producer.now in
    rw (c.previous-previous.ensures.schemas, c.current-current.ensures.table, c.previous-previous.ensures.table)
    (c.turned-turned.ensures made.schemas made.previous made.current (c.can_be_written.ensures.forth made.schemas made.previous made.current c.current-current.ensures.agree c.requires.kept) c.requires.plan)

pub returns-clause-large : goal.returns-clause-large
returns-clause-large c =
    let from : to_z w64 (of_z w64 c.args.tag) ≡ c.args.tag = to_z-of_z w64 c.args.tag c.ranges.tag in
    let same : to_z w64 (of_z w64 c.tag.result) ≡ c.tag.result = grind (arith, ints, to_z-of_z) in
    let to : to_z w64 (of_z w64 c.tag.result) ≡ c.args.producer.now.tag = same ∙ c.tag.ensures in
    means_between c.write_delta.result _ _ _ _ _ _ _ _ _ _ c.previous-previous.ensures.schemas c.current-current.ensures.table c.previous-previous.ensures.table from to
    c.write_delta.ensures.large
