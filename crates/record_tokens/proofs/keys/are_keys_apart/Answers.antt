use Rattle.std.proofs.Common.{◌+◌, length, arith}
use Rattle.std.proofs.lemmas.Slice.{between_to_end}
use Rattle.record_trees.specs.Tree.{plain_pair}
use Rattle.record_trees.proofs.Passing.{refuted}
use Rattle.record_json.proofs.ApartKeys.{key_passed, key_repeated, keys_passed}
use Rattle.record_tokens.proofs.keys.are_keys_apart.Goals as goal

pub returns-then-is_key_among : goal.returns-then-is_key_among
returns-then-is_key_among c =
    key_repeated plain_pair c.args.pairs.now c.loop-place.place c.index-pairs-place.result _ c.loop-place-test.true c.index-pairs-place.is (between_to_end c.args.pairs.now (c.loop-place.place + 1) (length c.args.pairs.now) (omega arith)) c.loop-place.invariant
    (c.is_key_among.ensures.0 c.if-is_key_among.true)

pub loop-place-preserved : goal.loop-place-preserved
loop-place-preserved c =
    key_passed plain_pair c.args.pairs.now c.loop-place.place c.index-pairs-place.result _ c.loop-place-test.true c.index-pairs-place.is (between_to_end c.args.pairs.now (c.loop-place.place + 1) (length c.args.pairs.now) (omega arith)) c.loop-place.invariant
    (refuted c.is_key_among.result c.if-is_key_among.false c.is_key_among.ensures)

pub returns : goal.returns
returns c = keys_passed plain_pair c.args.pairs.now c.loop-place.place c.loop-place-test.false c.loop-place.invariant
