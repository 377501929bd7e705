use Rattle.std.proofs.Common.{arith, get_or}
use Rattle.std.proofs.lemmas.List.{take_more}
use Rattle.bucket_codec.proofs.Fills.{has_room, fill_more, pairs_few}
use Rattle.bucket_codec.proofs.run.Run.fill_map.Goals as goal

pub insert-requires-clause-room : goal.insert-requires-clause-room
insert-requires-clause-room c =
    has_room _ _ c.args.self.size c.loop-key.invariant.filled (omega (arith, pairs_few c.args.pairs.now c.loop-key.key-index (omega arith), c.requires.room))

pub loop-key-preserved : goal.loop-key-preserved
loop-key-preserved c =
    fill_more c.args.words.now c.loop-key.words c.insert.new.words c.args.self.key_width c.args.self.value_width c.args.self.start c.args.self.size _ _ (get_or c.args.pairs.now c.loop-key.key-index (0, 0)).0 (get_or c.args.pairs.now c.loop-key.key-index (0, 0)).1
    (take_more c.args.pairs.now c.loop-key.key-index (0, 0) (omega arith)) c.insert.ensures.range c.loop-key.invariant c.insert.ensures.filled c.insert.ensures.laid c.insert.ensures.zeros c.insert.ensures.front c.insert.ensures.back
