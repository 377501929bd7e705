use Rattle.std.proofs.Common.{arith, get_or}
use Rattle.bucket_codec.proofs.Fills.{has_room, fill_more, elements_more, element_at, elements_few}
use Rattle.bucket_codec.proofs.run.Run.fill_set.Goals as goal

pub insert-requires-clause-room : goal.insert-requires-clause-room
insert-requires-clause-room c =
    has_room _ _ c.args.self.size c.loop-index.invariant.filled (omega (arith, elements_few c.args.elements.now c.loop-index.index (omega arith), c.requires.room))

pub insert-requires-clause-key : goal.insert-requires-clause-key
insert-requires-clause-key c = element_at c.args.elements.now _ _ c.requires.keys (omega arith)

pub loop-index-preserved : goal.loop-index-preserved
loop-index-preserved c =
    fill_more c.args.words.now c.loop-index.words c.insert.new.words c.args.self.key_width c.args.self.value_width c.args.self.start c.args.self.size _ _ (get_or c.args.elements.now c.loop-index.index 0) 0
    (elements_more c.args.elements.now c.loop-index.index (omega arith)) c.insert.ensures.range
    c.loop-index.invariant c.insert.ensures.filled c.insert.ensures.laid c.insert.ensures.zeros c.insert.ensures.front c.insert.ensures.back
